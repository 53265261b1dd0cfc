use Rattle.dh_syntax.specs.Expressions.Bridge.{term}
use Rattle.dh_work.proofs.Comings.{norm_limited, normal_came}
use Rattle.dh_work.proofs.codes.typed.Goals as goal

pub returns-in-Ok : goal.returns-in-Ok
returns-in-Ok c =
    normal_came c.args.key.now (term c.args.code.now) c.args.allow.now c.in-Ok.value c.in_ok-origin.origin c.requires.code c.requires.typed c.in-Ok.ensures.ok c.in_ok-origin.ensures
    c.in-Ok.ensures.formed c.in-Ok.ensures.shallow

pub returns-in-Err : goal.returns-in-Err
returns-in-Err c =
    norm_limited c.args.key.now (term c.args.code.now) c.args.allow.now c.in-Err.fault c.unnormalised.result c.requires.typed c.in-Err.ensures.err c.unnormalised.ensures
