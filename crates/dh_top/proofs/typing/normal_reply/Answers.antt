use Rattle.std.proofs.Common.{refl}
use Rattle.dh_syntax.specs.Expressions.Bridge.{term}
use Rattle.dh_top.proofs.TypedReplies.{form_printed, form_limited}
use Rattle.dh_top.proofs.typing.normal_reply.Goals as goal

pub returns-in-Ok : goal.returns-in-Ok
returns-in-Ok c = form_printed c.printed_line.result (term c.args.e.now) (term c.in-Ok.form) c.requires.typed c.in-Ok.ensures.ok c.in-Ok.ensures.shallow c.printed_line.ensures

pub returns-in-Err : goal.returns-in-Err
returns-in-Err c = form_limited c.limited.result _ (term c.args.e.now) c.in-Err.fault refl c.requires.typed c.in-Err.ensures.err c.limited.ensures
