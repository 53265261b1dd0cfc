use Rattle.dh_norm.proofs.Running.{handed-on}
use Rattle.dh_infer.specs.declared.frames.State.TheVariants as states
use Rattle.dh_infer.specs.Inside.Machine.{Halts}
use Rattle.dh_infer.proofs.AskedRules.{formed-as, formed-stops}
use Rattle.dh_infer.proofs.asking.formed.Goals as goal

pub returns-in_err-normal-clause-err : goal.returns-in_err-normal-clause-err
returns-in_err-normal-clause-err c =
    handed-on c.from_residual.result c.in_err-normal.field-0.0 (λ h. Halts c.args.typer.now (states.Rule c.args.code c.args.types.now c.args.found.now) c.args.purse.now.left h) c.from_residual.ensures.1
    (formed-stops c.args.typer.now c.args.code c.args.types.now c.args.found.now c.args.purse.now.left c.requires.ready c.args.typed c.requires.asked c.in_err-normal.field-0.0 c.in_err-normal.ensures.err)

pub returns-clause-ok : goal.returns-clause-ok
returns-clause-ok c =
    formed-as c.args.typer.now c.args.code c.args.types.now c.args.found.now c.args.purse.now.left c.requires.ready c.args.typed c.requires.asked c.known_form.new.codes c.in_ok-normal.ensures.grows c.in_ok-normal.normal c.known_form.new.purse.left
    c.in_ok-normal.ensures.ok
