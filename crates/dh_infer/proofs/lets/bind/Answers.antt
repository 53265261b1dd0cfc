use Rattle.dh_norm.proofs.Running.{handed-on}
use Rattle.dh_infer.proofs.Holding.{value-halts}
use Rattle.dh_infer.proofs.LetSteps.{value-bound}
use Rattle.dh_infer.proofs.lets.bind.Goals as goal

pub returns-in_err-held-clause-err : goal.returns-in_err-held-clause-err
returns-in_err-held-clause-err c =
    handed-on c.from_residual.result c.in_err-held.field-0.0 _ c.from_residual.ensures.1
    (value-halts c.args.typer.now c.args.value c.args.body c.args.part c.args.purse.now.left c.requires.ready c.in_err-held.field-0.0 c.in_err-held.ensures.err)

pub returns-clause-ok : goal.returns-clause-ok
returns-clause-ok c =
    value-bound c.args.typer.now c.shared_normal.new.typer c.args.value c.args.body c.args.part c.args.purse.now.left c.in_ok-held.held c.shared_normal.new.purse.left c.requires.ready
    c.in_ok-held.ensures.rest c.in_ok-held.ensures.grows c.in_ok-held.ensures.ok c.push-2.new.self c.push.new.self c.in_ok-push-2.ensures.ok c.in_ok-push.ensures.ok
