use Rattle.dh_norm.proofs.Running.{handed-on}
use Rattle.dh_infer.proofs.Holding.{annotation-halts}
use Rattle.dh_infer.proofs.LetSteps.{annotation-agrees, annotation-differs}
use Rattle.dh_infer.proofs.lets.let_value.Goals as goal

pub returns-in_err-wanted-clause-err : goal.returns-in_err-wanted-clause-err
returns-in_err-wanted-clause-err c =
    handed-on c.from_residual.result c.in_err-wanted.field-0.0 _ c.from_residual.ensures.1
    (annotation-halts c.args.typer.now c.args.annotation c.args.value c.args.body c.args.typed c.args.purse.now.left c.requires.ready c.in_err-wanted.field-0.0 c.in_err-wanted.ensures.err)

pub returns-then-branch-clause-ok : goal.returns-then-branch-clause-ok
returns-then-branch-clause-ok c =
    annotation-agrees c.args.typer.now c.normal_in_scope.new.typer c.args.annotation c.args.value c.args.body c.args.typed c.args.purse.now.left c.in_ok-wanted.wanted
    c.normal_in_scope.new.purse.left c.requires.ready c.in_ok-wanted.ensures.rest c.in_ok-wanted.ensures.grows c.in_ok-wanted.ensures.ok c.in_ok-same.field-0 c.in_ok-same.ensures c.if-branch.true

pub returns-else-branch-clause-ok : goal.returns-else-branch-clause-ok
returns-else-branch-clause-ok c =
    annotation-differs c.args.typer.now c.normal_in_scope.new.typer c.args.annotation c.args.value c.args.body c.args.typed c.args.purse.now.left c.in_ok-wanted.wanted
    c.normal_in_scope.new.purse.left c.requires.ready c.in_ok-wanted.ensures.rest c.in_ok-wanted.ensures.grows c.in_ok-wanted.ensures.ok c.in_ok-same.field-0 c.in_ok-same.ensures c.if-branch.false
    c.refuse.result c.refuse.ensures
