use Rattle.std.proofs.Common.{sym, subst as along}
use Rattle.dh_types.specs.ClosedSteps.{AreTypesClosed}
use Rattle.dh_store.specs.Cells.{code_core}
use Rattle.dh_infer.proofs.AskedRules.{asked-by, rule-found, rule-node, rule-types}
use Rattle.dh_infer.proofs.asking.step_of.Goals as goal

pub operator_of-requires-clause-node : goal.operator_of-requires-clause-node
operator_of-requires-clause-node c = rule-node c.args.typer.now c.args.code c.args.types.now c.args.found.now c.requires.ready

pub group_step-requires-clause-closed : goal.group_step-requires-clause-closed
group_step-requires-clause-closed c =
    along (AreTypesClosed (code_core c.args.typer.now.codes)) (sym c.as_slice.ensures.value) (rule-types c.args.typer.now c.args.code c.args.types.now c.args.found.now c.requires.ready)

pub group_step-requires-clause-found_closed : goal.group_step-requires-clause-found_closed
group_step-requires-clause-found_closed c = rule-found c.args.typer.now c.args.code c.args.types.now c.args.found.now c.requires.ready

pub returns-clause-asked : goal.returns-clause-asked
returns-clause-asked c =
    asked-by c.args.typer.now c.args.code c.args.types.now c.args.found.now c.requires.ready c.group_step.new.codes c.group_step.ensures.grows c.in_ok-op.op c.in_ok-op.ensures c.as_slice.result.now c.as_slice.ensures.value
    c.group_step.result c.group_step.ensures.there c.group_step.ensures.rule
