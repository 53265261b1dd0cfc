use Rattle.dh_store.specs.Cells.{code_core}
use Rattle.dh_types.proofs.ClosedRulings.{closed-operator}
use Rattle.dh_infer_ops.proofs.groups.operator_step.Goals as goal

pub returns-clause-closed : goal.returns-clause-closed
returns-clause-closed c =
    closed-operator (code_core c.answer.new.codes) (code_core c.args.codes.now) c.args.found.now c.args.op.now c.args.types.now c.requires.closed c.requires.found_closed c.answer.result c.answer.ensures.rule
