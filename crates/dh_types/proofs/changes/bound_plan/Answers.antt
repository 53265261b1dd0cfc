use Rattle.dh_store.specs.Cells.{code_core}
use Rattle.dh_types.proofs.ChangedRows.{bound-other, bound-sought}
use Rattle.dh_types.proofs.changes.bound_plan.Goals as goal

pub returns-then-index-level : goal.returns-then-index-level
returns-then-index-level c = λ cs. bound-sought (code_core cs) c.args.change c.in-Puts.field-0 c.args.index c.args.level c.in-Puts.is c.if-index-level.true

pub returns-else-index-level : goal.returns-else-index-level
returns-else-index-level c = λ cs. bound-other (code_core cs) c.args.change c.in-Puts.field-0 c.args.index c.args.level c.in-Puts.is c.if-index-level.false
