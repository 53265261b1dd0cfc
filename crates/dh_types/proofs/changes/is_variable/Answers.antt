use Rattle.std.proofs.Common.{sym, ◌∙◌}
use Rattle.dh_types.proofs.ChangedRows.{is-variable, no-bytes}
use Rattle.dh_types.proofs.changes.is_variable.Goals as goal

pub returns-then-is_empty : goal.returns-then-is_empty
returns-then-is_empty c = is-variable c.args.variable c.args.label.now c.args.index (sym c.as_str.ensures ∙ no-bytes _ (sym c.is_empty.ensures ∙ c.if-is_empty.true))
