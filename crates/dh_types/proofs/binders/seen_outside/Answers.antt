use Rattle.std.proofs.Common.{sym, ◌∙◌}
use Rattle.dh_types.proofs.BoundVariables.{outside-down}
use Rattle.dh_types.proofs.binders.seen_outside.Goals as goal

pub returns-else-branch-clause-view : goal.returns-else-branch-clause-view
returns-else-branch-clause-view c = outside-down _ c.requires.closed (sym c.in_ok-mentions.ensures ∙ c.if-branch.false)
