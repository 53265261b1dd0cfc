use Rattle.std.proofs.Common.{drop, ◌≡◌, ◌+◌, ◌*◌}
use Rattle.dh_syntax.specs.Typing.NamelessTyping.{mentions_row}
use Rattle.dh_store.specs.Cells.{code_core, code_row}
use Rattle.dh_types.proofs.binders.+walked.Given as goal

abbrev pub decreases-walked : goal.decreases-walked
decreases-walked l = 2 * l.depth + 1

abbrev pub decreases-walked_row : goal.decreases-walked_row
decreases-walked_row l = 2 * l.depth + 2

abbrev pub invariant-walked_row-loop-kid : goal.invariant-walked_row-loop-kid
invariant-walked_row-loop-kid l = mentions_row l.level (code_row (code_core l.codes) (drop l.kid-index l.kids)) ≡ mentions_row l.level (code_row (code_core l.codes) l.kids)
