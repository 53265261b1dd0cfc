use Rattle.std.proofs.Common.{◌≡◌, ◌∷◌, map, drop}
use Rattle.dh_syntax.specs.Text.Literals.{common, counted_lines, indentation}
use Rattle.dh_literals.proofs.LinesShared.{later_indentations}
use Rattle.dh_literals.proofs.indentation.indented_by.Given as goal

abbrev pub invariant-loop-piece : goal.invariant-loop-piece
invariant-loop-piece l =
    common (l.shared ∷ later_indentations (drop l.piece-index l.later)) ≡ common (map indentation (counted_lines l.pieces))
