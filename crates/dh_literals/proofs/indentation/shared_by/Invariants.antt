use Rattle.std.proofs.Common.{◌≡◌, length}
use denote.Text.{Utf8}
use denote.Shadow.{shadow}
use Rattle.std.specs.Option.{option_copied}
use Rattle.dh_literals.specs.Inside.Indentation.{common_with}
use Rattle.dh_literals.proofs.LinesShared.{indentations}
use Rattle.dh_literals.proofs.indentation.shared_by.Given as goal

abbrev pub invariant-loop-line : goal.invariant-loop-line
invariant-loop-line l =
    shadow (Utf8 l.rest) × (common_with (option_copied l.shared) (indentations l.rest) ≡ common_with (option_copied l.fn.so_far) (indentations l.lines))

abbrev pub decreases-loop-line : goal.decreases-loop-line
decreases-loop-line l = length l.rest
