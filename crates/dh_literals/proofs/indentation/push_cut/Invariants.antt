use Rattle.std.proofs.Common.{◌≡◌, ◌++◌, length, true}
use denote.Text.{Utf8}
use denote.Shadow.{shadow}
use Rattle.std.specs.List.{list_all}
use Rattle.std.specs.String.{string_bytes}
use Rattle.dh_syntax.specs.Text.Literals.{lines_of}
use Rattle.dh_literals.specs.Inside.Indentation.{is_blank_before}
use Rattle.dh_literals.proofs.LinesCut.{cut_text}
use Rattle.dh_literals.proofs.indentation.push_cut.Given as goal

abbrev pub invariant-loop-line : goal.invariant-loop-line
invariant-loop-line l =
    shadow (Utf8 l.rest) × (list_all (is_blank_before l.width) (lines_of l.rest) ≡ true) × (string_bytes l.text ++ cut_text l.width l.rest ≡ string_bytes l.fn.text ++ cut_text l.width l.lines)

abbrev pub decreases-loop-line : goal.decreases-loop-line
decreases-loop-line l = length l.rest
