use Rattle.std.proofs.Common.{◌≡◌, ◌++◌, map, drop, true}
use Rattle.std.specs.List.{list_all}
use Rattle.dh_syntax.specs.Text.Literals.{counted_later, cut_pieces}
use Rattle.dh_literals.specs.Inside.Indentation.{is_blank_before}
use Rattle.dh_literals.proofs.LinesCut.{cut_later_text}
use Rattle.dh_literals.proofs.indentation.unindent.Given as goal

abbrev pub invariant-loop-piece : goal.invariant-loop-piece
invariant-loop-piece l =
    (list_all (is_blank_before l.width) (counted_later (drop l.piece-index l.later)) ≡ true) × (l.made ++ map (cut_later_text l.width) (drop l.piece-index l.later) ≡ cut_pieces l.width l.fn.pieces)
