use Rattle.std.proofs.Common.{◌≡◌, take}
use Rattle.dh_syntax.proofs.copies.copy_pieces.Given as goal

abbrev pub invariant-loop-piece : goal.invariant-loop-piece
invariant-loop-piece l = l.done ≡ take l.piece-index l.piece-items
