use Rattle.std.proofs.Common.{◌≡◌, ◌++◌, drop, map}
use Rattle.std.specs.List.{concat}
use Rattle.dh_syntax.specs.Bytes.Cbor.{text}
use Rattle.dh_encode.proofs.writer.Writer.push_pieces.Given as goal

abbrev pub invariant-loop-piece : goal.invariant-loop-piece
invariant-loop-piece l = l.self ++ concat (map text (drop l.piece-index l.pieces)) ≡ l.initial.self ++ concat (map text l.pieces)
