use Rattle.std.proofs.Common.{◌≡◌, ◌+◌, ◌*◌, ◌<◌, ◌^◌, drop, fold}
use Rattle.dh_syntax.specs.Bytes.BinaryHeads.{big_endian}
use Rattle.dh_decode.proofs.numbers.big_endian.Given as goal

abbrev pub invariant-loop-byte : goal.invariant-loop-byte
invariant-loop-byte l = (fold (λ n b. 256 * n + b) l.value (drop l.byte-index l.bytes) ≡ big_endian l.bytes) × (l.value < 2 ^ 128)
