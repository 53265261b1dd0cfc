use Rattle.std.proofs.Common.{◌≡◌, ◌<◌, ◌^◌, take}
use Rattle.dh_syntax.specs.Bytes.BinaryHeads.{big_endian}
use Rattle.dh_cbor.proofs.heads.big_endian.Given as goal

abbrev pub invariant-loop-byte : goal.invariant-loop-byte
invariant-loop-byte l =
    record {
      value : l.value ≡ big_endian (take l.byte-index l.bytes);
      few : l.value < 256 ^ l.byte-index;
    }
