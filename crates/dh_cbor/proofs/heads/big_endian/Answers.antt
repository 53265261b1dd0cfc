use Rattle.std.proofs.Common.{arith}
use Rattle.dh_cbor.proofs.Powers.{in_range, one_more, more_bytes}
use Rattle.dh_cbor.proofs.heads.big_endian.Goals as goal

pub overflow_mul-value : goal.overflow_mul-value
overflow_mul-value c =
    let fits = in_range c.loop-byte.byte-index c.loop-byte.value 0 _ c.loop-byte-test.true c.requires c.loop-byte.invariant.few (omega arith) in
    omega arith

pub overflow_add-value : goal.overflow_add-value
overflow_add-value c =
    let byte = c.type_inv.bytes c.loop-byte.byte-index in
    let fits = in_range c.loop-byte.byte-index c.loop-byte.value c.from.result _ c.loop-byte-test.true c.requires c.loop-byte.invariant.few (omega (arith, byte, c.from.ensures)) in
    omega arith

pub loop-byte-preserved : goal.loop-byte-preserved
loop-byte-preserved c =
    let byte = c.type_inv.bytes c.loop-byte.byte-index in
    record {
      value =
          more_bytes c.args.bytes.now c.loop-byte.byte-index c.loop-byte.value c.from.result c.loop-byte-test.true c.loop-byte.invariant.value c.from.ensures;
      few = one_more c.loop-byte.byte-index c.loop-byte.value c.from.result c.loop-byte.invariant.few (omega (arith, byte, c.from.ensures));
    }
