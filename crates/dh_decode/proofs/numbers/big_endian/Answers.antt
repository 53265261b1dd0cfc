use Rattle.dh_decode.proofs.NumberLaws.{too_many}
use Rattle.dh_decode.proofs.numbers.big_endian.Goals as goal

pub returns-then-value-clause-none : goal.returns-then-value-clause-none
returns-then-value-clause-none c = too_many c.loop-byte.value c.loop-byte.byte-index c.args.bytes.now _ c.loop-byte-test.true c.if-value.true c.loop-byte.invariant.0
