use Rattle.dh_encode.proofs.Appends.{named}
use Rattle.dh_encode.proofs.Integers.{integer_below}
use Rattle.dh_encode.proofs.writer.Writer.push_integer.Goals as goal

pub returns-then-n-lt0 : goal.returns-then-n-lt0
returns-then-n-lt0 c =
    named c.push_below_zero.result _ _ _ _ (integer_below c.args.n c.unsigned_abs.result c.if-n-lt0.true c.ranges.n c.unsigned_abs.ensures.value) c.push_below_zero.ensures
