use Rattle.std.proofs.Common.{arith}
use Rattle.dh_literals.proofs.LinesShared.{common_whole}
use Rattle.dh_literals.proofs.indentation.common_count.Goals as goal

pub returns : goal.returns
returns c = common_whole c.args.a.now c.args.b.now c.min-most.result c.loop-i.i c.min-most.ensures (omega arith) c.loop-i.invariant
