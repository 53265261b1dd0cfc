use Rattle.std.proofs.Common.{arith}
use Rattle.dh_encode.proofs.KidsByPlace.{kids_plain, row_two}
use Rattle.dh_encode.proofs.parts.two.Goals as goal

pub bounds-kids-0 : goal.bounds-kids-0
bounds-kids-0 c = omega (arith, kids_plain 2 c.args.kids.now c.requires)

pub bounds-kids-1 : goal.bounds-kids-1
bounds-kids-1 c = omega (arith, kids_plain 2 c.args.kids.now c.requires)

pub returns : goal.returns
returns c = row_two c.args.kids.now c.index-kids-0.result c.index-kids-1.result c.requires
