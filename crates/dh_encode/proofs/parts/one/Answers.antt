use Rattle.std.proofs.Common.{arith}
use Rattle.dh_encode.proofs.KidsByPlace.{kids_plain, row_one}
use Rattle.dh_encode.proofs.parts.one.Goals as goal

pub bounds-kids-0 : goal.bounds-kids-0
bounds-kids-0 c = omega (arith, kids_plain 1 c.args.kids.now c.requires)

pub returns : goal.returns
returns c = row_one c.args.kids.now c.index-kids-0.result c.requires
