use Rattle.std.proofs.Common.{◌≡◌, ◌++◌, length}
use Rattle.dh_freeze.specs.Inside.Pairs.{paired}
use Rattle.dh_freeze.proofs.places.pairs.Given as goal

abbrev pub invariant-loop-offset : goal.invariant-loop-offset
invariant-loop-offset l = l.places.items ++ paired l.left l.right ≡ paired l.fn.offsets l.fn.digests

abbrev pub decreases-loop-offset : goal.decreases-loop-offset
decreases-loop-offset l = length l.left
