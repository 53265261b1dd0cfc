use Rattle.std.proofs.Common.{◌≡◌, ◌++◌, length}
use Rattle.dh_imports.specs.FrozenTexts.{with_digests}
use Rattle.dh_freeze.specs.Insertions.{insertions}
use Rattle.dh_freeze.proofs.freezing.freeze.Given as goal

abbrev pub invariant-loop-place : goal.invariant-loop-place
invariant-loop-place l = l.out.items ++ with_digests l.at l.text (insertions l.left) ≡ with_digests 0 l.text (insertions l.fn.places)

abbrev pub decreases-loop-place : goal.decreases-loop-place
decreases-loop-place l = length l.left
