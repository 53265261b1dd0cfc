use Rattle.std.proofs.Common.{◌≡◌, ◌++◌}
use Rattle.std.specs.VecDeque.{deque_len}
use Rattle.dh_places.proofs.deques.joined.Given as goal

abbrev pub invariant-loop-item : goal.invariant-loop-item
invariant-loop-item g l = l.left.items ++ l.right.items ≡ l.initial.left.items ++ l.initial.right.items

abbrev pub decreases-loop-item : goal.decreases-loop-item
decreases-loop-item g l = deque_len l.left
