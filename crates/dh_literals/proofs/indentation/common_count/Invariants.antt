use Rattle.std.proofs.Common.{◌≡◌, ◌+◌, nat_eq, drop}
use Rattle.std.specs.List.{common_prefix_len}
use Rattle.dh_literals.proofs.indentation.common_count.Given as goal

abbrev pub invariant-loop-i : goal.invariant-loop-i
invariant-loop-i l = common_prefix_len nat_eq l.a l.b ≡ l.i + common_prefix_len nat_eq (drop l.i l.a) (drop l.i l.b)
