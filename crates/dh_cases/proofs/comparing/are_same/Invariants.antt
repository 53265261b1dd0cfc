use Rattle.std.proofs.Common.{◌≡◌, map, length}
use Rattle.std.specs.Prelude.{take}
use Rattle.dh_cases.specs.Agreeing.{pair_of}
use Rattle.dh_cases.proofs.comparing.are_same.Given as goal

abbrev pub invariant-loop-i : goal.invariant-loop-i
invariant-loop-i l = record {
  as_many : length l.wanted ≡ length l.came;
  so_far : take l.i (map pair_of l.wanted) ≡ take l.i (map pair_of l.came);
}
