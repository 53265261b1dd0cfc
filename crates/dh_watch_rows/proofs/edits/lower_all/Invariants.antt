use Rattle.std.proofs.Common.{◌≡◌, ◌<◌, ◌≤◌, ℕ, get_or, length}
use Rattle.dh_watch_rows.specs.Inside.Gaps.{lower}
use Rattle.dh_watch_rows.proofs.edits.lower_all.Given as goal

abbrev pub invariant-loop-i : goal.invariant-loop-i
invariant-loop-i l = record {
  len : length l.numbers.items ≡ length l.fn.numbers.items;
  done : (k : ℕ) → k < l.i → get_or l.numbers.items k 0 ≡ lower l.number (get_or l.fn.numbers.items k 0);
  rest : (k : ℕ) → l.i ≤ k → get_or l.numbers.items k 0 ≡ get_or l.fn.numbers.items k 0;
}
