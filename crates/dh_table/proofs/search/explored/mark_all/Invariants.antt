use Rattle.std.specs.Prelude.{◌≡◌, ◌≤◌, ◌-◌, ℕ, length, max}
use Rattle.dh_record.specs.Marks.{is_set}
use Rattle.dh_table.proofs.search.explored.mark_all.Given as goal

abbrev pub invariant-loop-marks : goal.invariant-loop-marks
invariant-loop-marks l = record {
  more : length l.fn.marks ≤ length l.marks;
  most : length l.marks ≤ max (length l.fn.marks) l.len;
  same : (n : ℕ) → is_set l.marks n ≡ is_set l.fn.marks n;
}

abbrev pub decreases-loop-marks : goal.decreases-loop-marks
decreases-loop-marks l = l.len - length l.marks
