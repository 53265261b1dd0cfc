use Rattle.std.proofs.Common.{◌≡◌, ◌≤◌, length, take, drop}
use Rattle.dh_record.specs.Reading.{record_by}
use Rattle.dh_watch_rows.specs.Inside.Sifting.{Sifting}
use Rattle.dh_watch_rows.proofs.sweeping.sift.Given as goal

abbrev pub invariant-loop-i : goal.invariant-loop-i
invariant-loop-i l = record {
  len : length l.found.items ≡ length l.fn.found.items;
  low : l.left ≤ l.i;
  sifting : Sifting (record_by l.texts l.looks) l.texts l.fn.keys l.fn.found.items l.keys (take l.left l.found.items) (drop l.i l.found.items);
}
