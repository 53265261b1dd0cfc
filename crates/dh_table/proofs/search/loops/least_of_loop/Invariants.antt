use Rattle.std.specs.Prelude.{◌≡◌, ◌+◌, ◌<◌, ◌≤◌, ℕ, true, All, length, map, reverse, vec_len, vec_capacity}
use Rattle.dh_imports.specs.Machine.{State}
use Rattle.dh_imports.specs.Resolver.{is_in}
use Rattle.dh_import_laws.proofs.Graph.{Trail, Way}
use Rattle.dh_table.specs.Inside.Searching.{IsStuck}
use Rattle.dh_record.specs.Marks.{is_set, unseen}
use Rattle.dh_record.specs.Rows.{key_named}
use Rattle.dh_table.proofs.Looping.{To}
use Rattle.dh_table.proofs.search.loops.least_of_loop.Given as goal

abbrev pub invariant-loop-marks : goal.invariant-loop-marks
invariant-loop-marks l = record {
  inside : l.at < length l.keys;
  marks : length l.marks ≡ length l.fn.marks;
  room : vec_len l.trail + unseen l.marks ≤ length l.fn.marks;
  capacity : vec_capacity l.fn.trail ≤ vec_capacity l.trail;
  trail : All (λ (n : ℕ). n < length l.keys) l.trail.items;
  stuck : (s : State) → IsStuck l.keys l.texts l.looks s (key_named l.keys l.first) → IsStuck l.keys l.texts l.looks s (key_named l.keys l.at);
  trailed : (s : State) → IsStuck l.keys l.texts l.looks s (key_named l.keys l.first) → Trail (To l.keys l.texts l.looks s) (key_named l.keys l.at) (reverse (map (key_named l.keys) l.trail.items));
  way : (s : State) → IsStuck l.keys l.texts l.looks s (key_named l.keys l.first) → Way (To l.keys l.texts l.looks s) (key_named l.keys l.first) (key_named l.keys l.at);
  marked : (n : ℕ) → is_set l.marks n ≡ true → is_in (key_named l.keys n) (reverse (map (key_named l.keys) l.trail.items)) ≡ true;
}

abbrev pub decreases-loop-marks : goal.decreases-loop-marks
decreases-loop-marks l = unseen l.marks
