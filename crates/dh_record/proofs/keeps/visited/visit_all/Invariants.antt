use Rattle.std.specs.Prelude.{◌≡◌, ◌<◌, ◌≤◌, ℕ, true, false, length}
use Rattle.dh_syntax.specs.Expressions.Tree.{Term}
use Rattle.dh_record.specs.Keeping.{AreVisiting}
use Rattle.dh_record.specs.Reading.{record_by}
use Rattle.dh_record.specs.Marks.{is_set, unseen}
use Rattle.dh_record.proofs.keeps.visited.visit_all.Given as goal

abbrev pub invariant-loop-i : goal.invariant-loop-i
invariant-loop-i l = record {
  marks : length l.marks ≡ length l.fn.marks;
  seen : length l.seen ≡ length l.fn.seen;
  visiting : (root : Term) → AreVisiting (record_by l.texts l.looks) root l.keys l.fn.marks l.fn.seen → AreVisiting (record_by l.texts l.looks) root l.keys l.marks l.seen;
  less : unseen l.seen ≤ unseen l.fn.seen;
  falls : l.further ≡ true → unseen l.seen < unseen l.fn.seen;
  still : l.further ≡ false → (n : ℕ) → n < l.i → is_set l.marks n ≡ true → is_set l.seen n ≡ true;
}
