use Rattle.std.specs.Prelude.{◌≡◌, length}
use Rattle.dh_syntax.specs.Expressions.Bridge.{term}
use Rattle.dh_record.specs.Keeping.{AreVisiting}
use Rattle.dh_record.specs.Reading.{record_by}
use Rattle.dh_record.specs.Marks.{unseen}
use Rattle.dh_record.proofs.keeps.visited.mark_visited.Given as goal

abbrev pub invariant-passes : goal.invariant-passes
invariant-passes l = record {
  marks : length l.marks ≡ length l.fn.marks;
  seen : length l.seen ≡ length l.fn.seen;
  visiting : AreVisiting (record_by l.texts l.looks) (term l.root.expr) l.keys l.marks l.seen;
}

abbrev pub decreases-passes : goal.decreases-passes
decreases-passes l = unseen l.seen
