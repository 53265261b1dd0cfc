use Rattle.std.proofs.Common.{sym, subst as along}
use Rattle.dh_store.specs.Cells.{AreBelow}
use Rattle.dh_records.specs.Picks.{AreMerged}
use Rattle.dh_records.proofs.MergedFields.{pick_at, within_cells}
use Rattle.dh_typerows.proofs.FoundFields.{below-push}
use Rattle.dh_typerows.proofs.PickedFields.{paired-push, picked-all, picked-ascend, picked-more}
use Rattle.dh_typerows.proofs.preferring.all_types.Goals as goal

pub picked_label-requires : goal.picked_label-requires
picked_label-requires c =
    pick_at c.args.xs.now c.args.ys.now c.args.ls.now c.args.rs.now c.deref-pick-items.result.now c.loop-pick.pick-index _ c.requires.left_paired c.requires.right_paired
    (along (AreMerged c.args.xs.now c.args.ys.now) (sym c.deref-pick-items.ensures.value) c.in_ok-picks.ensures) c.loop-pick-test.true

pub picked_type-requires : goal.picked_type-requires
picked_type-requires c =
    within_cells c.args.xs.now c.args.ys.now c.args.ls.now c.args.rs.now _ c.requires.left_paired c.requires.right_paired
    (pick_at c.args.xs.now c.args.ys.now c.args.ls.now c.args.rs.now c.deref-pick-items.result.now c.loop-pick.pick-index _ c.requires.left_paired c.requires.right_paired
    (along (AreMerged c.args.xs.now c.args.ys.now) (sym c.deref-pick-items.ensures.value) c.in_ok-picks.ensures) c.loop-pick-test.true)

pub loop-pick-preserved : goal.loop-pick-preserved
loop-pick-preserved c = record {
  fields = λ f.
      picked-more c.args.side c.args.xs.now c.args.ys.now c.args.ls.now c.args.rs.now c.requires.left_paired c.requires.right_paired c.deref-pick-items.result.now
      (along (AreMerged c.args.xs.now c.args.ys.now) (sym c.deref-pick-items.ensures.value) c.in_ok-picks.ensures) f c.loop-pick.pick-index _ c.loop-pick.labels c.push.new.self c.loop-pick.types c.push-in-loop-pick.new.self
      c.in_ok-picked_label.field-0 c.picked_type.result c.loop-pick-test.true c.in_ok-picked_label.ensures (c.picked_type.ensures.core f) c.loop-pick.invariant.paired c.in_ok-push.ensures.ok c.in_ok-push-2.ensures.ok
      (c.loop-pick.invariant.fields f);
  paired = paired-push c.loop-pick.labels c.push.new.self c.loop-pick.types c.push-in-loop-pick.new.self c.in_ok-picked_label.field-0 c.picked_type.result c.loop-pick.invariant.paired c.in_ok-push.ensures.ok c.in_ok-push-2.ensures.ok;
  below = λ n h k. along (AreBelow n) (sym c.in_ok-push-2.ensures.ok) (below-push n c.loop-pick.types c.picked_type.result (c.loop-pick.invariant.below n h k) (c.picked_type.ensures.below n h k));
}

pub returns-clause-fields : goal.returns-clause-fields
returns-clause-fields c = λ f.
    picked-all c.args.side c.args.xs.now c.args.ys.now c.args.ls.now c.args.rs.now c.requires.left_paired c.requires.right_paired c.deref-pick-items.result.now
    (along (AreMerged c.args.xs.now c.args.ys.now) (sym c.deref-pick-items.ensures.value) c.in_ok-picks.ensures) c.loop-pick.pick-index c.loop-pick.labels c.loop-pick.types c.loop-pick-test.false c.loop-pick.invariant.fields f

pub returns-clause-ascends : goal.returns-clause-ascends
returns-clause-ascends c =
    picked-ascend c.args.side c.args.xs.now c.args.ys.now c.args.ls.now c.args.rs.now c.requires.left_paired c.requires.right_paired c.deref-pick-items.result.now
    (along (AreMerged c.args.xs.now c.args.ys.now) (sym c.deref-pick-items.ensures.value) c.in_ok-picks.ensures) c.loop-pick.pick-index c.loop-pick.labels c.loop-pick.types c.loop-pick-test.false c.loop-pick.invariant.fields
    c.loop-pick.invariant.paired c.requires.left_ascends
