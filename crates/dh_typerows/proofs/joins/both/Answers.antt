use Rattle.std.proofs.Common.{sym, subst as along}
use Rattle.dh_store.specs.Cells.{AreBelow}
use Rattle.dh_types.specs.Parts.{fields_of}
use Rattle.dh_typerows.proofs.FoundFields.{from-some}
use Rattle.dh_typerows.proofs.JoinedRecords.{one-record}
use Rattle.dh_typerows.proofs.PickedFields.{ids-there}
use Rattle.dh_typerows.specs.Joining.{joined_all}
use Rattle.dh_typerows.proofs.joins.both.Goals as goal

pub returns-in_ok-fields-in-Some-clause-view : goal.returns-in_ok-fields-in-Some-clause-view
returns-in_ok-fields-in-Some-clause-view c = λ f joins.
    one-record f c.args.xs.now c.args.ys.now c.in_ok-fields-in-Some.fields c.args.others.now c.in-Some.left c.as_slice.result.now c.in_ok-right-in-Some.right c.as_slice-in-Some.result.now c.in_ok-left.field-0
    (joined_all (fields_of f c.args.xs.now c.args.kids.now) (fields_of f c.args.ys.now c.args.others.now)) c.in-Some.is (c.in_ok-left.ensures.view f joins) c.as_slice.ensures c.in_ok-right-in-Some.ensures c.as_slice-in-Some.ensures
    (c.in_ok-fields-in-Some.ensures.fields f) c.in_ok-fields-in-Some.ensures.paired

pub returns-in_ok-fields-in-Some-clause-shape : goal.returns-in_ok-fields-in-Some-clause-shape
returns-in_ok-fields-in-Some-clause-shape c = λ n h k found. (
  c.in_ok-fields-in-Some.ensures.below n (along (AreBelow n) (sym c.as_slice.ensures) (from-some (AreBelow n) c.in_ok-left.field-0 c.in-Some.left c.in-Some.is (c.in_ok-left.ensures.below n h found)))
      (ids-there n c.args.others.now c.in_ok-right-in-Some.right c.as_slice-in-Some.result.now c.in_ok-right-in-Some.ensures c.as_slice-in-Some.ensures k),
  c.in_ok-fields-in-Some.ensures.ascends,
  c.in_ok-fields-in-Some.ensures.paired,
)
