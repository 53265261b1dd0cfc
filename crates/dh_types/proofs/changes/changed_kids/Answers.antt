use Rattle.std.proofs.Common.{◌≡◌, ◌+◌, take, subst as along, sym}
use Rattle.dh_store.specs.Cells.{AreKidsBelow}
use Rattle.dh_types.proofs.ChangedRows.{binders, binders-more, binders-row, parts-more, parts-row, kids-push, ArePartsOf}
use Rattle.dh_types.proofs.changes.changed_kids.Goals as goal

pub loop-kid-preserved : goal.loop-kid-preserved
loop-kid-preserved c = record {
  row = λ f g maps.
      along (λ js. ArePartsOf f g c.args.level js (take (c.loop-kid.kid-index + 1) c.args.kids.now)) (sym c.in_ok-push.ensures.ok)
      (parts-more f g c.args.level c.args.kids.now c.loop-kid.kid-index c.kid-item.result c.loop-kid.done c.in_ok-changed_kid.field-0 c.loop-kid-test.true c.kid-item.is c.in_ok-changed_kid.ensures.binder
      (c.in_ok-changed_kid.ensures.code f g maps) (c.loop-kid.invariant.row f g maps));
  below = λ n h. along (AreKidsBelow n) (sym c.in_ok-push.ensures.ok) (kids-push n c.loop-kid.done c.in_ok-changed_kid.field-0 (c.loop-kid.invariant.below n h) (c.in_ok-changed_kid.ensures.below n h));
  shape =
      along (λ js. binders js ≡ binders (take (c.loop-kid.kid-index + 1) c.args.kids.now)) (sym c.in_ok-push.ensures.ok)
      (binders-more c.args.kids.now c.loop-kid.kid-index c.kid-item.result c.loop-kid.done c.in_ok-changed_kid.field-0 c.loop-kid-test.true c.kid-item.is c.in_ok-changed_kid.ensures.binder c.loop-kid.invariant.shape);
}

pub returns-clause-row : goal.returns-clause-row
returns-clause-row c = λ f g maps. parts-row f g c.args.level c.loop-kid.done c.args.kids.now c.loop-kid.kid-index c.loop-kid-test.false (c.loop-kid.invariant.row f g maps)

pub returns-clause-shape : goal.returns-clause-shape
returns-clause-shape c = binders-row c.loop-kid.done c.args.kids.now c.loop-kid.kid-index c.loop-kid-test.false c.loop-kid.invariant.shape
