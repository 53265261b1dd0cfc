use Rattle.std.proofs.Common.{arith, ap, sym, ◌∙◌, length, subst as along}
use Rattle.dh_store.specs.Cells.{AreBelow}
use Rattle.dh_types.specs.Parts.{fields_of}
use Rattle.dh_typerows.proofs.FoundFields.{below-push, found-more, found-whole, missing-at, pushed-length, AreFound}
use Rattle.dh_typerows.proofs.fields.fields_at.Goals as goal

pub returns-in-None-clause-view : goal.returns-in-None-clause-view
returns-in-None-clause-view c = λ f. missing-at (fields_of f c.args.labels.now c.args.kids.now) c.args.xs.now c.loop-x.x-index c.x-item.result c.loop-x-test.true c.x-item.is (c.in-None.ensures.view f)

pub loop-x-preserved : goal.loop-x-preserved
loop-x-preserved c = record {
  found = λ f.
      along (AreFound f (fields_of f c.args.labels.now c.args.kids.now) _) (sym c.in_ok-push-in-Some.ensures.ok)
      (found-more f (fields_of f c.args.labels.now c.args.kids.now) c.args.xs.now c.loop-x.x-index c.x-item.result c.loop-x.types c.in-Some.code c.loop-x-test.true c.x-item.is (c.loop-x.invariant.found f) (c.in-Some.ensures.view f));
  below = λ n h. along (AreBelow n) (sym c.in_ok-push-in-Some.ensures.ok) (below-push n c.loop-x.types c.in-Some.code (c.loop-x.invariant.below n h) (c.in-Some.ensures.below n h));
  lengths = ap length c.in_ok-push-in-Some.ensures.ok ∙ pushed-length c.loop-x.types c.in-Some.code c.loop-x.x-index c.loop-x.invariant.lengths;
}

pub returns-clause-view : goal.returns-clause-view
returns-clause-view c = λ f. found-whole f (fields_of f c.args.labels.now c.args.kids.now) c.args.xs.now c.loop-x.types c.loop-x.x-index (omega (arith, c.loop-x-test.false)) (c.loop-x.invariant.found f)
