use Rattle.std.proofs.Common.{◌<◌, None, Some, ap, ◌∙◌, length, sym, subst as along}
use Rattle.dh_store.specs.Cells.{AreBelow}
use Rattle.dh_types.specs.Parts.{fields_of}
use Rattle.dh_typerows.proofs.FoundFields.{below-push, kid-in, pushed-length, some-there}
use Rattle.dh_typerows.proofs.JoinedFields.{joined-more, joined-refused, none-joined, one-joined, IsJoinedSoFar}
use Rattle.dh_typerows.proofs.joins.joined_types.Goals as goal

pub loop-i-init : goal.loop-i-init
loop-i-init c = record {
  fields = λ f joins. along (λ types. IsJoinedSoFar f (fields_of f c.args.ys.now c.args.others.now) c.args.xs.now c.args.kids.now 0 types) (sym c.new-types.ensures) (none-joined f (fields_of f c.args.ys.now c.args.others.now) c.args.xs.now c.args.kids.now);
  below = λ n h k. along (AreBelow n) (sym c.new-types.ensures) tt;
  paired = ap length c.new-types.ensures;
}

pub loop-i-preserved : goal.loop-i-preserved
loop-i-preserved c = record {
  fields = λ f joins.
      joined-more f (fields_of f c.args.ys.now c.args.others.now) c.args.xs.now c.args.kids.now c.requires.left_paired c.loop-i.i c.loop-i.types c.index-xs-i.result c.index-kids-i.result c.loop-i-test.true c.index-xs-i.is c.index-kids-i.is
      (c.loop-i.invariant.fields f joins) c.push.new.self c.in-Some.code c.loop-i.invariant.paired c.in_ok-push-in-Some.ensures.ok
      (one-joined f c.index-kids-i.result.code c.index-xs-i.result (fields_of f c.args.ys.now c.args.others.now) c.in_ok-code.field-0 c.field_at-other.result (Some c.in-Some.code) c.in-Some.is (c.in_ok-code.ensures.core f joins) (c.field_at-other.ensures.view f));
  below = λ n h k. along (AreBelow n) (sym c.in_ok-push-in-Some.ensures.ok) (below-push n c.loop-i.types c.in-Some.code (c.loop-i.invariant.below n h k)
      (some-there (λ c'. c' < n) c.in_ok-code.field-0 c.in-Some.code c.in-Some.is (c.in_ok-code.ensures.below n (kid-in n c.args.kids.now c.loop-i.i c.index-kids-i.result h c.loop-i-test.true c.index-kids-i.is) k)));
  paired = ap length c.in_ok-push-in-Some.ensures.ok ∙ pushed-length c.loop-i.types c.in-Some.code c.loop-i.i c.loop-i.invariant.paired;
}

pub returns-in-None-clause-view : goal.returns-in-None-clause-view
returns-in-None-clause-view c = λ f joins.
    joined-refused f (fields_of f c.args.ys.now c.args.others.now) c.args.xs.now c.args.kids.now c.requires.left_paired c.loop-i.i c.loop-i.types c.index-xs-i.result c.index-kids-i.result c.loop-i-test.true c.index-xs-i.is c.index-kids-i.is
    (c.loop-i.invariant.fields f joins)
    (one-joined f c.index-kids-i.result.code c.index-xs-i.result (fields_of f c.args.ys.now c.args.others.now) c.in_ok-code.field-0 c.field_at-other.result None c.in-None.is (c.in_ok-code.ensures.core f joins) (c.field_at-other.ensures.view f))
