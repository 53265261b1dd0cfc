use Rattle.std.proofs.Common.{sym, ◌∙◌}
use Rattle.dh_typerows.proofs.AlternativeLists.{alternative-skipped}
use Rattle.dh_typerows.proofs.unions.alternative_at.Goals as goal

pub returns-then-is_same_label-clause-below : goal.returns-then-is_same_label-clause-below
returns-then-is_same_label-clause-below c = λ n h. (c.split-own.ensures.below n (c.loop-alt.invariant.below n h)).0

pub loop-alt-preserved : goal.loop-alt-preserved
loop-alt-preserved c = record {
  view = λ f.
      alternative-skipped f c.args.x.now c.args.alts.now c.loop-alt.alt-index c.alt-item.result c.loop-alt.rest.now c.split-own.result.1.now c.split-own.result.0 c.loop-alt-test.true c.alt-item.is (λ others. c.split-own.ensures.next f others)
      (sym c.is_same_label.ensures ∙ c.if-is_same_label.false) _ (c.loop-alt.invariant.view f);
  below = λ n h. (c.split-own.ensures.below n (c.loop-alt.invariant.below n h)).1;
}
