use Rattle.std.proofs.Common.{◌≡◌, ap, sym, ◌∙◌, arith, IfSome, length, subst as along}
use Rattle.dh_syntax.specs.Expressions.Order.{ascending}
use Rattle.dh_store.specs.Cells.{code_core, AreBelow}
use Rattle.dh_store.specs.Growth.{count}
use Rattle.dh_typerows.proofs.FoundFields.{kids-below, projection-forms}
use Rattle.dh_typerows.proofs.records.projection.Goals as goal

pub returns-in_ok-copy_labels-in-Some-2-clause-rule : goal.returns-in_ok-copy_labels-in-Some-2-clause-rule
returns-in_ok-copy_labels-in-Some-2-clause-rule c = λ facts.
    projection-forms facts (code_core c.args.codes.now) (code_core c.args.codes.now c.args.t) c.in-Some.labels.now c.in-Some.kids.now c.args.xs.now c.as_slice.result.now c.in_ok-copy_labels-in-Some-2.field-0 c.in-Some-2.types
    c.as_slice.ensures c.in_ok-copy_labels-in-Some-2.ensures c.in-Some.ensures.view c.in_ok-types-in-Some.field-0 c.in-Some-2.is (c.in_ok-types-in-Some.ensures.view (code_core c.args.codes.now)) c.in_ok-types-in-Some.ensures.paired

pub returns-in_ok-copy_labels-in-Some-2-clause-there : goal.returns-in_ok-copy_labels-in-Some-2-clause-there
returns-in_ok-copy_labels-in-Some-2-clause-there c = (
  along (λ o. IfSome o (AreBelow (count c.args.codes.now))) c.in-Some-2.is (c.in_ok-types-in-Some.ensures.below (count c.args.codes.now) (kids-below c.args.t (count c.args.codes.now) c.in-Some.kids.now (omega (arith, c.requires.there)) c.in-Some.ensures.older)),
  ap ascending c.in_ok-copy_labels-in-Some-2.ensures ∙ c.requires.ascends,
  ap length (c.in_ok-copy_labels-in-Some-2.ensures ∙ sym c.as_slice.ensures) ∙ along (λ o. IfSome o (λ cs. length c.as_slice.result.now ≡ length cs)) c.in-Some-2.is c.in_ok-types-in-Some.ensures.paired,
)
