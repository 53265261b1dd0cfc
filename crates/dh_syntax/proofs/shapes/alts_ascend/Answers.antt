use Rattle.std.proofs.Common.{ap, sym, ◌∙◌, rules}
use Rattle.std.proofs.lemmas.List.Sorted.{answers_always}
use Rattle.dh_syntax.specs.Expressions.Order.{before, ascending}
use Rattle.dh_syntax.proofs.Arity.{alt_labels-map}
use Rattle.dh_syntax.proofs.Order.{ascending_from_adjacent}
use Rattle.dh_syntax.proofs.shapes.alts_ascend.Goals as goal

pub returns : goal.returns
returns c =
    ascending_from_adjacent (λ a. a.label) c.args.alts.now c.is_sorted_by.result (c.is_sorted_by.ensures.cases (λ x y. before x.label y.label) (answers_always _ _ _ (λ f a r g h. search rules)))
    ∙ ap ascending (sym (alt_labels-map c.args.alts.now))
