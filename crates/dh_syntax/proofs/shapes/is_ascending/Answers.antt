use Rattle.std.proofs.Common.{ap, ◌∙◌, rules}
use Rattle.std.proofs.lemmas.List.{map-id}
use Rattle.std.proofs.lemmas.List.Sorted.{answers_always}
use Rattle.dh_syntax.specs.Expressions.Order.{before, ascending}
use Rattle.dh_syntax.proofs.Order.{ascending_from_adjacent}
use Rattle.dh_syntax.proofs.shapes.is_ascending.Goals as goal

pub returns : goal.returns
returns c =
    ascending_from_adjacent (λ x. x) c.args.labels.now c.is_sorted_by.result (c.is_sorted_by.ensures.cases (λ x y. before x y) (answers_always _ _ _ (λ f a r g h. search rules)))
    ∙ ap ascending (map-id c.args.labels.now)
