use Rattle.std.proofs.Common.{◌≡◌, ◌∙◌, ap, arith, [], ◌∷◌, Some, None}
use Rattle.dh_syntax.specs.Expressions.Bridge.{term}
use Rattle.dh_syntax.specs.Expressions.Tree as tree
use Rattle.dh_syntax.specs.Expressions.Tree.{kid, end}
use Rattle.dh_decode.specs.Inside.Views.{part_of}
use Rattle.dh_decode.proofs.NodeParts.{made_as, three_parts, kept_under}
use Rattle.dh_decode.proofs.nodes.typed_binding.Goals as goal

pub returns : goal.returns
returns c =
    made_as c.kept.result _ _ c.kept.ensures
    (kept_under c.args.op (part_of c.args.annotation ∷ part_of c.args.value ∷ []) c.args.name.now (part_of c.args.body) _ _
    (three_parts _ _ _ _ _ _ _ _ c.in_ok-kids.ensures c.in_ok-put.ensures c.in_ok-put-2.ensures c.in_ok-put-3.ensures
    ∙ ap (λ x. tree.Node c.args.op (kid None (term c.args.annotation.held.value.expression) (kid None (term c.args.value.held.value.expression) (kid (Some x) (term c.args.body.held.value.expression) end)))) c.in_ok-label.ensures)
    (omega arith))
