use Rattle.std.proofs.Common.{◌≡◌, ◌∙◌, ap, arith, [], ◌∷◌, Some, None}
use Rattle.dh_syntax.specs.Expressions.Bridge.{term}
use Rattle.dh_syntax.specs.Expressions.Tree as tree
use Rattle.dh_syntax.specs.Expressions.Tree.{kid, end}
use Rattle.dh_decode.specs.Inside.Views.{part_of}
use Rattle.dh_decode.proofs.NodeParts.{made_as, two_parts, kept_under}
use Rattle.dh_decode.proofs.nodes.binding.Goals as goal

pub returns : goal.returns
returns c =
    made_as c.kept.result _ _ c.kept.ensures
    (kept_under c.args.op (part_of c.args.part ∷ []) c.args.name.now (part_of c.args.body) _ _
    (two_parts _ _ _ _ _ _ c.in_ok-kids.ensures c.in_ok-put.ensures c.in_ok-put-2.ensures
    ∙ ap (λ x. tree.Node c.args.op (kid None (term c.args.part.held.value.expression) (kid (Some x) (term c.args.body.held.value.expression) end))) c.in_ok-label.ensures)
    (omega arith))
