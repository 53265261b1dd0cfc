use Rattle.std.proofs.Common.{◌∙◌, ap, [], ◌∷◌, None}
use Rattle.dh_operands.specs.Inside.Nodes.{and_part}
use Rattle.dh_operands.specs.Operands.{part_of}
use Rattle.dh_operands.proofs.NodeParts.{finished}
use Rattle.dh_operands.proofs.nodes.three.Goals as goal

pub returns : goal.returns
returns c =
    let p = part_of c.args.first in
    let q = part_of c.args.second in
    let r = part_of c.args.third in
    c.finish.ensures
    ∙ finished c.args.op ((None, p) ∷ (None, q) ∷ (c.args.binder, r) ∷ []) _
    (c.in_ok-push-3.ensures ∙ ap (λ h. and_part h c.args.binder r)
    (c.in_ok-push-2.ensures ∙ ap (λ h. and_part h None q) (c.in_ok-push.ensures ∙ ap (λ h. and_part h None p) c.new-parts.ensures)))
