use Rattle.std.proofs.Common.{◌∙◌, ap, [], ◌∷◌, None}
use Rattle.dh_operands.specs.Inside.Nodes.{and_part}
use Rattle.dh_operands.specs.Operands.{part_of}
use Rattle.dh_operands.proofs.NodeParts.{finished}
use Rattle.dh_operands.proofs.nodes.one.Goals as goal

pub returns : goal.returns
returns c =
    let p = part_of c.args.part in
    c.finish.ensures ∙ finished c.args.op ((None, p) ∷ []) _ (c.in_ok-push.ensures ∙ ap (λ h. and_part h None p) c.new-parts.ensures)
