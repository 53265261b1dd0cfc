use Rattle.std.proofs.Common.{◌∙◌, ap, map}
use Rattle.dh_grammar.specs.Stubs.{unbound}
use Rattle.dh_operands.specs.Inside.Nodes.{and_parts}
use Rattle.dh_operands.specs.Operands.{part_of}
use Rattle.dh_operands.proofs.NodeParts.{finished}
use Rattle.dh_operands.proofs.nodes.several.Goals as goal

pub returns : goal.returns
returns c =
    let ps = unbound (map part_of c.args.parts.items) in
    c.finish.ensures ∙ finished c.args.op ps _ (c.in_ok-push_all.ensures ∙ ap (λ h. and_parts h ps) c.new-gathered.ensures)
