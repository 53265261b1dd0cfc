use Rattle.std.proofs.Common.{◌∙◌, ap}
use Rattle.dh_grammar.specs.Stubs.{kept}
use Rattle.dh_operands.proofs.NodeParts.{no_part}
use Rattle.dh_operands.proofs.nodes.leaf.Goals as goal

pub returns : goal.returns
returns c = c.kept.ensures ∙ ap (λ t. kept t 0) (no_part _ _ c.new.ensures)
