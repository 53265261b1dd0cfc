use Rattle.std.proofs.Common.{◌∙◌, ap}
use Rattle.dh_syntax.specs.declared.expressions.Op.TheVariants as ops
use Rattle.dh_syntax.specs.Expressions.Tree.{Node, end}
use Rattle.dh_grammar.specs.Stubs.{at, kept}
use Rattle.dh_operands.proofs.NodeParts.{no_part}
use Rattle.dh_operands.proofs.operands.Operand.import.Goals as goal

pub returns : goal.returns
returns c =
    ap (at 15)
    (c.kept.ensures
    ∙ ap (λ t. kept t 0)
    (no_part _ _ c.new-2.ensures
    ∙ ap (λ i. Node (ops.Import i) end) c.in_ok-import.ensures
    ∙ ap (λ l. Node (ops.Import (record { loc = l; mode = c.args.mode; digest = c.args.digest })) end) c.into_location.ensures))
