use Rattle.std.proofs.Common.{◌∙◌, ap}
use Rattle.dh_syntax.specs.declared.expressions.Op.TheVariants as ops
use Rattle.dh_syntax.specs.Text.Meaning.{values}
use Rattle.dh_grammar.specs.Stubs.{at, node, unbound}
use Rattle.dh_operands.specs.Inside.Nodes.{gathered_of}
use Rattle.dh_operands.specs.Rows.{rows_of}
use Rattle.dh_operands.proofs.NodeParts.{finished}
use Rattle.dh_operands.proofs.rows.Fields.record_type.Goals as goal

pub returns : goal.returns
returns c =
    let parts = unbound (values (rows_of c.args.self.rows)) in
    ap (at 17)
    (c.finish.ensures ∙ finished (ops.RecordType c.in_ok-labels.labels) parts (gathered_of c.in_ok-labels.parts) c.in_ok-labels.ensures.parts
    ∙ ap (λ ls. node (ops.RecordType ls) parts) c.in_ok-labels.ensures.labels)
