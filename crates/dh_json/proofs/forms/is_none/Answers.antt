use Rattle.std.proofs.Common.{ap, sym, ◌∙◌}
use Rattle.dh_syntax.specs.declared.expressions.Op.TheVariants as ops
use Rattle.dh_syntax.specs.Expressions.Bridge.{row_of}
use Rattle.dh_syntax.specs.Expressions.Tree.{Node}
use Rattle.dh_syntax.specs.Expressions.Views.{is_none}
use Rattle.dh_syntax.proofs.Bridge.{at_term-Node, at_term-Var}
use Rattle.dh_json.proofs.Parts.{no_none, other_builtin}
use Rattle.dh_json.proofs.forms.is_none.Goals as goal

pub returns-in-None : goal.returns-in-None
returns-in-None c =
    sym (at_term-Node is_none c.args.e.now c.in-Node.op c.in-Node.field-1 c.in-Node.is ∙ ap (λ o. is_none (Node o (row_of c.in-Node.field-1))) (c.in-Builtin.is ∙ ap ops.Builtin c.in-None.is))

pub returns-in_default-builtin : goal.returns-in_default-builtin
returns-in_default-builtin c =
    other_builtin c.in-Builtin.builtin (row_of c.in-Node.field-1) c.in_default-builtin.not-None
    ∙ sym (at_term-Node is_none c.args.e.now c.in-Node.op c.in-Node.field-1 c.in-Node.is ∙ ap (λ o. is_none (Node o (row_of c.in-Node.field-1))) c.in-Builtin.is)

pub returns-in_default : goal.returns-in_default
returns-in_default c = no_none c.in-Node.op (row_of c.in-Node.field-1) c.in_default.not-Builtin ∙ sym (at_term-Node is_none c.args.e.now c.in-Node.op c.in-Node.field-1 c.in-Node.is)

pub returns-in-Var : goal.returns-in-Var
returns-in-Var c = sym (at_term-Var is_none c.args.e.now c.in-Var.field-0 c.in-Var.field-1 c.in-Var.is)
