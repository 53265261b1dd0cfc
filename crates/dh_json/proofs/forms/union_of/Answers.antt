use Rattle.std.proofs.Common.{ap, sym, ◌∙◌, Some}
use Rattle.dh_syntax.specs.Expressions.Bridge.{row_of}
use Rattle.dh_syntax.specs.Expressions.Tree.{Node}
use Rattle.dh_syntax.specs.Expressions.Views.{as_union}
use Rattle.dh_syntax.proofs.Bridge.{at_term-Node, at_term-Var}
use Rattle.dh_json.proofs.Parts.{no_union}
use Rattle.dh_json.proofs.forms.union_of.Goals as goal

pub returns-in-Union : goal.returns-in-Union
returns-in-Union c = ap Some c.as_slice.ensures ∙ sym (at_term-Node as_union c.args.e.now c.in-Node.op c.in-Node.field-1 c.in-Node.is ∙ ap (λ o. as_union (Node o (row_of c.in-Node.field-1))) c.in-Union.is)

pub returns-in_default : goal.returns-in_default
returns-in_default c = no_union c.in-Node.op (row_of c.in-Node.field-1) c.in_default.not-Union ∙ sym (at_term-Node as_union c.args.e.now c.in-Node.op c.in-Node.field-1 c.in-Node.is)

pub returns-in-Var : goal.returns-in-Var
returns-in-Var c = sym (at_term-Var as_union c.args.e.now c.in-Var.field-0 c.in-Var.field-1 c.in-Var.is)
