use Rattle.std.proofs.Common.{[], ◌∷◌, None, ◌∙◌, ap, sym}
use Rattle.std.proofs.lemmas.Result.{IfOk-weaker}
use Rattle.dh_syntax.proofs.Bridge.{term-Node, term-Var}
use Rattle.dh_syntax.specs.declared.expressions.Op.TheVariants as ops
use Rattle.dh_syntax.specs.Expressions.Bridge.{term, row_of}
use Rattle.dh_syntax.specs.Expressions.Tree.{Node}
use Rattle.dh_grammar.specs.Stubs.{kept, node, note_on}
use Rattle.dh_operands.specs.Operands.{part_of}
use Rattle.dh_operands.proofs.NodeParts.{noted, not_noted}
use Rattle.dh_operands.proofs.annotations.noted.Goals as goal

pub returns-in_ok-push-in-Some : goal.returns-in_ok-push-in-Some
returns-in_ok-push-in-Some c =
    let p = part_of c.args.value in
    let a = part_of c.args.annotation in
    let o = c.in-Some.annotated in
    c.finish.ensures ∙ ap (λ h. kept (Node o h.parts) h.nests) c.in_ok-push-in-Some.ensures
    ∙ noted c.in-Node.op o (row_of c.in-Node.kids) p a (sym c.in-Some.is ∙ c.with_annotation.ensures)
    ∙ ap (λ t. note_on t p a) (sym (ap term c.in-Node.is ∙ term-Node _ _))

pub returns-in-None : goal.returns-in-None
returns-in-None c =
    let p = part_of c.args.value in
    let a = part_of c.args.annotation in
    let op = c.in-Node.op in
    IfOk-weaker c.two.result _ _
    (λ q h. h ∙ ap (λ x. node ops.Annot ((None, record { expression = term x; nests = c.args.value.nests }) ∷ (None, a) ∷ [])) (sym c.in-Node.is)
    ∙ not_noted op (row_of c.in-Node.kids) p a (sym c.in-None.is ∙ c.with_annotation.ensures) ∙ ap (λ t. note_on t p a) (sym (ap term c.in-Node.is ∙ term-Node _ _)))
    c.two.ensures

pub returns-in-Var : goal.returns-in-Var
returns-in-Var c =
    let p = part_of c.args.value in
    let a = part_of c.args.annotation in
    IfOk-weaker c.two-in-Var.result _ _
    (λ q h. h ∙ ap (λ x. node ops.Annot ((None, record { expression = term x; nests = c.args.value.nests }) ∷ (None, a) ∷ [])) (sym c.in-Var.is)
    ∙ ap (λ t. note_on t p a) (sym (ap term c.in-Var.is ∙ term-Var _ _)))
    c.two-in-Var.ensures
