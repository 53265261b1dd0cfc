use Rattle.std.proofs.Common.{IsTrue, ap}
use Rattle.dh_syntax.specs.declared.expressions.Op.TheVariants.{Let}
use Rattle.dh_syntax.specs.Expressions.Arity.{fits}
use Rattle.dh_syntax.specs.Expressions.Tree.{Node}
use Rattle.dh_store.specs.Cells.{nothing, code_row}
use Rattle.std.proofs.Common.{subst as along}
use Rattle.dh_infer.proofs.Shapes.{binding-length}
use Rattle.dh_infer.proofs.forms.let_form.Goals as goal

pub typed_binding_parts-annotation-requires-clause-three : goal.typed_binding_parts-annotation-requires-clause-three
typed_binding_parts-annotation-requires-clause-three c =
    binding-length 2 c.args.kids.now (along (λ b. IsTrue (fits (Let b) (code_row (λ k. nothing) c.args.kids.now))) c.if-typed.true (c.requires (λ k. nothing)))

pub binding_parts-value-requires-clause-two : goal.binding_parts-value-requires-clause-two
binding_parts-value-requires-clause-two c =
    binding-length 1 c.args.kids.now (along (λ b. IsTrue (fits (Let b) (code_row (λ k. nothing) c.args.kids.now))) c.if-typed.false (c.requires (λ k. nothing)))

pub returns-else-typed-clause-form : goal.returns-else-typed-clause-form
returns-else-typed-clause-form c = λ g.
    (code_row g c.args.kids.now, ap (λ b. Node (Let b) (code_row g c.args.kids.now)) c.if-typed.false, (c.binding_parts-value.result.0.now, c.binding_parts-value.ensures.parts g))
