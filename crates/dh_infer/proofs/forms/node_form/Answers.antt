use Rattle.std.proofs.Common.{IsTrue, sym, refl, subst as along}
use Rattle.dh_syntax.specs.Expressions.Arity.{fits}
use Rattle.dh_syntax.specs.Expressions.Tree.{Node}
use Rattle.dh_store.specs.Cells.{nothing, code_row}
use Rattle.dh_infer.specs.Inside.Forms.{IsForm}
use Rattle.dh_infer.proofs.Shapes.{binding-length, plain-length, group-bodies, no-own}
use Rattle.dh_infer.proofs.forms.node_form.Goals as goal

pub binding_parts-domain-requires-clause-two : goal.binding_parts-domain-requires-clause-two
binding_parts-domain-requires-clause-two c = binding-length 1 c.args.kids.now (along (λ o. IsTrue (fits o (code_row (λ k. nothing) c.args.kids.now))) c.in-Lam.is (c.requires (λ k. nothing)))

pub binding_parts-domain-requires-in-Pi-clause-two : goal.binding_parts-domain-requires-in-Pi-clause-two
binding_parts-domain-requires-in-Pi-clause-two c = binding-length 1 c.args.kids.now (along (λ o. IsTrue (fits o (code_row (λ k. nothing) c.args.kids.now))) c.in-Pi.is (c.requires (λ k. nothing)))

pub pair_parts-function-requires-clause-two : goal.pair_parts-function-requires-clause-two
pair_parts-function-requires-clause-two c = plain-length 2 c.args.kids.now (along (λ o. IsTrue (fits o (code_row (λ k. nothing) c.args.kids.now))) c.in-App.is (c.requires (λ k. nothing)))

pub returns-in-Let-clause-form : goal.returns-in-Let-clause-form
returns-in-Let-clause-form c = λ g. along (λ o. IsForm g (Node o (code_row g c.args.kids.now)) c.let_form.result) (sym c.in-Let.is) (c.let_form.ensures.form g)

pub returns-in-Bin-clause-form : goal.returns-in-Bin-clause-form
returns-in-Bin-clause-form c = λ g. along (λ o. IsForm g (Node o (code_row g c.args.kids.now)) c.binary_form.result) (sym c.in-Bin.is) (c.binary_form.ensures.form g)

pub returns-in_default : goal.returns-in_default
returns-in_default c =
    let d = c.in_default in
    let own = no-own c.args.op.now d.not-Builtin d.not-Bool d.not-Nat d.not-Int d.not-Lam d.not-Pi d.not-Let d.not-App d.not-Bin in
    record { form = λ g. (c.args.op.now, own, (code_row g c.args.kids.now, refl, group-bodies c.args.op.now (code_row g c.args.kids.now) own (c.requires g))); there = λ n b. tt }
