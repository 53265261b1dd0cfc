use Rattle.std.proofs.Common.{sym, subst, ◌∙◌, refl, IsTrue, ◌↔◌}
use Rattle.std.proofs.lemmas.Bool.{false≢true}
use Rattle.dh_syntax.specs.Expressions.Arity.{IsWellFormed, AreWellFormed}
use Rattle.dh_syntax.specs.Expressions.Bridge.{term, row_of}
use Rattle.dh_syntax.proofs.WellFormed.{IsWellFormed-Var, IsWellFormed-Node, well_formed_keeps, well_formed_stops, well_formed_ends}
use Rattle.dh_syntax.proofs.shapes.+well_formed.Goals as goal

pub is_well_formed-returns-in-Var : goal.is_well_formed-returns-in-Var
is_well_formed-returns-in-Var t c =
    (λ _. subst (λ e. IsWellFormed (term e)) (sym c.in-Var.is) (IsWellFormed-Var c.in-Var.field-0 c.in-Var.field-1), λ _. refl)

pub is_well_formed-returns-then-arity_ok : goal.is_well_formed-returns-then-arity_ok
is_well_formed-returns-then-arity_ok t c =
    let node = IsWellFormed-Node c.in-Node.op c.in-Node.kids in
    subst (λ e. IsTrue c.are_well_formed.result ↔ IsWellFormed (term e)) (sym c.in-Node.is)
    (λ h. node.1 (sym c.if-arity_ok.ensures, c.are_well_formed.ensures.0 h), λ w. c.are_well_formed.ensures.1 (node.0 w).1)

pub is_well_formed-returns-else-arity_ok : goal.is_well_formed-returns-else-arity_ok
is_well_formed-returns-else-arity_ok t c =
    let node = IsWellFormed-Node c.in-Node.op c.in-Node.kids in
    subst (λ e. IsTrue c.arity_ok.result ↔ IsWellFormed (term e)) (sym c.in-Node.is)
    (λ h. absurd (false≢true (sym c.if-arity_ok.false ∙ h)), λ w. c.arity_ok.ensures ∙ (node.0 w).0)

pub are_well_formed-loop-kid-preserved : goal.are_well_formed-loop-kid-preserved
are_well_formed-loop-kid-preserved t c =
    well_formed_keeps c.as_slice-kid-items.result.now c.loop-kid.kid-index c.kid-item.result _ c.loop-kid-test.true c.kid-item.is (c.is_well_formed.ensures.0 c.if-not-is_well_formed.false) c.loop-kid.invariant

pub are_well_formed-returns-then-not-is_well_formed : goal.are_well_formed-returns-then-not-is_well_formed
are_well_formed-returns-then-not-is_well_formed t c =
    let stops = well_formed_stops c.as_slice-kid-items.result.now c.loop-kid.kid-index c.kid-item.result _ c.loop-kid-test.true c.kid-item.is
    (λ w. false≢true (sym c.if-not-is_well_formed.true ∙ c.is_well_formed.ensures.1 w)) c.loop-kid.invariant in
    (λ h. absurd (false≢true h), λ w. absurd (stops (subst (λ ks. AreWellFormed (row_of ks)) (sym c.as_slice-kid-items.ensures) w)))

pub are_well_formed-returns : goal.are_well_formed-returns
are_well_formed-returns t c =
    let ends = well_formed_ends c.as_slice-kid-items.result.now c.loop-kid.kid-index _ c.loop-kid-test.false c.loop-kid.invariant in
    (λ _. subst (λ ks. AreWellFormed (row_of ks)) c.as_slice-kid-items.ensures ends, λ _. refl)
