use Rattle.std.proofs.Common.{sym, subst, ◌∙◌, arith, refl}
use Rattle.std.proofs.lemmas.Bool.{false≢true}
use Rattle.std.proofs.lemmas.Bool.Decides.{Decides-ltb}
use Rattle.dh_syntax.specs.Expressions.Bridge.{row_of}
use Rattle.dh_syntax.specs.Names.Indices.{RowIndicesBelow}
use Rattle.dh_terms.proofs.KidItems.{room_keeps, room_stops, room_ends, indices_iff-Var, indices_iff-Node}
use Rattle.dh_terms.proofs.conditions.+indices.Goals as goal

pub are_indices_below-returns-in-Node : goal.are_indices_below-returns-in-Node
are_indices_below-returns-in-Node t c =
    let node = indices_iff-Node c.args.limit c.args.e.now c.in-Node.field-0 c.in-Node.kids c.in-Node.is in
    (λ h. node.0 (c.are_kids_below.ensures.0 h), λ w. c.are_kids_below.ensures.1 (node.1 w))

pub are_kids_below-loop-kid-preserved : goal.are_kids_below-loop-kid-preserved
are_kids_below-loop-kid-preserved t c =
    room_keeps c.args.limit c.as_slice-kid-items.result.now c.loop-kid.kid-index c.kid-item.result _ c.loop-kid-test.true c.kid-item.is
    (c.are_indices_below.ensures.0 c.if-not-are_indices_below.false) c.loop-kid.invariant

pub are_kids_below-returns-then-not-are_indices_below : goal.are_kids_below-returns-then-not-are_indices_below
are_kids_below-returns-then-not-are_indices_below t c =
    let stops = room_stops c.args.limit c.as_slice-kid-items.result.now c.loop-kid.kid-index c.kid-item.result _ c.loop-kid-test.true c.kid-item.is
    (λ w. false≢true (sym c.if-not-are_indices_below.true ∙ c.are_indices_below.ensures.1 w)) c.loop-kid.invariant in
    (λ h. absurd (false≢true h), λ w. absurd (stops (subst (λ ks. RowIndicesBelow c.args.limit (row_of ks)) (sym c.as_slice-kid-items.ensures) w)))

pub are_kids_below-returns : goal.are_kids_below-returns
are_kids_below-returns t c =
    let ends = room_ends c.args.limit c.as_slice-kid-items.result.now c.loop-kid.kid-index _ c.loop-kid-test.false c.loop-kid.invariant in
    (λ _. subst (λ ks. RowIndicesBelow c.args.limit (row_of ks)) c.as_slice-kid-items.ensures ends, λ _. refl)

pub are_indices_below-returns-in-Var : goal.are_indices_below-returns-in-Var
are_indices_below-returns-in-Var t c =
    let leaf = indices_iff-Var c.args.limit c.args.e.now c.in-Var.field-0 c.in-Var.index c.in-Var.is in
    let tests = Decides-ltb c.from.result c.args.limit in
    (λ h. leaf.0 (omega (arith, c.from.ensures, tests.0 h)), λ w. tests.1 (omega (arith, c.from.ensures, leaf.1 w)))
