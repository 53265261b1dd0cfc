use Rattle.std.proofs.Common.{sym, ap, ◌∙◌}
use Rattle.dh_syntax.specs.Expressions.Bridge.{row_of}
use Rattle.dh_demand.specs.Headways.{are_straight}
use Rattle.dh_demand.proofs.Straight.{straight-variable, straight-import, straight-choice, straight-other, straight-keeps, straight-stops, straight-ends}
use Rattle.dh_demand.proofs.headways.+straight.Goals as goal

pub is_straight-returns-in-Var : goal.is_straight-returns-in-Var
is_straight-returns-in-Var t c = straight-variable c.args.e.now c.in-Var.field-0 c.in-Var.field-1 c.in-Var.is

pub is_straight-returns-in-Import : goal.is_straight-returns-in-Import
is_straight-returns-in-Import t c = straight-import c.args.e.now c.in-Node.op c.in-Node.kids c.is_empty.result c.in-Node.is c.in-Import.ensures c.is_empty.ensures

pub is_straight-returns-in-Choice : goal.is_straight-returns-in-Choice
is_straight-returns-in-Choice t c = straight-choice c.args.e.now c.in-Node.op c.in-Node.kids c.in-Node.is c.in-Choice.ensures

pub is_straight-returns-in-Other : goal.is_straight-returns-in-Other
is_straight-returns-in-Other t c = c.are_straight.ensures ∙ straight-other c.args.e.now c.in-Node.op c.in-Node.kids c.in-Node.is c.in-Other.ensures

pub are_straight-loop-kid-preserved : goal.are_straight-loop-kid-preserved
are_straight-loop-kid-preserved t c =
    straight-keeps c.as_slice-kid-items.result.now c.loop-kid.kid-index c.kid-item.result _ c.loop-kid-test.true c.kid-item.is (sym c.is_straight.ensures ∙ c.if-not-is_straight.false) c.loop-kid.invariant

pub are_straight-returns-then-not-is_straight : goal.are_straight-returns-then-not-is_straight
are_straight-returns-then-not-is_straight t c =
    straight-stops c.as_slice-kid-items.result.now c.loop-kid.kid-index c.kid-item.result _ c.loop-kid-test.true c.kid-item.is (sym c.is_straight.ensures ∙ c.if-not-is_straight.true) c.loop-kid.invariant
    ∙ ap (λ ks. are_straight (row_of ks)) c.as_slice-kid-items.ensures

pub are_straight-returns : goal.are_straight-returns
are_straight-returns t c =
    straight-ends c.as_slice-kid-items.result.now c.loop-kid.kid-index _ c.loop-kid-test.false c.loop-kid.invariant
    ∙ ap (λ ks. are_straight (row_of ks)) c.as_slice-kid-items.ensures
