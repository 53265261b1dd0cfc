use Rattle.std.proofs.Common.{sym, ◌∙◌}
use Rattle.dh_demand.proofs.Visiting.{not-false, visit_undecided, visit_bad, visit_good, visit_barred}
use Rattle.dh_demand.proofs.visits.visit.Goals as goal

pub returns-in-None-clause-next : goal.returns-in-None-clause-next
returns-in-None-clause-next g c k h = visit_undecided _ _ k _ h (not-false _ c.if-not-edge.false) c.in-None.ensures

pub returns-in-Some-Bad-clause-next : goal.returns-in-Some-Bad-clause-next
returns-in-Some-Bad-clause-next g c k h = visit_bad _ _ k _ c.in-Some-Bad.field-0-0 h (not-false _ c.if-not-edge.false) (rw c.in-Some-Bad.field-0-is at c.in-Some-Bad.ensures)

pub returns-then-is_allowed-clause-next : goal.returns-then-is_allowed-clause-next
returns-then-is_allowed-clause-next g c k h =
    visit_good _ _ k c.key.result.now _ c.in-Some-Good.field-0-0 _ h (not-false _ c.if-not-edge.false) (rw c.in-Some-Good.field-0-is at c.in-Some-Good.ensures)
    c.key.ensures (sym c.is_allowed.ensures ∙ c.if-is_allowed.true)

pub returns-else-is_allowed-clause-next : goal.returns-else-is_allowed-clause-next
returns-else-is_allowed-clause-next g c k h =
    visit_barred _ _ k c.key.result.now _ c.in-Some-Good.field-0-0 _ h (not-false _ c.if-not-edge.false) (rw c.in-Some-Good.field-0-is at c.in-Some-Good.ensures)
    c.key.ensures (sym c.is_allowed.ensures ∙ c.if-is_allowed.false)
