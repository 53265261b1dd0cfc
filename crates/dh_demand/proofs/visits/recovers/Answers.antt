use Rattle.dh_demand.proofs.Visiting.{fault_goes_on}
use Rattle.dh_demand.proofs.visits.recovers.Goals as goal

pub returns-then-edge : goal.returns-then-edge
returns-then-edge g c parent w h = fault_goes_on parent _ c.in-Fault.edge w _ _ (rw c.in-Fault.is at h) c.outcome.ensures c.if-edge.true c.has_passing_fault.ensures
