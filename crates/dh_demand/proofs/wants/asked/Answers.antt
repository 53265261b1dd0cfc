use Rattle.dh_demand.proofs.Wanting.{asked_are}
use Rattle.dh_demand.proofs.wants.asked.Goals as goal

pub returns : goal.returns
returns g c = asked_are _ _ _ _ c.mark_asked.ensures
