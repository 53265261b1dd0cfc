use Rattle.dh_demand.proofs.Building.{import_built}
use Rattle.dh_demand.proofs.assembling.value_at.Goals as goal

pub returns : goal.returns
returns g c parent k h = import_built parent _ k c.args.edge _ _ h c.outcome.ensures (c.in_ok-value.ensures)
