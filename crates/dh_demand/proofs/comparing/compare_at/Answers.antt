use Rattle.std.proofs.Common.{refl}
use Rattle.dh_demand.proofs.Building.{import_built}
use Rattle.dh_demand.proofs.Compared.{built_compared}
use Rattle.dh_demand.proofs.comparing.compare_at.Goals as goal

pub returns : goal.returns
returns g c parent k h = built_compared _ _ _ _ c.compare_value.ensures (import_built parent _ k c.args.edge _ _ h c.outcome.ensures refl)
