use Rattle.dh_shared.proofs.Rising.{draws}
use Rattle.dh_shared.proofs.calls.draw.Goals as goal

pub returns : goal.returns
returns g c = draws _ _ _ _ c.claim.ensures
