use Rattle.dh_shared.proofs.Rising.{puts_back}
use Rattle.dh_shared.proofs.calls.put_back.Goals as goal

pub returns : goal.returns
returns g c = puts_back _ _ _ _ c.release.ensures
