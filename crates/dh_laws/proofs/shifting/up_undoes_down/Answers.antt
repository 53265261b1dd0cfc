use Rattle.dh_laws.proofs.Names.Shifts.{up-down}
use Rattle.dh_laws.proofs.shifting.up_undoes_down.Goals as goal

pub returns : goal.returns
returns c = up-down
