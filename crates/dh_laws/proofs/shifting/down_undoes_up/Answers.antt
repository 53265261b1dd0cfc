use Rattle.dh_laws.proofs.Names.Shifts.{down-up}
use Rattle.dh_laws.proofs.shifting.down_undoes_up.Goals as goal

pub returns : goal.returns
returns c = down-up
