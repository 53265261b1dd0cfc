use Rattle.dh_laws.proofs.Names.FreeIndices.{free-shift_up}
use Rattle.dh_laws.proofs.indices.indices_of_shift_up.Goals as goal

pub returns : goal.returns
returns c = free-shift_up
