use Rattle.dh_laws.proofs.Names.FreeIndices.{free-alpha}
use Rattle.dh_laws.proofs.indices.indices_of_alpha.Goals as goal

pub returns : goal.returns
returns c = free-alpha
