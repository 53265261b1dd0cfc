use Rattle.dh_laws.proofs.Names.FreeIndices.{free-subst}
use Rattle.dh_laws.proofs.indices.indices_of_subst.Goals as goal

pub returns : goal.returns
returns c = free-subst
