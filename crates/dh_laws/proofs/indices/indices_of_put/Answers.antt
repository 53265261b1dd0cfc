use Rattle.dh_laws.proofs.Names.FreeIndices.{free-put}
use Rattle.dh_laws.proofs.indices.indices_of_put.Goals as goal

pub returns : goal.returns
returns c = free-put
