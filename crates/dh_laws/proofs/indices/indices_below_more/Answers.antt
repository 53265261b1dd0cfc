use Rattle.dh_laws.proofs.Names.FreeIndices.{free-more}
use Rattle.dh_laws.proofs.indices.indices_below_more.Goals as goal

pub returns : goal.returns
returns c = free-more
