use Rattle.dh_laws.proofs.Names.FreeIndices.{free-put_under}
use Rattle.dh_laws.proofs.indices.indices_put_under.Goals as goal

pub returns : goal.returns
returns c = free-put_under
