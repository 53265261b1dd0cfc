use Rattle.dh_laws.proofs.Names.Cores.{core-contracted}
use Rattle.dh_laws.proofs.nameless.core_of_put.Goals as goal

pub returns : goal.returns
returns c = core-contracted
