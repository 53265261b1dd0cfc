use Rattle.dh_cache_laws.proofs.OneWorld.{one_world}
use Rattle.dh_cache_laws.proofs.one_worlds.one_world.Goals as goal

pub returns : goal.returns
returns c = one_world
