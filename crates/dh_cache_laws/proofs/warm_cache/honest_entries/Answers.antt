use Rattle.dh_cache_laws.proofs.WarmRoots.{honest_entries}
use Rattle.dh_cache_laws.proofs.warm_cache.honest_entries.Goals as goal

pub returns : goal.returns
returns c = honest_entries
