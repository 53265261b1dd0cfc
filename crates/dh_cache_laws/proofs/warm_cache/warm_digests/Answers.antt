use Rattle.dh_cache_laws.proofs.WarmDigests.{warm_digests}
use Rattle.dh_cache_laws.proofs.warm_cache.warm_digests.Goals as goal

pub returns : goal.returns
returns c = warm_digests
