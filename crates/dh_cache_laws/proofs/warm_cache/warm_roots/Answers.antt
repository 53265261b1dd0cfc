use Rattle.dh_cache_laws.proofs.WarmRoots.{warm_keys, warm_root, warm_end}
use Rattle.dh_cache_laws.proofs.warm_cache.warm_roots.Goals as goal

pub returns-clause-keys : goal.returns-clause-keys
returns-clause-keys c = warm_keys

pub returns-clause-root : goal.returns-clause-root
returns-clause-root c = warm_root

pub returns-clause-end : goal.returns-clause-end
returns-clause-end c = warm_end
