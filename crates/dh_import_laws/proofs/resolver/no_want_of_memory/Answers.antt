use Rattle.dh_import_laws.proofs.NoMemory.{keys_need_none, roots_need_none}
use Rattle.dh_import_laws.proofs.resolver.no_want_of_memory.Goals as goal

pub returns-clause-keys : goal.returns-clause-keys
returns-clause-keys c = keys_need_none

pub returns-clause-root : goal.returns-clause-root
returns-clause-root c = roots_need_none
