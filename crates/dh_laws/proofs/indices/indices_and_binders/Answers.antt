use Rattle.dh_laws.proofs.Names.FreeIndices.{indices-free, free-indices}
use Rattle.dh_laws.proofs.indices.indices_and_binders.Goals as goal

pub returns-clause-at_first : goal.returns-clause-at_first
returns-clause-at_first c = indices-free

pub returns-clause-at_last : goal.returns-clause-at_last
returns-clause-at_last c = free-indices
