use Rattle.dh_import_laws.proofs.Laws.{one_outcome}
use Rattle.dh_import_laws.proofs.resolver.one_outcome.Goals as goal

pub returns : goal.returns
returns c = one_outcome
