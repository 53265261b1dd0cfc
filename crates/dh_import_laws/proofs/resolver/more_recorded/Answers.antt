use Rattle.dh_import_laws.proofs.Laws.{more_recorded}
use Rattle.dh_import_laws.proofs.resolver.more_recorded.Goals as goal

pub returns : goal.returns
returns c = more_recorded
