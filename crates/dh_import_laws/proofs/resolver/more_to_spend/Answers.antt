use Rattle.dh_import_laws.proofs.Laws.{more_to_spend}
use Rattle.dh_import_laws.proofs.resolver.more_to_spend.Goals as goal

pub returns : goal.returns
returns c = more_to_spend
