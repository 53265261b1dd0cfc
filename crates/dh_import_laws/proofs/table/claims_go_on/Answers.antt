use Rattle.dh_import_laws.proofs.Laws.{claims_go_on}
use Rattle.dh_import_laws.proofs.table.claims_go_on.Goals as goal

pub returns : goal.returns
returns c = claims_go_on
