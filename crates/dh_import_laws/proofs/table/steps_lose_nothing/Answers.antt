use Rattle.dh_import_laws.proofs.Facts.{outcomes_stay, root_stays}
use Rattle.dh_import_laws.proofs.Counts.{too_many_stay}
use Rattle.dh_import_laws.proofs.table.steps_lose_nothing.Goals as goal

pub returns-clause-outcomes : goal.returns-clause-outcomes
returns-clause-outcomes c = outcomes_stay

pub returns-clause-root : goal.returns-clause-root
returns-clause-root c = root_stays

pub returns-clause-too_many : goal.returns-clause-too_many
returns-clause-too_many c = too_many_stay
