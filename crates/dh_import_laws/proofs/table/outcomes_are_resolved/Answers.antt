use Rattle.dh_import_laws.proofs.Laws.{outcomes_are_resolved, root_is_resolved}
use Rattle.dh_import_laws.proofs.Visits.{visits_are_resolved}
use Rattle.dh_import_laws.proofs.table.outcomes_are_resolved.Goals as goal

pub returns-clause-outcomes : goal.returns-clause-outcomes
returns-clause-outcomes c = outcomes_are_resolved

pub returns-clause-root : goal.returns-clause-root
returns-clause-root c = root_is_resolved

pub returns-clause-visits : goal.returns-clause-visits
returns-clause-visits c = visits_are_resolved
