use Rattle.dh_import_laws.proofs.Laws.{fetches_are_wanted, frozen_lead_after_looks}
use Rattle.dh_import_laws.proofs.table.only_wanted.Goals as goal

pub returns-clause-fetches : goal.returns-clause-fetches
returns-clause-fetches c = fetches_are_wanted

pub returns-clause-frozen : goal.returns-clause-frozen
returns-clause-frozen c = frozen_lead_after_looks
