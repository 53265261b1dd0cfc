use Rattle.dh_import_laws.proofs.Reclaiming.{released_between, fetches_by_releases}
use Rattle.dh_import_laws.proofs.table.claimed_again.Goals as goal

pub returns-clause-released : goal.returns-clause-released
returns-clause-released c = released_between

pub returns-clause-fetches : goal.returns-clause-fetches
returns-clause-fetches c = fetches_by_releases
