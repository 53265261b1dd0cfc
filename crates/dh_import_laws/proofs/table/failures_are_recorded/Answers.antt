use Rattle.dh_import_laws.proofs.FailedTexts.{failures_are_recorded, root_failures_are_recorded}
use Rattle.dh_import_laws.proofs.table.failures_are_recorded.Goals as goal

pub returns-clause-keys : goal.returns-clause-keys
returns-clause-keys c = failures_are_recorded

pub returns-clause-root : goal.returns-clause-root
returns-clause-root c = root_failures_are_recorded
