use Rattle.dh_import_laws.proofs.OnceRecorded.{texts_are_recorded_once, looks_are_recorded_once}
use Rattle.dh_import_laws.proofs.table.recorded_once.Goals as goal

pub returns-clause-texts : goal.returns-clause-texts
returns-clause-texts c = texts_are_recorded_once

pub returns-clause-looks : goal.returns-clause-looks
returns-clause-looks c = looks_are_recorded_once
