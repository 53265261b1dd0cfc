use Rattle.dh_import_laws.proofs.Laws.{in_flight_once}
use Rattle.dh_import_laws.proofs.Due.{in_flight_due}
use Rattle.dh_import_laws.proofs.Facts.{in_flight_unrecorded}
use Rattle.dh_import_laws.proofs.table.in_flight_once.Goals as goal

pub returns-clause-once : goal.returns-clause-once
returns-clause-once c = in_flight_once

pub returns-clause-unrecorded : goal.returns-clause-unrecorded
returns-clause-unrecorded c = in_flight_unrecorded

pub returns-clause-due : goal.returns-clause-due
returns-clause-due c = in_flight_due
