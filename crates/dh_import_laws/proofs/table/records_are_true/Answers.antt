use Rattle.dh_import_laws.proofs.Facts.{texts_are_parsed, entries_are_good, limits_are_licensed}
use Rattle.dh_import_laws.proofs.table.records_are_true.Goals as goal

pub returns-clause-texts : goal.returns-clause-texts
returns-clause-texts c = texts_are_parsed

pub returns-clause-entries : goal.returns-clause-entries
returns-clause-entries c = entries_are_good

pub returns-clause-limits : goal.returns-clause-limits
returns-clause-limits c = limits_are_licensed
