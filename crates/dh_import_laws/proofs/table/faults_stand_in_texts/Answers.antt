use Rattle.dh_import_laws.proofs.Blamed.{faults_stand, root_faults_stand}
use Rattle.dh_import_laws.proofs.table.faults_stand_in_texts.Goals as goal

pub returns-clause-keys : goal.returns-clause-keys
returns-clause-keys c = faults_stand

pub returns-clause-root : goal.returns-clause-root
returns-clause-root c = root_faults_stand
