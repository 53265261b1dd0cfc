use Rattle.dh_watch_laws.proofs.Standing.{faults_of_kept_stand}
use Rattle.dh_watch_laws.proofs.outcomes.faults_of_kept_stand.Goals as goal

pub returns : goal.returns
returns c = faults_of_kept_stand
