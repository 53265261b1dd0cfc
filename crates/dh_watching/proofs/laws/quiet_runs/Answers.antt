use Rattle.dh_watching.proofs.Quieting.{quiet_runs}
use Rattle.dh_watching.proofs.laws.quiet_runs.Goals as goal

pub returns : goal.returns
returns c = quiet_runs
