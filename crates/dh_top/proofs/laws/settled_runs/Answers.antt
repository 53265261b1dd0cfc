use Rattle.dh_top.proofs.SettledRuns.{settled_runs}
use Rattle.dh_top.proofs.laws.settled_runs.Goals as goal

pub returns : goal.returns
returns c = settled_runs
