use Rattle.dh_top.proofs.WarmRuns.{warm_runs_on, warm_runs}
use Rattle.dh_top.proofs.laws.warm_runs.Goals as goal

pub returns-clause-on : goal.returns-clause-on
returns-clause-on c = warm_runs_on

pub returns-clause-told : goal.returns-clause-told
returns-clause-told c = warm_runs
