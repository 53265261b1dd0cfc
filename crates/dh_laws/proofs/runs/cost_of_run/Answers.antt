use Rattle.dh_laws.proofs.Normalising.RunCosts.{cost_of_run, whole_cost_of_run}
use Rattle.dh_laws.proofs.runs.cost_of_run.Goals as goal

pub returns-clause-plain : goal.returns-clause-plain
returns-clause-plain c = cost_of_run

pub returns-clause-whole : goal.returns-clause-whole
returns-clause-whole c = whole_cost_of_run
