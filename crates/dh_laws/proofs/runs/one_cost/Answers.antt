use Rattle.dh_laws.proofs.Normalising.RunLimits.{one_whole_cost, one_cost}
use Rattle.dh_laws.proofs.runs.one_cost.Goals as goal

pub returns-clause-whole : goal.returns-clause-whole
returns-clause-whole c = one_whole_cost

pub returns-clause-plain : goal.returns-clause-plain
returns-clause-plain c = one_cost
