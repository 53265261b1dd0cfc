use Rattle.dh_laws.proofs.Normalising.RunCosts.{over_below_cost, over_below_whole_cost}
use Rattle.dh_laws.proofs.runs.over_below_cost.Goals as goal

pub returns-clause-plain : goal.returns-clause-plain
returns-clause-plain c = over_below_cost

pub returns-clause-whole : goal.returns-clause-whole
returns-clause-whole c = over_below_whole_cost
