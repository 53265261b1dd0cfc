use Rattle.dh_laws.proofs.Normalising.NamedAnswers.{same_whole_cost, same_cost}
use Rattle.dh_laws.proofs.same_runs.costs_of_same.Goals as goal

pub returns-clause-whole : goal.returns-clause-whole
returns-clause-whole c = same_whole_cost

pub returns-clause-plain : goal.returns-clause-plain
returns-clause-plain c = same_cost
