use Rattle.dh_laws.proofs.Normalising.NamedAnswers.{same_runs, same_endless_runs, same_plain_answers}
use Rattle.dh_laws.proofs.same_runs.runs_of_same.Goals as goal

pub returns-clause-with_nesting : goal.returns-clause-with_nesting
returns-clause-with_nesting c = same_runs

pub returns-clause-without_nesting : goal.returns-clause-without_nesting
returns-clause-without_nesting c = same_endless_runs

pub returns-clause-plain : goal.returns-clause-plain
returns-clause-plain c = same_plain_answers
