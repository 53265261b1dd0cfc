use Rattle.dh_laws.proofs.Normalising.NamelessAnswers.{core_endless_runs, bare_endless_runs}
use Rattle.dh_laws.proofs.nameless_runs.endless_runs_of_nameless.Goals as goal

pub returns-clause-with_names : goal.returns-clause-with_names
returns-clause-with_names c = core_endless_runs

pub returns-clause-without_names : goal.returns-clause-without_names
returns-clause-without_names c = bare_endless_runs
