use Rattle.dh_laws.proofs.Normalising.NamelessTests.{core_test, bare_test}
use Rattle.dh_laws.proofs.nameless_runs.test_of_nameless.Goals as goal

pub returns-clause-with_names : goal.returns-clause-with_names
returns-clause-with_names c = core_test

pub returns-clause-without_names : goal.returns-clause-without_names
returns-clause-without_names c = bare_test
