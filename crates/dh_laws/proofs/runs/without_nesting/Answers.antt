use Rattle.dh_laws.proofs.Normalising.RunLimits.{without_nesting}
use Rattle.dh_laws.proofs.runs.without_nesting.Goals as goal

pub returns-clause-named : goal.returns-clause-named
returns-clause-named c = without_nesting

pub returns-clause-with_names : goal.returns-clause-with_names
returns-clause-with_names c = without_nesting

pub returns-clause-without_names : goal.returns-clause-without_names
returns-clause-without_names c = without_nesting
