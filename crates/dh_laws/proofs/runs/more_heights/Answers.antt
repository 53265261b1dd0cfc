use Rattle.dh_laws.proofs.Normalising.RunLimits.{more_heights}
use Rattle.dh_laws.proofs.runs.more_heights.Goals as goal

pub returns-clause-named : goal.returns-clause-named
returns-clause-named c = more_heights

pub returns-clause-with_names : goal.returns-clause-with_names
returns-clause-with_names c = more_heights

pub returns-clause-without_names : goal.returns-clause-without_names
returns-clause-without_names c = more_heights
