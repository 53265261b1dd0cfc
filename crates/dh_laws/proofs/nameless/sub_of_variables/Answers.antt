use Rattle.dh_laws.proofs.Names.Renamings.{sub-Bound}
use Rattle.dh_laws.proofs.nameless.sub_of_variables.Goals as goal

pub returns-clause-with_names : goal.returns-clause-with_names
returns-clause-with_names c = sub-Bound

pub returns-clause-without_names : goal.returns-clause-without_names
returns-clause-without_names c = sub-Bound
