use Rattle.dh_laws.proofs.Contracting.Contractions.{sub-first}
use Rattle.dh_laws.proofs.nameless.sub_of_first.Goals as goal

pub returns-clause-with_names : goal.returns-clause-with_names
returns-clause-with_names c = sub-first

pub returns-clause-without_names : goal.returns-clause-without_names
returns-clause-without_names c = sub-first
