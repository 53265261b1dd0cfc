use Rattle.dh_laws.proofs.Contracting.Contractions.{ren-first}
use Rattle.dh_laws.proofs.nameless.ren_of_first.Goals as goal

pub returns-clause-with_names : goal.returns-clause-with_names
returns-clause-with_names c = ren-first

pub returns-clause-without_names : goal.returns-clause-without_names
returns-clause-without_names c = ren-first
