use Rattle.dh_laws.proofs.Normalising.NamelessAgain.{cores_again, bares_again}
use Rattle.dh_laws.proofs.kept_heads.heads_found_again.Goals as goal

pub returns-clause-with_names : goal.returns-clause-with_names
returns-clause-with_names c = cores_again

pub returns-clause-without_names : goal.returns-clause-without_names
returns-clause-without_names c = bares_again
