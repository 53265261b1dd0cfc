use Rattle.dh_laws.proofs.Contracting.Contractions.{subst-put}
use Rattle.dh_laws.proofs.substituting.subst_of_put.Goals as goal

pub returns : goal.returns
returns c = subst-put
