use Rattle.dh_laws.proofs.Names.Shifts.{subst-not_free}
use Rattle.dh_laws.proofs.substituting.subst_not_free.Goals as goal

pub returns : goal.returns
returns c = subst-not_free
