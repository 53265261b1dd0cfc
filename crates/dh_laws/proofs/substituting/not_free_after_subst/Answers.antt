use Rattle.dh_laws.proofs.Names.Shifts.{is_free-subst}
use Rattle.dh_laws.proofs.substituting.not_free_after_subst.Goals as goal

pub returns : goal.returns
returns c = is_free-subst
