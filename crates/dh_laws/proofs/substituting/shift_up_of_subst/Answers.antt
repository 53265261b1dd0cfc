use Rattle.dh_laws.proofs.Names.ShiftPairs.{up-subst}
use Rattle.dh_laws.proofs.substituting.shift_up_of_subst.Goals as goal

pub returns : goal.returns
returns c = up-subst
