use Rattle.dh_laws.proofs.Names.Shifts.{nesting-subst}
use Rattle.dh_laws.proofs.substituting.subst_nesting.Goals as goal

pub returns : goal.returns
returns c = nesting-subst
