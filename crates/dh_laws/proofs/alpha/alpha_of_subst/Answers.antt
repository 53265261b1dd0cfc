use Rattle.dh_laws.proofs.Names.AlphaMoves.{alpha-subst}
use Rattle.dh_laws.proofs.alpha.alpha_of_subst.Goals as goal

pub returns : goal.returns
returns c = alpha-subst
