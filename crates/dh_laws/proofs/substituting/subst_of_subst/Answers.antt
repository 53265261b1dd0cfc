use Rattle.dh_laws.proofs.Names.SubstPairs.{subst-subst}
use Rattle.dh_laws.proofs.substituting.subst_of_subst.Goals as goal

pub returns : goal.returns
returns c = λ x n a y k b e h l. subst-subst x n a y k b h l e
