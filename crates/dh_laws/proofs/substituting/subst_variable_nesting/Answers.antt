use Rattle.dh_syntax.proofs.AlphaEquations.{nesting-subst-Leaf}
use Rattle.dh_laws.proofs.substituting.subst_variable_nesting.Goals as goal

pub returns : goal.returns
returns c = nesting-subst-Leaf
