use Rattle.dh_syntax.proofs.AlphaEquations.{nesting-alpha}
use Rattle.dh_laws.proofs.alpha.alpha_nesting.Goals as goal

pub returns : goal.returns
returns c = nesting-alpha
