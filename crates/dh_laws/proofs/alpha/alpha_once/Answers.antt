use Rattle.dh_laws.proofs.Names.AlphaForms.{alpha-alpha}
use Rattle.dh_laws.proofs.alpha.alpha_once.Goals as goal

pub returns : goal.returns
returns c = alpha-alpha
