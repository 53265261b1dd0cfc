use Rattle.dh_laws.proofs.Names.AlphaMoves.{alpha-shift_up}
use Rattle.dh_laws.proofs.alpha.alpha_of_shift_up.Goals as goal

pub returns : goal.returns
returns c = alpha-shift_up
