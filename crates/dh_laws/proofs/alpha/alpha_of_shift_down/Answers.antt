use Rattle.dh_laws.proofs.Names.AlphaMoves.{alpha-shift_down}
use Rattle.dh_laws.proofs.alpha.alpha_of_shift_down.Goals as goal

pub returns : goal.returns
returns c = alpha-shift_down
