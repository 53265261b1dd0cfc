use Rattle.dh_laws.proofs.Names.Cores.{core-shift_up_one}
use Rattle.dh_laws.proofs.nameless.core_of_shift_up.Goals as goal

pub returns : goal.returns
returns c = core-shift_up_one
