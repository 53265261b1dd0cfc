use Rattle.dh_laws.proofs.Names.Shifts.{is_free-up}
use Rattle.dh_laws.proofs.shifting.not_free_after_up.Goals as goal

pub returns : goal.returns
returns c = is_free-up
