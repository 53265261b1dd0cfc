use Rattle.dh_laws.proofs.Names.Shifts.{is_free-shifted}
use Rattle.dh_laws.proofs.shifting.free_after_up.Goals as goal

pub returns : goal.returns
returns c = is_free-shifted
