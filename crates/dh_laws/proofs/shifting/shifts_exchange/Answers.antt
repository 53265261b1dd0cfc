use Rattle.dh_laws.proofs.Names.ShiftPairs.{up-exchanged}
use Rattle.dh_laws.proofs.shifting.shifts_exchange.Goals as goal

pub returns : goal.returns
returns c = up-exchanged
