use Rattle.dh_watch_laws.proofs.Overflowing.{many_overflow}
use Rattle.dh_watch_laws.proofs.passes.many_overflow.Goals as goal

pub returns : goal.returns
returns c = many_overflow
