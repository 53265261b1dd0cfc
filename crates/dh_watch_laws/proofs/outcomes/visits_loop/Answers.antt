use Rattle.dh_watch_laws.proofs.Looping.{visits_loop}
use Rattle.dh_watch_laws.proofs.outcomes.visits_loop.Goals as goal

pub returns : goal.returns
returns c = visits_loop
