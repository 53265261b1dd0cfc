use Rattle.dh_watch_laws.proofs.Visiting.{waits_are_visited}
use Rattle.dh_watch_laws.proofs.outcomes.waits_are_visited.Goals as goal

pub returns : goal.returns
returns c = waits_are_visited
