use Rattle.dh_watch_laws.proofs.Visiting.{visits_kept}
use Rattle.dh_watch_laws.proofs.outcomes.visits_kept.Goals as goal

pub returns : goal.returns
returns c = visits_kept
