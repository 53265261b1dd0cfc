use Rattle.dh_watch_laws.proofs.Holding.{kept_are_resolved}
use Rattle.dh_watch_laws.proofs.outcomes.kept_are_resolved.Goals as goal

pub returns : goal.returns
returns c = kept_are_resolved
