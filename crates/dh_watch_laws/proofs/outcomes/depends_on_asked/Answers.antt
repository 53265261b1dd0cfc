use Rattle.dh_watch_laws.proofs.Depending.{depends_on_asked}
use Rattle.dh_watch_laws.proofs.outcomes.depends_on_asked.Goals as goal

pub returns : goal.returns
returns c = depends_on_asked
