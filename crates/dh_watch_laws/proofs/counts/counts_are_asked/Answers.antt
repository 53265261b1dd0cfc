use Rattle.dh_watch_laws.proofs.VisitCounts.{counts_are_asked}
use Rattle.dh_watch_laws.proofs.counts.counts_are_asked.Goals as goal

pub returns : goal.returns
returns c = counts_are_asked
