use Rattle.dh_watch_laws.proofs.VisitCounts.{counts_overflow}
use Rattle.dh_watch_laws.proofs.counts.counts_overflow.Goals as goal

pub returns : goal.returns
returns c = counts_overflow
