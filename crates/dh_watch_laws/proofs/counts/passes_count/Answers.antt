use Rattle.dh_watch_laws.proofs.VisitPasses.{passes_count}
use Rattle.dh_watch_laws.proofs.counts.passes_count.Goals as goal

pub returns : goal.returns
returns c = passes_count
