use Rattle.dh_watch_laws.proofs.VisitCounts.{counts_are_kept, one_counts}
use Rattle.dh_watch_laws.proofs.counts.counts_are_kept.Goals as goal

pub returns-clause-one : goal.returns-clause-one
returns-clause-one c = one_counts

pub returns-clause-kept : goal.returns-clause-kept
returns-clause-kept c = counts_are_kept
