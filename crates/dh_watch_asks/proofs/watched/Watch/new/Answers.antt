use Rattle.std.proofs.Common.{ap, sym, subst}
use Rattle.dh_watch.specs.Watchers.{IsWatched}
use Rattle.dh_watch_laws.specs.Editing.{locs_of}
use Rattle.dh_watch_asks.proofs.watched.Watch.new.Goals as goal

pub returns-clause-agrees : goal.returns-clause-agrees
returns-clause-agrees g c = subst (λ f. IsWatched (g.F.Files.now f) c.new.result.source.rows c.new.result.stale) (sym c.new.ensures.files) c.new.ensures.watched

pub returns-clause-kept : goal.returns-clause-kept
returns-clause-kept g c = ap (λ s. locs_of s.recorded.texts) c.new.ensures.nothing
