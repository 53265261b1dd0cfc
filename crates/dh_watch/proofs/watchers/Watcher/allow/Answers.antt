use Rattle.std.proofs.Common.{arith}
use Rattle.dh_watch.proofs.watchers.Watcher.allow.Goals as goal

pub returns-clause-few : goal.returns-clause-few
returns-clause-few g c = c.in_ok-visited.ensures.few (omega (arith, c.if-branch-gt-MOST_KEYS.false))
