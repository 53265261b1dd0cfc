use Rattle.std.specs.Prelude.{length}
use Rattle.dh_watch_runs.proofs.deciding.+meets.Given as goal

abbrev pub decreases-meets : goal.decreases-meets
decreases-meets g l = length l.trail.now
