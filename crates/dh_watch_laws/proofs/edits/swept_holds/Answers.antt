use Rattle.dh_watch_laws.proofs.Sweeping.{swept_holds}
use Rattle.dh_watch_laws.proofs.edits.swept_holds.Goals as goal

pub returns : goal.returns
returns c = swept_holds
