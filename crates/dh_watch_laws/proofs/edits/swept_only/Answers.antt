use Rattle.dh_watch_laws.proofs.Forgetting.{swept_only}
use Rattle.dh_watch_laws.proofs.edits.swept_only.Goals as goal

pub returns : goal.returns
returns c = swept_only
