use Rattle.dh_watch_laws.proofs.Running.{runs_close}
use Rattle.dh_watch_laws.proofs.counts.runs_close.Goals as goal

pub returns : goal.returns
returns c = runs_close
