use Rattle.dh_watch_laws.proofs.Asking.{asks_decide}
use Rattle.dh_watch_laws.proofs.passes.asks_decide.Goals as goal

pub returns : goal.returns
returns c = asks_decide
