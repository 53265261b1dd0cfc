use Rattle.dh_confluence.proofs.Joined.{confluence}
use Rattle.dh_confluence.proofs.order.confluence.Goals as goal

pub returns : goal.returns
returns c = confluence
