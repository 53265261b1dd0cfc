use Rattle.dh_confluence.proofs.OneEnd.{settled_decides}
use Rattle.dh_confluence.proofs.order.settled_decides.Goals as goal

pub returns : goal.returns
returns c = settled_decides
