use Rattle.dh_confluence.proofs.OneEnd.{one_end}
use Rattle.dh_confluence.proofs.order.one_end.Goals as goal

pub returns : goal.returns
returns c = one_end
