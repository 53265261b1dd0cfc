use Rattle.dh_confluence.proofs.OneEnd.{fragment_steps}
use Rattle.dh_confluence.proofs.order.fragment_steps.Goals as goal

pub returns : goal.returns
returns c = fragment_steps
