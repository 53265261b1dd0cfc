use Rattle.dh_confluence.proofs.OneEnd.{fragment_kept}
use Rattle.dh_confluence.proofs.order.fragment_kept.Goals as goal

pub returns : goal.returns
returns c = fragment_kept
