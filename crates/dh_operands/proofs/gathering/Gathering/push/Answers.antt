use Rattle.dh_operands.proofs.NodeParts.{one_more}
use Rattle.dh_operands.proofs.gathering.Gathering.push.Goals as goal

pub returns : goal.returns
returns c = one_more _ _ _ _ _ _ c.in_ok-push.ensures.ok c.max-self.ensures
