use Rattle.dh_operands.proofs.NodeParts.{none_gathered}
use Rattle.dh_operands.proofs.gathering.Gathering.new.Goals as goal

pub returns : goal.returns
returns c = none_gathered _ c.new.ensures
