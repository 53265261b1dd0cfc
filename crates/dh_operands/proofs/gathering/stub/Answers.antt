use Rattle.std.proofs.Common.{ap}
use Rattle.dh_operands.proofs.NodeParts.{no_part}
use Rattle.dh_operands.proofs.gathering.stub.Goals as goal

pub returns : goal.returns
returns c = ap (λ t. record { expression = t; nests = 501 }) (no_part _ _ c.new.ensures)
