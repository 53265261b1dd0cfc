use Rattle.dh_decode.proofs.NodeParts.{made_of, no_part}
use Rattle.dh_decode.proofs.nodes.stub.Goals as goal

pub returns : goal.returns
returns c = made_of c.new-2.result 501 _ _ c.new-2.ensures (no_part _ _ c.new.ensures)
