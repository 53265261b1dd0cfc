use Rattle.std.proofs.Common.{refl, []}
use Rattle.dh_decode.proofs.NodeParts.{made_as, no_part, kept_node}
use Rattle.dh_decode.proofs.nodes.bare.Goals as goal

pub returns : goal.returns
returns c = made_as c.kept.result _ _ c.kept.ensures (kept_node c.args.op [] _ _ (no_part _ _ c.new.ensures) refl)
