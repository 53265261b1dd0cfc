use Rattle.std.proofs.Common.{arith, [], ◌∷◌}
use Rattle.dh_decode.specs.Inside.Views.{part_of}
use Rattle.dh_decode.proofs.NodeParts.{made_as, two_parts, kept_node}
use Rattle.dh_decode.proofs.nodes.two.Goals as goal

pub returns : goal.returns
returns c =
    made_as c.kept.result _ _ c.kept.ensures
    (kept_node c.args.op (part_of c.args.left ∷ part_of c.args.right ∷ []) _ _ (two_parts _ _ _ _ _ _ c.in_ok-kids.ensures c.in_ok-put.ensures c.in_ok-put-2.ensures) (omega arith))
