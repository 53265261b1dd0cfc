use Rattle.std.proofs.Common.{sym, ◌∙◌}
use Rattle.dh_infer.proofs.AlikeCodes.{same-node}
use Rattle.dh_infer.proofs.sharing.are_same_nodes.Goals as goal

pub returns-then-is_same_op : goal.returns-then-is_same_op
returns-then-is_same_op c = λ e g m h.
    let n = c.in-Some-Some in
    same-node c.args.codes.now g m c.args.code c.args.other n.op.now n.another.now n.kids.now n.others.now c.requires.code c.requires.other n.ensures n.ensures'
    (sym c.is_same_op.ensures ∙ c.if-is_same_op.true) (c.are_same_kids.ensures e g h)
