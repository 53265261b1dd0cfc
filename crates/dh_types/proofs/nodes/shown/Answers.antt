use Rattle.std.proofs.Common.{Some, sym, ap, ◌∙◌}
use Rattle.std.specs.Option.{option_copied}
use Rattle.dh_types.proofs.CodeNodes.{node-shown, absent-leaf, bound-leaf, free-leaf}
use Rattle.dh_types.proofs.nodes.shown.Goals as goal

pub returns-in-Some-Node : goal.returns-in-Some-Node
returns-in-Some-Node c =
    node-shown c.args.codes.now c.requires.coded c.args.id c.in-Some-Node.op c.as_slice.result.now
    (sym c.get.ensures ∙ ap option_copied c.in-Some-Node.is ∙ cc)

pub returns-in-Some-Bound : goal.returns-in-Some-Bound
returns-in-Some-Bound c = bound-leaf c.args.codes.now c.requires.coded c.args.id _ (sym c.get.ensures ∙ ap option_copied c.in-Some-Bound.is ∙ ap Some c.in-Some-Bound.field-0-is)

pub returns-in-Some-Free : goal.returns-in-Some-Free
returns-in-Some-Free c = free-leaf c.args.codes.now c.requires.coded c.args.id _ _ (sym c.get.ensures ∙ ap option_copied c.in-Some-Free.is ∙ ap Some c.in-Some-Free.field-0-is)

pub returns-in-None : goal.returns-in-None
returns-in-None c = absent-leaf c.args.codes.now c.requires.coded c.args.id (sym c.get.ensures ∙ ap option_copied c.in-None.is)
