use Rattle.std.proofs.Common.{sym, ap, ◌∙◌}
use Rattle.std.specs.Option.{option_copied}
use Rattle.dh_store.proofs.Coding.{code-Bound, code-Free}
use Rattle.dh_types.proofs.CodeNodes.{node-shown, absent-nothing}
use Rattle.dh_types.proofs.nodes.form_of.Goals as goal

pub returns-in-Some-Node : goal.returns-in-Some-Node
returns-in-Some-Node c =
    node-shown c.args.codes.now c.requires.coded c.args.id c.in-Some-Node.op c.as_slice.result.now
    (sym c.get.ensures ∙ ap option_copied c.in-Some-Node.is ∙ cc)

pub returns-in-Some-Free : goal.returns-in-Some-Free
returns-in-Some-Free c = code-Free c.args.codes.now c.requires.coded c.args.id _ _ (sym c.get.ensures ∙ ap option_copied c.in-Some-Free.is ∙ cc)

pub returns-in-Some-Bound : goal.returns-in-Some-Bound
returns-in-Some-Bound c = code-Bound c.args.codes.now c.requires.coded c.args.id _ (sym c.get.ensures ∙ ap option_copied c.in-Some-Bound.is ∙ cc)

pub returns-in-None : goal.returns-in-None
returns-in-None c = absent-nothing c.args.codes.now c.requires.coded c.args.id (sym c.get.ensures ∙ ap option_copied c.in-None.is)
