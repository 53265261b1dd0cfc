use Rattle.std.proofs.Common.{◌≡◌, ◌∙◌, ap}
use Rattle.dh_syntax.proofs.Bridge.{term-Var}
use Rattle.dh_syntax.specs.Expressions.Tree.{Name, Var, Term, Leaf}
use Rattle.dh_decode.proofs.NodeParts.{made_of}
use Rattle.dh_decode.proofs.nodes.variable.Goals as goal

pub returns : goal.returns
returns c =
    let leaf : Name → Term = λ x. Leaf (record { name = x; index = c.args.index }) in
    made_of c.new-2.result 0 _ _ c.new-2.ensures (term-Var c.in_ok-label.label c.args.index ∙ ap leaf c.in_ok-label.ensures)
