use Rattle.std.proofs.Common.{◌≡◌, [], map, ap, sym, ◌∙◌, rules}
use Rattle.dh_syntax.specs.Text.Noting.{lets_round}
use Rattle.dh_places.specs.Parts.{pending_of}
use Rattle.dh_places.proofs.FromRight.{let_more}
use Rattle.dh_places.proofs.bindings.lets_round.Goals as goal

pub loop-binding-preserved : goal.loop-binding-preserved
loop-binding-preserved g c =
    let loop = c.loop-binding in
    let n = g.N.Notes in
    let_more n.noting n.view loop.pendings.items c.pop.new.self.items c.in-Some.binding c.args.last (n.view loop.nodes) _ c.in-Some.ensures.items
    (c.in_ok-nodes.ensures ∙ ap (n.noting.node c.in-Some.binding.from c.args.last) c.in_ok-parts.ensures)
    ∙ loop.invariant

pub returns : goal.returns
returns g c =
    let loop = c.loop-binding in
    let n = g.N.Notes in
    let none : loop.pendings.items ≡ [] = search rules in
    ap (λ ps. lets_round n.noting (map (pending_of n.noting n.view) ps) c.args.last (n.view loop.nodes)) (sym none) ∙ loop.invariant
