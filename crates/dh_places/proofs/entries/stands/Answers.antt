use Rattle.std.proofs.Common.{◌≡◌, [], ap, sym, ◌∙◌, rules}
use Rattle.dh_places.proofs.FromRight.{before, stand_rows, stands-before, stand_more}
use Rattle.dh_places.proofs.entries.stands.Goals as goal

pub loop-stand-preserved : goal.loop-stand-preserved
loop-stand-preserved g c =
    let loop = c.loop-stand in
    let n = g.N.Notes in
    stand_more n.noting n.view loop.entries.items c.pop.new.self.items _ (n.view loop.nodes) _ c.in-Some.ensures.items c.in_ok-nodes.ensures ∙ loop.invariant

pub returns : goal.returns
returns g c =
    let loop = c.loop-stand in
    let n = g.N.Notes in
    let none : loop.entries.items ≡ [] = search rules in
    ap (λ es. before n.noting (stand_rows n.noting n.view es) (n.view loop.nodes)) (sym none) ∙ loop.invariant
    ∙ ap (λ es. before n.noting (stand_rows n.noting n.view es) (n.view c.none-nodes.result)) c.in_ok-entries.ensures
    ∙ ap (before n.noting (stand_rows n.noting n.view c.args.entries)) c.none-nodes.ensures
    ∙ sym (stands-before n.noting n.view c.args.entries)
