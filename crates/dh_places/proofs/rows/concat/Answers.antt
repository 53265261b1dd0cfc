use Rattle.std.proofs.Common.{◌≡◌, [], ap, sym, ◌∙◌, rules}
use Rattle.dh_syntax.specs.Text.Meaning.{values}
use Rattle.dh_places.specs.Parts.{labelled}
use Rattle.dh_places.proofs.FromRight.{before, concat-before, row_more}
use Rattle.dh_places.proofs.rows.concat.Goals as goal

pub loop-row-preserved : goal.loop-row-preserved
loop-row-preserved g c =
    let loop = c.loop-row in
    let n = g.N.Notes in
    row_more n.noting n.view loop.rows.items c.pop.new.self.items _ (n.view loop.nodes) _ c.in-Some.ensures.items c.in_ok-nodes.ensures ∙ loop.invariant

pub returns : goal.returns
returns g c =
    let loop = c.loop-row in
    let n = g.N.Notes in
    let none : loop.rows.items ≡ [] = search rules in
    ap (λ rs. before n.noting (values (labelled n.noting n.view rs)) (n.view loop.nodes)) (sym none) ∙ loop.invariant
    ∙ ap (λ rs. before n.noting (values (labelled n.noting n.view rs)) (n.view c.none-nodes.result)) c.in_ok-rows.ensures
    ∙ ap (before n.noting (values (labelled n.noting n.view c.args.rows))) c.none-nodes.ensures
    ∙ sym (concat-before n.noting (values (labelled n.noting n.view c.args.rows)))
