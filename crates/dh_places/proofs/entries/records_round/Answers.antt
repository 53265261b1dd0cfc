use Rattle.std.proofs.Common.{◌≡◌, ◌-◌, suc, ap, sym, ◌∙◌, arith}
use Rattle.dh_syntax.specs.Text.Noting.{records_round}
use Rattle.dh_places.specs.Inside.Later.{later}
use Rattle.dh_places.proofs.FromRight.{record_more}
use Rattle.dh_places.proofs.entries.records_round.Goals as goal

pub loop-left-preserved : goal.loop-left-preserved
loop-left-preserved g c =
    let loop = c.loop-left in
    let n = g.N.Notes in
    let one : loop.left ≡ suc (loop.left - 1) = omega arith in
    record_more n.noting loop.left _ c.args.from c.args.last (n.view loop.nodes) _ one
    (c.in_ok-nodes.ensures ∙ ap (λ at. n.noting.node at c.args.last (n.view loop.nodes)) c.in_ok-position.ensures)
    ∙ loop.invariant

pub returns : goal.returns
returns g c =
    let loop = c.loop-left in
    let n = g.N.Notes in
    let none : loop.left ≡ 0 = omega arith in
    ap (λ k. records_round n.noting (later k c.args.from) c.args.last (n.view loop.nodes)) (sym none) ∙ loop.invariant
