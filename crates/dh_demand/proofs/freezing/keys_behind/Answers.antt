use Rattle.std.proofs.Common.{rules, ◌∙◌}
use Rattle.std.specs.Prelude.{None}
use Rattle.dh_syntax.specs.Expressions.Bridge.{term}
use Rattle.dh_imports.specs.Walk.{keys_of}
use Rattle.dh_demand.specs.Scans.{Begins}
use Rattle.dh_demand.proofs.Behind.{frozen_digests, frozen_values}
use Rattle.dh_demand.proofs.Straight.{imports-enough}
use Rattle.dh_demand.proofs.freezing.keys_behind.Goals as goal

pub returns-clause-digests : goal.returns-clause-digests
returns-clause-digests g c =
    let rows = g.R.Results.rows c.args.results.now in
    let e = term c.args.scan.now.expr in
    let es = c.as_slice-edges.result.now in
    let begins : Begins None rows (keys_of None e) es = rw c.as_slice-edges.ensures c.requires.begins in
    frozen_digests rows e es _ _ _ _ _ _ _ (imports-enough None rows e es begins) c.truncate.ensures.items c.saturating_sub.ensures c.walk_in-next.ensures.rest c.in_ok-keys.ensures.len
    (c.walk_in-next.ensures.came begins).slots_are (c.as_mut_slice.ensures.value ∙ c.in_ok-keys.ensures.items_if_clones_equal (λ y h. search rules))

pub returns-clause-valued : goal.returns-clause-valued
returns-clause-valued g c =
    let rows = g.R.Results.rows c.args.results.now in
    let e = term c.args.scan.now.expr in
    let es = c.as_slice-edges.result.now in
    let begins : Begins None rows (keys_of None e) es = rw c.as_slice-edges.ensures c.requires.begins in
    frozen_values rows e es _ _ _ _ _ _ _ (imports-enough None rows e es begins) c.truncate.ensures.items c.saturating_sub.ensures c.walk_in-next.ensures.rest c.in_ok-keys.ensures.len
    (c.walk_in-next.ensures.came begins).slots_are (c.as_mut_slice.ensures.value ∙ c.in_ok-keys.ensures.items_if_clones_equal (λ y h. search rules))
