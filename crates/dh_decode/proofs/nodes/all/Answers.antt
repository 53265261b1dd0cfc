use Rattle.std.proofs.Common.{◌≡◌, ◌∙◌, sym, refl, ap, arith, ◌+◌, max, List, map, length}
use Rattle.std.specs.Vec.Iter.{into_iter_items}
use Rattle.dh_binary.specs.Stubs.{deepest}
use Rattle.dh_decode.specs.Inside.Views.{part_of}
use Rattle.dh_decode.specs.declared.parts.Part.{Part}
use Rattle.dh_decode.proofs.NodeParts.{made_as, all_first, all_next, all_nests, all_few, all_last, none_left}
use Rattle.dh_decode.proofs.nodes.all.Goals as goal

pub loop-part-init : goal.loop-part-init
loop-part-init c =
    let e = c.into_iter-rest.ensures.rest ∙ c.into_vec.ensures in
    let d = ap (λ (ps : List Part). deepest (map part_of ps)) e in
    let n = ap (λ (ps : List Part). length ps) c.into_iter-rest.ensures.rest in
    (all_first c.in_ok-kids.kids c.args.parts _ c.in_ok-kids.ensures e, omega arith, omega arith, omega arith)

pub loop-part-preserved : goal.loop-part-preserved
loop-part-preserved c =
    let e = c.in-Some.ensures.items in
    let n = ap (λ (ps : List Part). length ps) e in
    let d = c.deeper-nests.ensures ∙ ap (λ n. max c.loop-part.nests (n + 1)) c.nests.ensures in (
      all_next c.loop-part.kids _ _ c.in-Some.part _ _ refl c.in_ok-put.ensures e ∙ c.loop-part.invariant.0,
      all_nests c.loop-part.nests _ c.in-Some.part _ _ d e ∙ c.loop-part.invariant.1,
      all_few c.loop-part.nests _ c.in-Some.part.held.value.nests d c.loop-part.invariant.2 c.in-Some.part.held.value.few,
      omega arith,
    )

pub returns : goal.returns
returns c =
    let z : length (into_iter_items c.loop-part.rest) ≡ 0 = omega (arith, c.in_default.ensures.cases.0) in
    made_as c.kept.result _ _ c.kept.ensures (all_last c.args.op _ _ c.args.parts _ (none_left _ z) c.loop-part.invariant.0 c.loop-part.invariant.1)
