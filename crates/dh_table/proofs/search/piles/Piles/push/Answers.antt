use Rattle.std.proofs.Common.{◌≡◌, ◌<◌, ◌∙◌, length, arith, sym, suc, subst as along}
use Rattle.std.specs.Prelude.{ℕ, List, ◌+◌, slice_set}
use Rattle.dh_table.specs.Inside.Piling.{ArePiled, number_at}
use Rattle.dh_table.proofs.Piled.{at_any, pushed}
use Rattle.dh_table.proofs.search.piles.Piles.push.Goals as goal

pub invariant_of-self : goal.invariant_of-self
invariant_of-self c =
    let t = c.self.inside in
    let a = c.self.invariant in
    let n = c.args.n in
    let p = c.args.pile in
    let there : n < length t.places.items = along (λ (ns : List ℕ). n < length ns) (sym c.self.view_is) c.requires.key in
    let free : number_at t.places.items n < 2 = along (λ (ns : List ℕ). number_at ns n < 2) (sym c.self.view_is) c.requires.free in
    let inside : p < length t.places.items + 4 = along (λ (ns : List ℕ). p < length ns + 4) (sym c.self.view_is) c.requires.inside in
    let wide : p < length t.tops.items = let u = a.wide in omega arith in
    let deep : n < length t.below.items = let u = a.deep in omega arith in
    let top : c.index.result.now ≡ number_at t.tops.items p = c.index.ensures ∙ at_any t.tops.items p c.index.result.now 0 wide in
    let next : suc n ≡ n + 1 = omega arith in
    along (λ x. ArePiled (slice_set t.places.items n p) (slice_set t.tops.items p (n + 1)) (slice_set t.below.items n x)) (sym top)
    (along (λ x. ArePiled (slice_set t.places.items n p) (slice_set t.tops.items p x) (slice_set t.below.items n (number_at t.tops.items p))) next
    (pushed t.places.items t.tops.items t.below.items p n c.requires.pile wide deep there free a))
