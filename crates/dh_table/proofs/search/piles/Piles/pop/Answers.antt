use Rattle.std.proofs.Common.{rules, ◌≡◌, ◌<◌, ◌∙◌, length, arith, sym, refl, suc, ap, subst as along}
use Rattle.std.specs.Prelude.{ℕ, List, ◌+◌, ◌-◌, slice_set}
use Rattle.dh_table.specs.Inside.Piling.{ArePiled, IsBare, number_at}
use Rattle.dh_table.proofs.Piled.{at_any, bare, popped, top_inside, top_placed}
use Rattle.dh_table.proofs.search.piles.Piles.pop.Goals as goal

pub returns-then-top-eq0 : goal.returns-then-top-eq0
returns-then-top-eq0 c =
    let t = c.self.inside in
    let a = c.self.invariant in
    let p = c.args.pile in
    let inside : p < length t.places.items + 4 = along (λ (ns : List ℕ). p < length ns + 4) (sym c.self.view_is) c.requires.inside in
    let wide : p < length t.tops.items = let u = a.wide in omega arith in
    let top : number_at t.tops.items p ≡ 0 = sym (c.index-top.ensures ∙ at_any t.tops.items p c.index-top.result.now 0 wide) ∙ c.if-top-eq0.true in
    (along (IsBare p) c.self.view_is (bare t.places.items t.tops.items t.below.items p c.requires.pile top a), refl)

pub index-requires : goal.index-requires
index-requires c =
    let t = c.self.inside in
    let a = c.self.invariant in
    let p = c.args.pile in
    let inside : p < length t.places.items + 4 = along (λ (ns : List ℕ). p < length ns + 4) (sym c.self.view_is) c.requires.inside in
    let wide : p < length t.tops.items = let u = a.wide in omega arith in
    let is : number_at t.tops.items p ≡ c.index-top.result.now = sym (c.index-top.ensures ∙ at_any t.tops.items p c.index-top.result.now 0 wide) in
    let top : number_at t.tops.items p ≡ suc (c.index-top.result.now - 1) = let z = c.if-top-eq0.false in omega arith in
    let l = top_inside t.places.items t.tops.items t.below.items p (c.index-top.result.now - 1) c.requires.pile wide top a in
    let d = a.deep in
    omega arith

pub index_mut-requires-2 : goal.index_mut-requires-2
index_mut-requires-2 c =
    let t = c.self.inside in
    let a = c.self.invariant in
    let p = c.args.pile in
    let inside : p < length t.places.items + 4 = along (λ (ns : List ℕ). p < length ns + 4) (sym c.self.view_is) c.requires.inside in
    let wide : p < length t.tops.items = let u = a.wide in omega arith in
    let is : number_at t.tops.items p ≡ c.index-top.result.now = sym (c.index-top.ensures ∙ at_any t.tops.items p c.index-top.result.now 0 wide) in
    let top : number_at t.tops.items p ≡ suc (c.index-top.result.now - 1) = let z = c.if-top-eq0.false in omega arith in
    let l = top_inside t.places.items t.tops.items t.below.items p (c.index-top.result.now - 1) c.requires.pile wide top a in
    search rules

pub invariant_of-self : goal.invariant_of-self
invariant_of-self c =
    let t = c.self.inside in
    let a = c.self.invariant in
    let p = c.args.pile in
    let n = c.index-top.result.now - 1 in
    let inside : p < length t.places.items + 4 = along (λ (ns : List ℕ). p < length ns + 4) (sym c.self.view_is) c.requires.inside in
    let wide : p < length t.tops.items = let u = a.wide in omega arith in
    let is : number_at t.tops.items p ≡ c.index-top.result.now = sym (c.index-top.ensures ∙ at_any t.tops.items p c.index-top.result.now 0 wide) in
    let top : number_at t.tops.items p ≡ suc n = let z = c.if-top-eq0.false in omega arith in
    let l = top_inside t.places.items t.tops.items t.below.items p n c.requires.pile wide top a in
    let deep : n < length t.below.items = let d = a.deep in omega arith in
    let next : c.index.result.now ≡ number_at t.below.items n = c.index.ensures ∙ at_any t.below.items n c.index.result.now 0 deep in
    along (λ x. ArePiled (slice_set t.places.items n 1) (slice_set t.tops.items p x) t.below.items) (sym next) (popped t.places.items t.tops.items t.below.items p n c.requires.pile wide top a)

pub returns : goal.returns
returns c =
    let t = c.self.inside in
    let a = c.self.invariant in
    let p = c.args.pile in
    let n = c.index-top.result.now - 1 in
    let inside : p < length t.places.items + 4 = along (λ (ns : List ℕ). p < length ns + 4) (sym c.self.view_is) c.requires.inside in
    let wide : p < length t.tops.items = let u = a.wide in omega arith in
    let is : number_at t.tops.items p ≡ c.index-top.result.now = sym (c.index-top.ensures ∙ at_any t.tops.items p c.index-top.result.now 0 wide) in
    let top : number_at t.tops.items p ≡ suc n = let z = c.if-top-eq0.false in omega arith in
    let placed = top_placed t.places.items t.tops.items t.below.items p n c.requires.pile wide top a in
    (along (λ (ns : List ℕ). number_at ns n ≡ p) c.self.view_is placed, ap (λ (ns : List ℕ). slice_set ns n 1) c.self.view_is)
