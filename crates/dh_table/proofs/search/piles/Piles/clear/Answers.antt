use Rattle.std.proofs.Common.{rules, sym, subst as along, ◌≤◌, ◌+◌, ℕ, length, vec_len, List, replicate}
use Rattle.dh_table.specs.Inside.Piling.{ArePiled}
use Rattle.dh_table.proofs.Piled.{cleared}
use Rattle.dh_table.proofs.search.piles.Piles.clear.Goals as goal

pub invariant_of-self : goal.invariant_of-self
invariant_of-self c =
    let t = c.self.inside in
    let wide : vec_len t.places + 4 ≤ vec_len t.tops = search rules in
    let deep : vec_len t.places ≤ length t.below.items = search rules in
    along (λ (x : List ℕ). ArePiled x c.fill-2.new.self.items t.below.items) (sym (c.fill.ensures.items (λ y e. e)))
    (along (λ (x : List ℕ). ArePiled (replicate (vec_len t.places) 0) x t.below.items) (sym (c.fill-2.ensures.items (λ y e. e))) (cleared (vec_len t.places) (vec_len t.tops) t.below.items wide deep))
