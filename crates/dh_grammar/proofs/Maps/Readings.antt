-- Machines whose parts are carried over read the same tokens.
use Rattle.std.proofs.Common.{◌≡◌, ℕ, Bool, true, false, List, [], ◌∷◌, refl, sym, ◌∙◌, ap}
use Rattle.std.specs.Prelude.{not, ◌||◌, if◌then◌else◌, nat_lt}
use Rattle.dh_syntax.specs.declared.tokens.Token.{Token}
use Rattle.dh_syntax.specs.Limits.{most_open}
use Rattle.dh_grammar.specs.Making.{Sorts, Making}
use Rattle.dh_grammar.specs.Machine.{State, need, have, wait, done, stopped, after, gap_at, depth_at}
use Rattle.dh_grammar.specs.Inside.Mapping.{Mapping, Carries, map_state}
use Rattle.dh_grammar.specs.Reading.{Outcome, refused, nested, outcome_map, runs_still, outcome_of, step, reading}
use Rattle.dh_grammar.proofs.Maps.Carrying.{carry_after, map_gap, map_depth}

still_same : {K L : Sorts} (f : Mapping K L) (s : State K) → runs_still (map_state f s) ≡ runs_still s
still_same f (need st) = refl
still_same f (have st h) = refl
still_same f (wait w st) = refl
still_same f (done x) = refl
still_same f stopped = refl

end_same : {K L : Sorts} (f : Mapping K L) (s : State K) → outcome_of (map_state f s) ≡ outcome_map f.tree (outcome_of s)
end_same f (need st) = refl
end_same f (have st h) = refl
end_same f (wait w st) = refl
end_same f (done x) = refl
end_same f stopped = refl

same_if : {A B : Type 0} (g : A → B) (b : Bool) (x y : A) → g (if b then x else y) ≡ (if b then g x else g y)
same_if g true x y = refl
same_if g false x y = refl

module _ {K L : Sorts} {m : Making K} {n : Making L} {f : Mapping K L} (c : Carries m n f) where
  pub carry_step : (s : State K) (t : Token) → map_state f (step m s t) ≡ step n (map_state f s) t
  carry_step s t =
      same_if (map_state f) (not (gap_at s t.kind) || t.gap) (after m t.kind s) stopped
      ∙ ap (λ u. if not (gap_at s t.kind) || t.gap then u else stopped) (carry_after c t.kind s)
      ∙ ap (λ b. if not b || t.gap then after n t.kind (map_state f s) else stopped) (sym (map_gap f s t.kind))

  pub carry_reading : (ts : List Token) (s : State K) → reading n (map_state f s) ts ≡ outcome_map f.tree (reading m s ts)
  carry_reading [] s = end_same f s
  carry_reading (t ∷ ts) s =
      let go : State L → Bool → ℕ → Outcome (L.tree) = λ u b d. if b then (if nat_lt most_open d then nested else reading n u ts) else refused t.from in
      ap (λ u. go u (runs_still u) (depth_at (map_state f s) t.kind)) (sym (carry_step s t))
      ∙ ap (λ b. go (map_state f (step m s t)) b (depth_at (map_state f s) t.kind)) (still_same f (step m s t))
      ∙ ap (go (map_state f (step m s t)) (runs_still (step m s t))) (map_depth f s t.kind)
      ∙ ap (λ r. if runs_still (step m s t) then (if nat_lt most_open (depth_at s t.kind) then nested else r) else refused t.from) (carry_reading ts (step m s t))
      ∙ ap (λ r. if runs_still (step m s t) then r else refused t.from) (sym (same_if (outcome_map f.tree) (nat_lt most_open (depth_at s t.kind)) nested (reading m (step m s t) ts)))
      ∙ sym (same_if (outcome_map f.tree) (runs_still (step m s t)) (if nat_lt most_open (depth_at s t.kind) then nested else reading m (step m s t) ts) (refused t.from))
