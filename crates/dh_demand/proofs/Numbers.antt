-- What the number of a key tells.
use Rattle.std.specs.Prelude.{◌≡◌, ◌⊎◌, ◌<◌, ℕ, suc, true, false, if◌then◌else◌, List, [], ◌∷◌, length, Option, Some, None, refl}
use Rattle.std.specs.Option.{option_map}
use Rattle.std.proofs.Common.{ap, sym, ◌∙◌, subst, inl, inr, arith}
use Rattle.dh_syntax.specs.declared.locations.Key.{Key}
use Rattle.dh_imports.specs.declared.outcomes.Outcome as program
use Rattle.dh_syntax.specs.Imports.Keys.{key_eq}
use Rattle.dh_imports.specs.Outcomes.{plain}
use Rattle.dh_laws.proofs.KeyOrder.{bool-case, key_eq-true, some-equal}
use Rattle.dh_demand.specs.Results.{Row, key_at, outcome_at, number_of, ask_of}

-- the row of a number that a key has
pub record Stands (rows : List Row) (k : Key) (n : ℕ) : Type 0 where
  pub outcome : Option program.Outcome
  pub key_is : key_at rows n ≡ Some k
  pub outcome_is : outcome_at rows n ≡ Some outcome
  pub asked : ask_of rows k ≡ option_map plain outcome

here : (r : Row) (rs : List Row) (k : Key) (n : ℕ) → key_eq r.0 k ≡ true → number_of (r ∷ rs) k ≡ Some n → 0 ≡ n
here r rs k n b h = some-equal (sym (ap (λ c. if c then Some 0 else option_map suc (number_of rs k)) b) ∙ h)

there : (r : Row) (rs : List Row) (k : Key) (n : ℕ) → key_eq r.0 k ≡ false → number_of (r ∷ rs) k ≡ Some n → (m : ℕ) × (number_of rs k ≡ Some m) × (suc m ≡ n)
there r rs k n b h = go (number_of rs k) refl (sym (ap (λ c. if c then Some 0 else option_map suc (number_of rs k)) b) ∙ h)
  where
    go : (m : Option ℕ) → number_of rs k ≡ m → option_map suc m ≡ Some n → (m : ℕ) × (number_of rs k ≡ Some m) × (suc m ≡ n)
    go None e p = let f : ⊥ = cc in absurd f
    go (Some m) e p = (m, e, some-equal p)

first_stands : (r : Row) (rs : List Row) (k : Key) → key_eq r.0 k ≡ true → Stands (r ∷ rs) k 0
first_stands r rs k b = record { outcome = r.1; key_is = ap (λ (x : Key). Some x) (key_eq-true r.0 k b); outcome_is = refl; asked = ap (λ c. if c then option_map plain r.1 else ask_of rs k) b }

later_stands : (r : Row) (rs : List Row) (k : Key) (m : ℕ) → key_eq r.0 k ≡ false → Stands rs k m → Stands (r ∷ rs) k (suc m)
later_stands r rs k m b s = record { outcome = s.outcome; key_is = s.key_is; outcome_is = s.outcome_is; asked = ap (λ c. if c then option_map plain r.1 else ask_of rs k) b ∙ s.asked }

pub stands : (rows : List Row) (k : Key) (n : ℕ) → number_of rows k ≡ Some n → Stands rows k n
stands [] k n h = let e : ⊥ = cc in absurd e
stands (r ∷ rs) k n h = go (bool-case (key_eq r.0 k)) (λ m e. stands rs k m e)
  where
    go : (key_eq r.0 k ≡ true) ⊎ (key_eq r.0 k ≡ false) → ((m : ℕ) → number_of rs k ≡ Some m → Stands rs k m) → Stands (r ∷ rs) k n
    go (inl b) again = subst (λ (x : ℕ). Stands (r ∷ rs) k x) (here r rs k n b h) (first_stands r rs k b)
    go (inr b) again =
        let t = there r rs k n b h in
        subst (λ (x : ℕ). Stands (r ∷ rs) k x) t.2 (later_stands r rs k t.0 b (again t.0 t.1))

pub within : (rows : List Row) (k : Key) (n : ℕ) → number_of rows k ≡ Some n → n < length rows
within [] k n h = let e : ⊥ = cc in absurd e
within (r ∷ rs) k n h = go (bool-case (key_eq r.0 k)) (λ m e. within rs k m e)
  where
    go : (key_eq r.0 k ≡ true) ⊎ (key_eq r.0 k ≡ false) → ((m : ℕ) → number_of rs k ≡ Some m → m < length rs) → n < suc (length rs)
    go (inl b) again = let q = here r rs k n b h in omega arith
    go (inr b) again =
        let t = there r rs k n b h in
        let i = again t.0 t.1 in
        let q : suc t.0 ≡ n = t.2 in
        omega arith
