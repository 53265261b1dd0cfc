-- An item that is put into a list that is seen in reverse.
use Rattle.std.specs.Prelude.{◌≡◌, ◌<◌, ◌-◌, ◌⊎◌, ℕ, zero, suc, List, [], ◌∷◌, ◌++◌, length, reverse, refl}
use Rattle.std.proofs.Common.{ap, sym, ◌∙◌, arith, set, inl, inr}
use Rattle.std.proofs.lemmas.Grind.{reverse_onto}
use Rattle.std.proofs.lemmas.List.{length-reverse, set-append_left, set-append_right}

cons-reversed : {X : Type 0} (x : X) (xs : List X) → reverse (x ∷ xs) ≡ reverse xs ++ x ∷ []
cons-reversed x xs = reverse_onto xs x []

no-index : {X : Type 0} (i : ℕ) (x : X) → i < 0 → ⊥
no-index i x h = omega arith

module _ {X : Type 0} (x : X) (xs : List X) (b : ℕ) (y : X) where
  at-front : b ≡ length xs → reverse (set (x ∷ xs) (suc (length xs) - 1 - b) y) ≡ set (reverse (x ∷ xs)) b y
  at-front e =
      let p : suc (length xs) - 1 - b ≡ 0 = omega arith in
      let q : b - b ≡ 0 = omega arith in
      ap (λ n. reverse (set (x ∷ xs) n y)) p ∙ cons-reversed y xs
      ∙ sym (ap (λ zs. set zs b y) (cons-reversed x xs) ∙ set-append_right (reverse xs) (x ∷ []) b b y (length-reverse xs ∙ sym e) (omega arith)
      ∙ ap (λ n. reverse xs ++ set (x ∷ []) n y) q)

  behind : b < length xs → reverse (set xs (length xs - 1 - b) y) ≡ set (reverse xs) b y → reverse (set (x ∷ xs) (suc (length xs) - 1 - b) y) ≡ set (reverse (x ∷ xs)) b y
  behind h ih =
      let p : suc (length xs) - 1 - b ≡ suc (length xs - 1 - b) = omega arith in
      let l : b < length (reverse xs) = omega (arith, length-reverse xs) in
      ap (λ n. reverse (set (x ∷ xs) n y)) p ∙ cons-reversed x (set xs (length xs - 1 - b) y) ∙ ap (λ zs. zs ++ x ∷ []) ih
      ∙ sym (ap (λ zs. set zs b y) (cons-reversed x xs) ∙ set-append_left (reverse xs) (x ∷ []) b y l)

pub either-place : (n b : ℕ) → b < suc n → (b ≡ n) ⊎ (b < n)
either-place n b l = by (n - b) refl
  where
    by : (k : ℕ) → n - b ≡ k → (b ≡ n) ⊎ (b < n)
    by zero e = inl (omega arith)
    by (suc k) e = inr (omega arith)

pub set-reversed : {X : Type 0} (xs : List X) (b : ℕ) (y : X) → b < length xs → reverse (set xs (length xs - 1 - b) y) ≡ set (reverse xs) b y
set-reversed [] b y h = absurd (no-index b y h)
set-reversed {X = X} (x ∷ xs) b y h = by (either-place (length xs) b h) (λ l. set-reversed xs b y l)
  where
    by : (b ≡ length xs) ⊎ (b < length xs) → (b < length xs → reverse (set xs (length xs - 1 - b) y) ≡ set (reverse xs) b y)
        → reverse (set (x ∷ xs) (suc (length xs) - 1 - b) y) ≡ set (reverse (x ∷ xs)) b y
    by (inl e) ih = at-front x xs b y e
    by (inr l) ih = behind x xs b y l (ih l)
