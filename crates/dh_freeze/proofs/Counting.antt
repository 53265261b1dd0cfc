-- How often numbers stand in lists.
use Rattle.std.proofs.Common.{◌≡◌, ℕ, zero, suc, ◌+◌, ◌≤◌, ◌<◌, Bool, true, false, List, [], ◌∷◌, ◌++◌, refl, arith, inl, inr}
use Rattle.std.specs.Prelude.{◌⊎◌, ◌==◌, if◌then◌else◌}
use Rattle.std.proofs.lemmas.Bool.{eqb-true}
use Rattle.dh_freeze.specs.Distinct.{times}

pub less_or : (a j : ℕ) → (a < j) ⊎ (j ≤ a)
less_or a zero = inr (omega arith)
less_or zero (suc j) = inl (omega arith)
less_or (suc a) (suc j) = elim (less_or a j) [ inl h ↦ inl (omega arith) | inr h ↦ inr (omega arith) ]

one_more : (b : Bool) (m n k : ℕ) → m ≡ n + k → (if b then suc m else m) ≡ (if b then suc n else n) + k
one_more true m n k h = omega arith
one_more false m n k h = h

pub times-append : (a : ℕ) (xs ys : List ℕ) → times a (xs ++ ys) ≡ times a xs + times a ys
times-append a [] ys = omega arith
times-append a (x ∷ xs) ys = one_more (x == a) (times a (xs ++ ys)) (times a xs) (times a ys) (times-append a xs ys)

-- each number is counted once at most, and none below the one or from the other on
pub record Within (i j : ℕ) (count : ℕ → ℕ) : Type 0 where
  pub up : i ≤ j
  pub once : (a : ℕ) → count a ≤ 1
  pub above : (a : ℕ) → a < i → count a ≡ 0
  pub below : (a : ℕ) → j ≤ a → count a ≡ 0

-- what stands in one list, and then in another of greater numbers
pub both : (i j k : ℕ) (s t u : ℕ → ℕ) → Within i j s → Within j k t → ((a : ℕ) → u a ≤ s a + t a) → Within i k u
both i j k s t u f g h = record {
  up = let p = f.up in let q = g.up in omega arith;
  once = λ a. elim (less_or a j) [ inl l ↦ (let p = f.once a in let q = g.above a l in let r = h a in omega arith) | inr l ↦ (let p = f.below a l in let q = g.once a in let r = h a in omega arith) ];
  above = λ a l. let p = f.above a l in let m = f.up in let q = g.above a (omega arith) in let r = h a in omega arith;
  below = λ a l. let q = g.below a l in let m = g.up in let p = f.below a (omega arith) in let r = h a in omega arith;
}

pub nothing : (i j : ℕ) (t : ℕ → ℕ) → i ≤ j → ((a : ℕ) → t a ≡ 0) → Within i j t
nothing i j t l h = record { up = l; once = λ a. let p = h a in omega arith; above = λ a m. h a; below = λ a m. h a }

-- from a lesser number on, and up to a greater one
pub wider : (i j k l : ℕ) (t : ℕ → ℕ) → k ≤ i → j ≤ l → Within i j t → Within k l t
wider i j k l t p q w = record {
  up = let m = w.up in omega arith;
  once = w.once;
  above = λ a m. w.above a (omega arith);
  below = λ a m. w.below a (omega arith);
}

pub fewer : (i j : ℕ) (s t : ℕ → ℕ) → Within i j s → ((a : ℕ) → t a ≤ s a) → Within i j t
fewer i j s t w h = record {
  up = w.up;
  once = λ a. let p = w.once a in let q = h a in omega arith;
  above = λ a m. let p = w.above a m in let q = h a in omega arith;
  below = λ a m. let p = w.below a m in let q = h a in omega arith;
}

same_number : (b : Bool) (n : ℕ) → (if b then suc n else n) ≤ suc n
same_number true n = omega arith
same_number false n = omega arith

pub none_here : (a x n : ℕ) → (x ≡ a → ⊥) → (if x == a then suc n else n) ≡ n
none_here a x n h = go (x == a) refl
  where
    go : (b : Bool) → (x == a) ≡ b → (if b then suc n else n) ≡ n
    go true p = absurd (h (eqb-true x a p))
    go false p = refl

pub single : (i j : ℕ) → i < j → Within i j (λ a. times a (i ∷ []))
single i j l = record {
  up = omega arith;
  once = λ a. same_number (i == a) 0;
  above = λ a m. none_here a i 0 (λ p. omega arith);
  below = λ a m. none_here a i 0 (λ p. omega arith);
}
