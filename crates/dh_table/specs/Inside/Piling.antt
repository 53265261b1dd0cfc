-- Piles of keys.
use Rattle.std.specs.Prelude.{◌≡◌, ◌⊎◌, ◌≤◌, ◌+◌, ℕ, suc, List, [], ◌∷◌, length, slice_index_or}

-- the number at a place of a list, and zero behind its end
abbrev pub number_at : List ℕ → ℕ → ℕ
number_at ns n = slice_index_or ns n 0

-- the number is in the list
abbrev pub IsOn : ℕ → List ℕ → Type 0
IsOn n [] = ⊥
IsOn n (m ∷ ms) = (m ≡ n) ⊎ IsOn n ms

-- no number is twice in the list
abbrev pub IsOnce : List ℕ → Type 0
IsOnce [] = Unit {0}
IsOnce (n ∷ ns) = ¬ IsOn n ns × IsOnce ns

-- from this key, down to the last
abbrev pub IsChain : List ℕ → ℕ → List ℕ → Type 0
IsChain below top [] = top ≡ 0
IsChain below top (n ∷ ns) = (top ≡ suc n) × IsChain below (number_at below n) ns

-- the keys of a pile are those with this place
pub record IsPile (places tops below : List ℕ) (p : ℕ) : Type 0 where
  pub keys : List ℕ
  pub chain : IsChain below (number_at tops p) keys
  pub once : IsOnce keys
  pub placed : (n : ℕ) → IsOn n keys → (number_at places n ≡ p) × (2 ≤ p)
  pub all : (n : ℕ) → 2 ≤ p → number_at places n ≡ p → IsOn n keys

-- the keys lie on piles by their places: each pile has a top, and below each key is the next one
pub record ArePiled (places tops below : List ℕ) : Type 0 where
  pub wide : length places + 4 ≤ length tops
  pub deep : length places ≤ length below
  pub piles : (p : ℕ) → IsPile places tops below p

-- no key is on the pile
abbrev pub IsBare : ℕ → List ℕ → Type 0
IsBare p places = (n : ℕ) → ¬ (number_at places n ≡ p)

-- the keys of a pile have gone to another
abbrev pub IsPoured : ℕ → ℕ → List ℕ → List ℕ → Type 0
IsPoured from to old new =
    (n : ℕ) → (number_at old n ≡ from → number_at new n ≡ to) × (¬ (number_at old n ≡ from) → number_at new n ≡ number_at old n)
