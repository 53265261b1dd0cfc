-- Sums over places, before and after their workers.
use Rattle.std.proofs.Common.{◌≡◌, ℕ, zero, suc, ◌+◌, ◌<◌, ◌≤◌, ◌⊎◌, inl, inr, List, [], ◌∷◌, length, get_or, refl, arith}
use Rattle.std.specs.Prelude.{sum_by, Any}
use Rattle.std.proofs.lemmas.List.Sums.{sum_by-cons}
use Rattle.dh_shared.specs.Held.{Held}
use Rattle.dh_session.specs.Works.{AtLast, Asks, Delivers, Fails, FreesLate}

-- what holds of the sums
pub record Sums {P : Type 0} (ask fault : P → ℕ) (held : P → Held) (xs ys : List P) : Type 0 where
  pub asks : Any (λ p. AtLast (ask p)) ys ⊎ (sum_by ask ys + sum_by (λ p. (held p).fetches) xs ≡ sum_by ask xs + sum_by (λ p. (held p).fetches) ys)
  pub fails : Any (λ p. AtLast (fault p)) ys ⊎ (sum_by (λ p. (held p).failed) ys + sum_by fault xs ≤ sum_by (λ p. (held p).failed) xs + sum_by fault ys)
  pub frees : sum_by (λ p. (held p).releases) ys + sum_by (λ p. (held p).lates) xs ≤ sum_by (λ p. (held p).releases) xs + sum_by (λ p. (held p).lates) ys
  pub delivers : sum_by (λ p. (held p).claims) ys + sum_by (λ p. (held p).kept) xs + sum_by (λ p. (held p).lates) xs ≡ sum_by (λ p. (held p).claims) xs + sum_by (λ p. (held p).kept) ys + sum_by (λ p. (held p).lates) ys
  pub overs : 0 < length ys → 0 < sum_by (λ p. (held p).overs) ys

-- what holds of one place
pub record One {P : Type 0} (ask fault : P → ℕ) (held : P → Held) (x y : P) : Type 0 where
  pub asks : Asks (ask x) (ask y) (held x) (held y)
  pub fails : Fails (fault x) (fault y) (held x) (held y)
  pub frees : FreesLate (held x) (held y)
  pub delivers : Delivers (held x) (held y)
  pub over : (held x).overs < (held y).overs

asks_one : {P : Type 0} (ask : P → ℕ) (held : P → Held) (x y : P) (xs ys : List P) → Asks (ask x) (ask y) (held x) (held y)
    → (Any (λ p. AtLast (ask p)) ys ⊎ (sum_by ask ys + sum_by (λ p. (held p).fetches) xs ≡ sum_by ask xs + sum_by (λ p. (held p).fetches) ys))
    → Any (λ p. AtLast (ask p)) (y ∷ ys) ⊎ (sum_by ask (y ∷ ys) + sum_by (λ p. (held p).fetches) (x ∷ xs) ≡ sum_by ask (x ∷ xs) + sum_by (λ p. (held p).fetches) (y ∷ ys))
asks_one ask held x y xs ys (inl last) rest = inl (0, y, omega arith, refl, last)
asks_one ask held x y xs ys (inr same) (inl any) = inl (suc any.0, any.1, (let lt = any.2 in omega arith), any.3, any.4)
asks_one ask held x y xs ys (inr same) (inr sums) = inr (omega (arith, sums, same, sum_by-cons ask x xs, sum_by-cons ask y ys, sum_by-cons (λ p. (held p).fetches) x xs, sum_by-cons (λ p. (held p).fetches) y ys))

fails_one : {P : Type 0} (fault : P → ℕ) (held : P → Held) (x y : P) (xs ys : List P) → Fails (fault x) (fault y) (held x) (held y)
    → (Any (λ p. AtLast (fault p)) ys ⊎ (sum_by (λ p. (held p).failed) ys + sum_by fault xs ≤ sum_by (λ p. (held p).failed) xs + sum_by fault ys))
    → Any (λ p. AtLast (fault p)) (y ∷ ys) ⊎ (sum_by (λ p. (held p).failed) (y ∷ ys) + sum_by fault (x ∷ xs) ≤ sum_by (λ p. (held p).failed) (x ∷ xs) + sum_by fault (y ∷ ys))
fails_one fault held x y xs ys (grew, inl last) rest = inl (0, y, omega arith, refl, last)
fails_one fault held x y xs ys (grew, inr same) (inl any) = inl (suc any.0, any.1, (let lt = any.2 in omega arith), any.3, any.4)
fails_one fault held x y xs ys (grew, inr same) (inr sums) = inr (omega (arith, sums, same, sum_by-cons fault x xs, sum_by-cons fault y ys, sum_by-cons (λ p. (held p).failed) x xs, sum_by-cons (λ p. (held p).failed) y ys))

-- what holds of each pair holds of the sums
pub sums_rise : {P : Type 0} (ask fault : P → ℕ) (held : P → Held) (xs ys : List P) → length xs ≡ length ys
    → ((i : ℕ) (d : P) → i < length xs → One ask fault held (get_or xs i d) (get_or ys i d)) → Sums ask fault held xs ys
sums_rise ask fault held [] [] len each = record { asks = inr refl; fails = inr (omega arith); frees = omega arith; delivers = refl; overs = λ some. some }
sums_rise ask fault held [] (y ∷ ys) len each = absurd (omega arith)
sums_rise ask fault held (x ∷ xs) [] len each = absurd (omega arith)
sums_rise ask fault held (x ∷ xs) (y ∷ ys) len each =
    let one : One ask fault held x y = each 0 x (omega arith) in
    let rest : Sums ask fault held xs ys = sums_rise ask fault held xs ys (omega arith) (λ i d lt. each (suc i) d (omega arith)) in
    record {
      asks = asks_one ask held x y xs ys one.asks rest.asks;
      fails = fails_one fault held x y xs ys one.fails rest.fails;
      frees = omega (arith, one.frees, rest.frees, sum_by-cons (λ p. (held p).releases) x xs, sum_by-cons (λ p. (held p).releases) y ys, sum_by-cons (λ p. (held p).lates) x xs, sum_by-cons (λ p. (held p).lates) y ys);
      delivers = omega (
        arith,
        one.delivers,
        rest.delivers,
        sum_by-cons (λ p. (held p).claims) x xs,
        sum_by-cons (λ p. (held p).claims) y ys,
        sum_by-cons (λ p. (held p).kept) x xs,
        sum_by-cons (λ p. (held p).kept) y ys,
        sum_by-cons (λ p. (held p).lates) x xs,
        sum_by-cons (λ p. (held p).lates) y ys,
      );
      overs = λ some. omega (arith, one.over, sum_by-cons (λ p. (held p).overs) y ys);
    }
