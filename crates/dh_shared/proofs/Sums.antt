-- Sums of shares.
use Rattle.std.proofs.Common.{◌≡◌, ℕ, ◌+◌, List, [], ◌∷◌, ◌++◌, ap, arith}
use Rattle.std.specs.Prelude.{sum_by, All}
use Rattle.std.proofs.lemmas.Grind.{common_steps}
use Rattle.std.proofs.lemmas.List.Sums.{sum_by-append, sum_by-cons}
use Rattle.dh_shared.specs.Held.{Held, both}

one_sum : (f : Held → ℕ) (hs : List Held) (h : Held) → sum_by f (hs ++ h ∷ []) ≡ sum_by f hs + f h
one_sum f hs h = omega (arith, sum_by-append f hs (h ∷ []), sum_by-cons f h [])

pub record AddsUp (all : Held) (rest : List Held) (total : List Held) : Type 0 where
  pub parts : all.parts + sum_by (λ (h : Held). h.parts) rest ≡ sum_by (λ (h : Held). h.parts) total
  pub claims : all.claims + sum_by (λ (h : Held). h.claims) rest ≡ sum_by (λ (h : Held). h.claims) total
  pub kept : all.kept + sum_by (λ (h : Held). h.kept) rest ≡ sum_by (λ (h : Held). h.kept) total
  pub releases : all.releases + sum_by (λ (h : Held). h.releases) rest ≡ sum_by (λ (h : Held). h.releases) total
  pub lates : all.lates + sum_by (λ (h : Held). h.lates) rest ≡ sum_by (λ (h : Held). h.lates) total
  pub fetches : all.fetches + sum_by (λ (h : Held). h.fetches) rest ≡ sum_by (λ (h : Held). h.fetches) total
  pub failed : all.failed + sum_by (λ (h : Held). h.failed) rest ≡ sum_by (λ (h : Held). h.failed) total
  pub overs : all.overs + sum_by (λ (h : Held). h.overs) rest ≡ sum_by (λ (h : Held). h.overs) total
  pub returns : all.returns + sum_by (λ (h : Held). h.returns) rest ≡ sum_by (λ (h : Held). h.returns) total

pub add_one : (all h new : Held) (rest rest' total : List Held) → rest ≡ rest' ++ h ∷ [] → new ≡ both all h → AddsUp all rest total → AddsUp new rest' total
add_one all h new rest rest' total is new-is a = record {
  parts = rw new-is (omega (arith, a.parts, ap (λ xs. sum_by (λ (h : Held). h.parts) xs) is, one_sum (λ (h : Held). h.parts) rest' h));
  claims = rw new-is (omega (arith, a.claims, ap (λ xs. sum_by (λ (h : Held). h.claims) xs) is, one_sum (λ (h : Held). h.claims) rest' h));
  kept = rw new-is (omega (arith, a.kept, ap (λ xs. sum_by (λ (h : Held). h.kept) xs) is, one_sum (λ (h : Held). h.kept) rest' h));
  releases = rw new-is (omega (arith, a.releases, ap (λ xs. sum_by (λ (h : Held). h.releases) xs) is, one_sum (λ (h : Held). h.releases) rest' h));
  lates = rw new-is (omega (arith, a.lates, ap (λ xs. sum_by (λ (h : Held). h.lates) xs) is, one_sum (λ (h : Held). h.lates) rest' h));
  fetches = rw new-is (omega (arith, a.fetches, ap (λ xs. sum_by (λ (h : Held). h.fetches) xs) is, one_sum (λ (h : Held). h.fetches) rest' h));
  failed = rw new-is (omega (arith, a.failed, ap (λ xs. sum_by (λ (h : Held). h.failed) xs) is, one_sum (λ (h : Held). h.failed) rest' h));
  overs = rw new-is (omega (arith, a.overs, ap (λ xs. sum_by (λ (h : Held). h.overs) xs) is, one_sum (λ (h : Held). h.overs) rest' h));
  returns = rw new-is (omega (arith, a.returns, ap (λ xs. sum_by (λ (h : Held). h.returns) xs) is, one_sum (λ (h : Held). h.returns) rest' h));
}

pub begin_with : (h : Held) (rest total : List Held) → total ≡ rest ++ h ∷ [] → AddsUp h rest total
begin_with h rest total is = record {
  parts = omega (arith, ap (λ xs. sum_by (λ (h : Held). h.parts) xs) is, one_sum (λ (h : Held). h.parts) rest h);
  claims = omega (arith, ap (λ xs. sum_by (λ (h : Held). h.claims) xs) is, one_sum (λ (h : Held). h.claims) rest h);
  kept = omega (arith, ap (λ xs. sum_by (λ (h : Held). h.kept) xs) is, one_sum (λ (h : Held). h.kept) rest h);
  releases = omega (arith, ap (λ xs. sum_by (λ (h : Held). h.releases) xs) is, one_sum (λ (h : Held). h.releases) rest h);
  lates = omega (arith, ap (λ xs. sum_by (λ (h : Held). h.lates) xs) is, one_sum (λ (h : Held). h.lates) rest h);
  fetches = omega (arith, ap (λ xs. sum_by (λ (h : Held). h.fetches) xs) is, one_sum (λ (h : Held). h.fetches) rest h);
  failed = omega (arith, ap (λ xs. sum_by (λ (h : Held). h.failed) xs) is, one_sum (λ (h : Held). h.failed) rest h);
  overs = omega (arith, ap (λ xs. sum_by (λ (h : Held). h.overs) xs) is, one_sum (λ (h : Held). h.overs) rest h);
  returns = omega (arith, ap (λ xs. sum_by (λ (h : Held). h.returns) xs) is, one_sum (λ (h : Held). h.returns) rest h);
}

pub all_push : {X : Type 0} (P : X → Type 0) (xs ys : List X) (x : X) → ys ≡ xs ++ x ∷ [] → All P xs → P x → All P ys
all_push P xs ys x is all px = rw is (grind (arith, common_steps))
