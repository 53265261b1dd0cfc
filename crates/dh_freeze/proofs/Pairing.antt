-- Offsets with the digests that stand beside them.
use Rattle.std.proofs.Common.{◌≡◌, ℕ, suc, ◌+◌, ◌≤◌, ◌<◌, Bool, true, false, List, [], ◌∷◌, map, length, Option, Some, None, refl, sym, ◌∙◌, ap, subst, arith, inl, inr, get_or}
use Rattle.std.specs.Prelude.{◌⊎◌, ◌↔◌, ◌==◌, All, sum_by, cond, if◌then◌else◌, IsPermutation}
use Rattle.std.specs.List.Sorted.{IsNonDecreasingBy}
use Rattle.std.proofs.lemmas.Bool.{eq-eqb}
use Rattle.std.proofs.lemmas.List.Elements.{All-nil, All-cons, All-head, All-tail, All-weaker}
use Rattle.std.proofs.lemmas.List.Sorted.{All-permutation, IsPermutation-sym, sum_by-IsPermutation, IsNonDecreasingBy-drop}
use Rattle.std.proofs.lemmas.List.Sums.{sum_by-cons}
use Rattle.dh_syntax.specs.declared.locations.Digest.{Digest}
use Rattle.dh_imports.specs.FrozenTexts.{Insertion, Ascend, side_by_side}
use Rattle.dh_imports.specs.Machine.{IsAmong}
use Rattle.dh_freeze.specs.declared.places.DigestAt.{DigestAt}
use Rattle.dh_freeze.specs.Distinct.{times, AreDistinct}
use Rattle.dh_freeze.specs.Insertions.{insertion_of, insertions}
use Rattle.dh_freeze.specs.Inside.Pairs.{paired}
use Rattle.dh_freeze.proofs.Counting.{less_or}

-- ---- members

same_pair : (p : Insertion) (o : ℕ) (d : Digest) → ◌≡◌ {A = ℕ × Option Digest} (o, Some d) (p.0, Some p.1) → ◌≡◌ {A = Insertion} (o, d) p
same_pair p o d h =
    let offset : o ≡ p.0 = ap (λ (x : ℕ × Option Digest). x.0) h in
    let digest : d ≡ p.1 = ap (λ (x : ℕ × Option Digest). elim x.1 [ Some e ↦ e | None ↦ d ]) h in
    λ j. (offset j, digest j)

beside : (p : Insertion) (o : ℕ) (d : Digest) → ◌≡◌ {A = Insertion} (o, d) p → ◌≡◌ {A = ℕ × Option Digest} (o, Some d) (p.0, Some p.1)
beside p o d h = ap (λ (x : Insertion). (x.0, Some x.1)) h

no_pair : (p : Insertion) (o : ℕ) → ◌≡◌ {A = ℕ × Option Digest} (o, None) (p.0, Some p.1) → ⊥
no_pair p o h = let e : ◌≡◌ {A = Option Digest} None (Some p.1) = ap (λ (x : ℕ × Option Digest). x.1) h in absurd cc

pub paired_beside : (os : List ℕ) (ds : List (Option Digest)) (p : Insertion) → IsAmong p (insertions (paired os ds)) → IsAmong (p.0, Some p.1) (side_by_side os ds)
paired_beside [] ds p m = absurd m
paired_beside (o ∷ os) [] p m = absurd m
paired_beside (o ∷ os) (None ∷ ds) p m = inr (paired_beside os ds p m)
paired_beside (o ∷ os) (Some d ∷ ds) p (inl e) = inl (beside p o d e)
paired_beside (o ∷ os) (Some d ∷ ds) p (inr m) = inr (paired_beside os ds p m)

pub beside_paired : (os : List ℕ) (ds : List (Option Digest)) (p : Insertion) → IsAmong (p.0, Some p.1) (side_by_side os ds) → IsAmong p (insertions (paired os ds))
beside_paired [] ds p m = absurd m
beside_paired (o ∷ os) [] p m = absurd m
beside_paired (o ∷ os) (None ∷ ds) p (inl e) = absurd (no_pair p o e)
beside_paired (o ∷ os) (None ∷ ds) p (inr m) = beside_paired os ds p m
beside_paired (o ∷ os) (Some d ∷ ds) p (inl e) = inl (same_pair p o d e)
beside_paired (o ∷ os) (Some d ∷ ds) p (inr m) = inr (beside_paired os ds p m)

each_among : (ps : List DigestAt) → All (λ (p : DigestAt). IsAmong (insertion_of p) (insertions ps)) ps
each_among [] = All-nil (λ (p : DigestAt). IsAmong (insertion_of p) [])
each_among (p ∷ ps) =
    All-cons (λ (q : DigestAt). IsAmong (insertion_of q) (insertions (p ∷ ps))) p ps (inl refl)
    (All-weaker (λ (q : DigestAt). IsAmong (insertion_of q) (insertions ps)) (λ (q : DigestAt). IsAmong (insertion_of q) (insertions (p ∷ ps))) (λ q m. inr m) ps (each_among ps))

all_hold : (P : Insertion → Type 0) (ps : List DigestAt) (i : Insertion) → All (λ (p : DigestAt). P (insertion_of p)) ps → IsAmong i (insertions ps) → P i
all_hold P [] i h m = absurd m
all_hold P (p ∷ ps) i h (inl e) = subst P e (All-head (λ (p : DigestAt). P (insertion_of p)) p ps h)
all_hold P (p ∷ ps) i h (inr m) = all_hold P ps i (All-tail (λ (p : DigestAt). P (insertion_of p)) p ps h) m

-- places in another order have the same members
pub among_permuted : (ps qs : List DigestAt) (i : Insertion) → IsPermutation ps qs → IsAmong i (insertions qs) → IsAmong i (insertions ps)
among_permuted ps qs i h m =
    all_hold (λ (x : Insertion). IsAmong x (insertions ps)) qs i (All-permutation (λ (p : DigestAt). IsAmong (insertion_of p) (insertions ps)) ps qs h (each_among ps)) m

pub members : (os : List ℕ) (ds : List (Option Digest)) (ps qs : List DigestAt) → ps ≡ paired os ds → IsPermutation ps qs → (i : Insertion) → IsAmong i (insertions qs) ↔ IsAmong (i.0, Some i.1) (side_by_side os ds)
members os ds ps qs e h i = (
  (λ m. paired_beside os ds i (subst (λ xs. IsAmong i (insertions xs)) e (among_permuted ps qs i h m))),
  (λ m. among_permuted qs ps i (IsPermutation-sym ps qs h) (subst (λ xs. IsAmong i (insertions xs)) (sym e) (beside_paired os ds i m))),
)

-- ---- their order

abbrev offset_of : DigestAt → ℕ
offset_of p = p.offset

abbrev here : ℕ → DigestAt → ℕ
here a p = cond (p.offset == a) 1 0

counted_first : (b : Bool) (n m : ℕ) → n ≡ m → (if b then suc n else n) ≡ cond b 1 0 + m
counted_first true n m h = omega arith
counted_first false n m h = omega arith

times-sum : (a : ℕ) (ps : List DigestAt) → times a (map offset_of ps) ≡ sum_by (here a) ps
times-sum a [] = refl
times-sum a (p ∷ ps) = counted_first (p.offset == a) (times a (map offset_of ps)) (sum_by (here a) ps) (times-sum a ps) ∙ sym (sum_by-cons (here a) p ps)

pub times-permuted : (a : ℕ) (ps qs : List DigestAt) → IsPermutation ps qs → times a (map offset_of qs) ≡ times a (map offset_of ps)
times-permuted a ps qs h = times-sum a qs ∙ sum_by-IsPermutation (here a) ps qs h ∙ sym (times-sum a ps)

more_here : (b : Bool) (n m : ℕ) → n ≤ m → n ≤ (if b then suc m else m)
more_here true n m h = omega arith
more_here false n m h = h

both_here : (b : Bool) (n m : ℕ) → n ≤ m → (if b then suc n else n) ≤ (if b then suc m else m)
both_here true n m h = omega arith
both_here false n m h = h

pub times-paired : (a : ℕ) (os : List ℕ) (ds : List (Option Digest)) → times a (map offset_of (paired os ds)) ≤ times a os
times-paired a [] ds = omega arith
times-paired a (o ∷ os) [] = omega arith
times-paired a (o ∷ os) (None ∷ ds) = more_here (o == a) (times a (map offset_of (paired os ds))) (times a os) (times-paired a os ds)
times-paired a (o ∷ os) (Some d ∷ ds) = both_here (o == a) (times a (map offset_of (paired os ds))) (times a os) (times-paired a os ds)

-- an offset that stands first stands there
first_here : (a : ℕ) (n : ℕ) → (if a == a then suc n else n) ≡ suc n
first_here a n = ap (λ b. if b then suc n else n) (eq-eqb a a refl)

ascends : (from : ℕ) (ps : List DigestAt) → IsNonDecreasingBy offset_of ps → AreDistinct (map offset_of ps) → ((p : DigestAt) (rest : List DigestAt) → ps ≡ p ∷ rest → from ≤ p.offset) → Ascend from (insertions ps)
ascends from [] up once low = tt
ascends from (p ∷ ps) up once low =
    let rest_up : IsNonDecreasingBy offset_of ps = IsNonDecreasingBy-drop offset_of 1 (p ∷ ps) up in
    (low p ps refl, ascends (suc p.offset) ps rest_up (λ a. let h = once a in at_most (p.offset == a) (times a (map offset_of ps)) h) (λ q rest e. next q rest e))
  where
    at_most : (b : Bool) (n : ℕ) → (if b then suc n else n) ≤ 1 → n ≤ 1
    at_most true n h = omega arith
    at_most false n h = h

    apart : (q : DigestAt) (rest : List DigestAt) → ps ≡ q ∷ rest → p.offset ≡ q.offset → ⊥
    apart q rest e same =
        let h = once p.offset in
        let one : times p.offset (map offset_of (p ∷ ps)) ≡ suc (times p.offset (map offset_of ps)) = first_here p.offset (times p.offset (map offset_of ps)) in
        let two : times p.offset (map offset_of ps) ≡ suc (times p.offset (map offset_of rest)) =
        ap (λ xs. times p.offset (map offset_of xs)) e ∙ ap (λ b. if b then suc (times p.offset (map offset_of rest)) else times p.offset (map offset_of rest)) (eq-eqb q.offset p.offset (sym same)) in
        omega arith

    next : (q : DigestAt) (rest : List DigestAt) → ps ≡ q ∷ rest → suc p.offset ≤ q.offset
    next q rest e =
        let le : p.offset ≤ q.offset = subst (λ xs. p.offset ≤ offset_of (get_or xs 0 q)) e (up 0 1 q (omega arith) (let l = ap length e in omega arith)) in
        strict (less_or p.offset q.offset) le
      where
        strict : (p.offset < q.offset) ⊎ (q.offset ≤ p.offset) → p.offset ≤ q.offset → suc p.offset ≤ q.offset
        strict (inl l) le = omega arith
        strict (inr l) le = absurd (apart q rest e (omega arith))

pub sorted_ascends : (os : List ℕ) (ds : List (Option Digest)) (ps qs : List DigestAt) → ps ≡ paired os ds → IsPermutation ps qs → IsNonDecreasingBy (λ (p : DigestAt). p.offset) qs → AreDistinct os → Ascend 0 (insertions qs)
sorted_ascends os ds ps qs e h up once =
    ascends 0 qs up (λ a. let t = times-permuted a ps qs h in let s = ap (λ xs. times a (map offset_of xs)) e in let l = times-paired a os ds in let o = once a in omega arith) (λ p rest q. omega arith)
