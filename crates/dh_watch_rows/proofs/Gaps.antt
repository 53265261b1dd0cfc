-- A thing is taken away: the numbers of the others stand in their order.
use Rattle.std.specs.Prelude.{◌≡◌, ◌≢◌, ◌⊎◌, ◌<◌, ◌≤◌, ◌+◌, ◌-◌, ℕ, zero, suc, true, false, not, nat_lt, if◌then◌else◌, List, [], ◌∷◌, length, map, filter, All, refl}
use Rattle.std.specs.List.{remove}
use Rattle.std.proofs.Common.{ap, sym, ◌∙◌, subst, arith, inl, inr, get_or}
use Rattle.std.proofs.lemmas.Bool.Decides.{eqb_tells}
use Rattle.std.proofs.lemmas.List.Edits.{length-remove, get_or-remove_below, get_or-remove_above}
use Rattle.std.proofs.lemmas.List.Elements.{All-nil, All-cons, All-head, All-tail}
use Rattle.dh_syntax.specs.Imports.Keys.{texts_before}
use Rattle.dh_imports.specs.Machine.{IsAmong}
use Rattle.dh_laws.proofs.KeyOrder.{bool-case}
use Rattle.dh_record.specs.Sorting.{Rank, rank_at, Ascends, IsOrder}
use Rattle.dh_watch_rows.specs.Inside.Gaps.{lower, other, closed}

above : (i n : ℕ) → i < n → lower i n ≡ n - 1
above i n l = grind arith

below : (i n : ℕ) → n ≤ i → lower i n ≡ n
below i n l = grind arith

keeps : (i n : ℕ) (ns : List ℕ) → n ≢ i → closed i (n ∷ ns) ≡ lower i n ∷ closed i ns
keeps i n ns h = elim (eqb_tells n i) [
  | inl p ↦ absurd (h p.1)
  | inr p ↦ ap (λ b. map (lower i) (if not b then n ∷ filter (other i) ns else filter (other i) ns)) p.0
]

drops : (i n : ℕ) (ns : List ℕ) → n ≡ i → closed i (n ∷ ns) ≡ closed i ns
drops i n ns h = elim (eqb_tells n i) [
  | inl p ↦ ap (λ b. map (lower i) (if not b then n ∷ filter (other i) ns else filter (other i) ns)) p.0
  | inr p ↦ absurd (p.1 h)
]

apart : (n i : ℕ) → (n ≡ i) ⊎ (n ≢ i)
apart n i = elim (eqb_tells n i) [
  | inl p ↦ inl p.1
  | inr p ↦ inr p.1
]

module _ (ranks : List Rank) (i : ℕ) (inside : i < length ranks) where
  fewer : length (remove ranks i) + 1 ≡ length ranks
  fewer = length-remove ranks i inside

  -- the rank of a number stays
  same-rank : (n : ℕ) → n ≢ i → rank_at (remove ranks i) (lower i n) ≡ rank_at ranks n
  same-rank n h = go (bool-case (nat_lt i n))
    where
      go : (nat_lt i n ≡ true) ⊎ (nat_lt i n ≡ false) → rank_at (remove ranks i) (lower i n) ≡ rank_at ranks n
      go (inl t) =
          let l : i < n = grind arith in
          let k : i ≤ n - 1 = omega (arith, l) in
          let e : (n - 1) + 1 ≡ n = omega (arith, l) in
          ap (rank_at (remove ranks i)) (above i n l) ∙ get_or-remove_above ranks i [] (n - 1) k inside ∙ ap (rank_at ranks) e
      go (inr f) =
          let l : n < i = under n f h in
          ap (rank_at (remove ranks i)) (below i n (omega (arith, l))) ∙ get_or-remove_below ranks i [] n l inside
        where
          under : (n : ℕ) → nat_lt i n ≡ false → n ≢ i → n < i
          under n f h = grind arith

  fits : (n : ℕ) → n ≢ i → n < length ranks → lower i n < length (remove ranks i)
  fits n h l = go (bool-case (nat_lt i n))
    where
      go : (nat_lt i n ≡ true) ⊎ (nat_lt i n ≡ false) → lower i n < length (remove ranks i)
      go (inl t) = let k : i < n = grind arith in omega (arith, above i n k, k, l, fewer)
      go (inr f) = let k : n ≤ i = grind arith in omega (arith, below i n k, k, h, inside, fewer)

  all-inside : (ns : List ℕ) → All (λ (n : ℕ). n < length ranks) ns → All (λ (n : ℕ). n < length (remove ranks i)) (closed i ns)
  all-inside [] a = All-nil (λ (n : ℕ). n < length (remove ranks i))
  all-inside (n ∷ ns) a = go (apart n i) (all-inside ns (All-tail (λ (n : ℕ). n < length ranks) n ns a))
    where
      go : (n ≡ i) ⊎ (n ≢ i) → All (λ (m : ℕ). m < length (remove ranks i)) (closed i ns) → All (λ (m : ℕ). m < length (remove ranks i)) (closed i (n ∷ ns))
      go (inl e) r = subst (All (λ (m : ℕ). m < length (remove ranks i))) (sym (drops i n ns e)) r
      go (inr h) r =
          subst (All (λ (m : ℕ). m < length (remove ranks i))) (sym (keeps i n ns h))
          (All-cons (λ (m : ℕ). m < length (remove ranks i)) (lower i n) (closed i ns) (fits n h (All-head (λ (n : ℕ). n < length ranks) n ns a)) r)

  -- what comes behind a number still does
  behind : (x : Rank) (ns : List ℕ) → All (λ (m : ℕ). texts_before x (rank_at ranks m) ≡ true) ns → All (λ (m : ℕ). texts_before x (rank_at (remove ranks i) m) ≡ true) (closed i ns)
  behind x [] a = All-nil (λ (m : ℕ). texts_before x (rank_at (remove ranks i) m) ≡ true)
  behind x (n ∷ ns) a = go (apart n i) (behind x ns (All-tail (λ (m : ℕ). texts_before x (rank_at ranks m) ≡ true) n ns a))
    where
      go : (n ≡ i) ⊎ (n ≢ i) → All (λ (m : ℕ). texts_before x (rank_at (remove ranks i) m) ≡ true) (closed i ns)
          → All (λ (m : ℕ). texts_before x (rank_at (remove ranks i) m) ≡ true) (closed i (n ∷ ns))
      go (inl e) r = subst (All (λ (m : ℕ). texts_before x (rank_at (remove ranks i) m) ≡ true)) (sym (drops i n ns e)) r
      go (inr h) r =
          subst (All (λ (m : ℕ). texts_before x (rank_at (remove ranks i) m) ≡ true)) (sym (keeps i n ns h))
          (All-cons (λ (m : ℕ). texts_before x (rank_at (remove ranks i) m) ≡ true) (lower i n) (closed i ns)
          (ap (texts_before x) (same-rank n h) ∙ All-head (λ (m : ℕ). texts_before x (rank_at ranks m) ≡ true) n ns a) r)

  still-ascends : (ns : List ℕ) → Ascends ranks ns → Ascends (remove ranks i) (closed i ns)
  still-ascends [] a = tt
  still-ascends (n ∷ ns) a = go (apart n i) (still-ascends ns a.1)
    where
      go : (n ≡ i) ⊎ (n ≢ i) → Ascends (remove ranks i) (closed i ns) → Ascends (remove ranks i) (closed i (n ∷ ns))
      go (inl e) r = subst (Ascends (remove ranks i)) (sym (drops i n ns e)) r
      go (inr h) r =
          subst (Ascends (remove ranks i)) (sym (keeps i n ns h))
          (subst (λ x. All (λ (m : ℕ). texts_before x (rank_at (remove ranks i) m) ≡ true) (closed i ns)) (sym (same-rank n h)) (behind (rank_at ranks n) ns a.0), r)

  among-closed : (n : ℕ) (ns : List ℕ) → IsAmong n ns → n ≢ i → IsAmong (lower i n) (closed i ns)
  among-closed n [] m h = m
  among-closed n (x ∷ xs) m h = go (apart x i) m (λ q. among-closed n xs q h)
    where
      go : (x ≡ i) ⊎ (x ≢ i) → IsAmong n (x ∷ xs) → (IsAmong n xs → IsAmong (lower i n) (closed i xs)) → IsAmong (lower i n) (closed i (x ∷ xs))
      go (inl e) (inl p) f = absurd (h (sym p ∙ e))
      go (inl e) (inr q) f = subst (IsAmong (lower i n)) (sym (drops i x xs e)) (f q)
      go (inr k) (inl p) f = subst (IsAmong (lower i n)) (sym (keeps i x xs k)) (inl (ap (lower i) p))
      go (inr k) (inr q) f = subst (IsAmong (lower i n)) (sym (keeps i x xs k)) (inr (f q))

  complete-still : (ns : List ℕ) → ((n : ℕ) → n < length ranks → IsAmong n ns) → (n : ℕ) → n < length (remove ranks i) → IsAmong n (closed i ns)
  complete-still ns all n l = go (bool-case (nat_lt n i))
    where
      go : (nat_lt n i ≡ true) ⊎ (nat_lt n i ≡ false) → IsAmong n (closed i ns)
      go (inl t) =
          let k : n < i = grind arith in
          let h : n ≢ i = omega (arith, k) in
          subst (λ m. IsAmong m (closed i ns)) (below i n (omega (arith, k))) (among-closed n ns (all n (omega (arith, l, fewer))) h)
      go (inr f) =
          let k : i ≤ n = grind arith in
          let h : n + 1 ≢ i = omega (arith, k) in
          let e : (n + 1) - 1 ≡ n = omega arith in
          subst (λ m. IsAmong m (closed i ns)) (above i (n + 1) (omega (arith, k)) ∙ e) (among-closed (n + 1) ns (all (n + 1) (omega (arith, l, fewer))) h)

  pub order-closed : (ns : List ℕ) → IsOrder ranks ns → IsOrder (remove ranks i) (closed i ns)
  order-closed ns o = record { inside = all-inside ns o.inside; ascends = still-ascends ns o.ascends; complete = complete-still ns o.complete }

-- ---- lists of numbers by their elements

pub mapped-at : (f : ℕ → ℕ) (xs : List ℕ) (k : ℕ) → k < length xs → get_or (map f xs) k 0 ≡ f (get_or xs k 0)
mapped-at f [] k l = absurd (omega arith)
mapped-at f (x ∷ xs) zero l = refl
mapped-at f (x ∷ xs) (suc k) l = mapped-at f xs k (omega arith)

pub all-same : (xs ys : List ℕ) → length xs ≡ length ys → ((k : ℕ) → k < length ys → get_or xs k 0 ≡ get_or ys k 0) → xs ≡ ys
all-same [] [] e h = refl
all-same [] (y ∷ ys) e h = absurd (omega (arith, e))
all-same (x ∷ xs) [] e h = absurd (omega (arith, e))
all-same (x ∷ xs) (y ∷ ys) e h = λ i. h 0 (omega arith) i ∷ all-same xs ys (omega (arith, e)) (λ k l. h (suc k) (omega (arith, l))) i
