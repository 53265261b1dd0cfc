-- Numbers in the order of what they stand for: how one is found, and how they grow.
use Rattle.std.specs.Prelude.{◌≡◌, ◌⊎◌, ◌<◌, ◌≤◌, ◌+◌, ℕ, zero, suc, Bool, true, false, if◌then◌else◌, List, [], ◌∷◌, ◌++◌, length, filter, nat_lt, slice_index_or, All, Some, None, refl}
use Rattle.std.specs.List.{insert}
use Rattle.std.proofs.Common.{ap, sym, ◌∙◌, subst, arith, inl, inr, get_or, take, ltb-true, lt-ltb}
use Rattle.std.proofs.lemmas.List.{length-append, length-take, get_or-take, get_or_append_left, get_or-append-add}
use Rattle.std.proofs.lemmas.List.Elements.{All-nil, All-cons, All-head, All-tail, All-get_or, All-weaker, All-filter, All-from_get_or, filter_passes}
use Rattle.dh_syntax.specs.Imports.Keys.{texts_before}
use Rattle.dh_imports.specs.Machine.{IsAmong}
use Rattle.dh_laws.proofs.KeyOrder.{true_false, bool-case}
use Rattle.dh_record.specs.Sorting.{Rank, rank_at, IsBelow, Ascends, IsOrder, IsPlace, IsRanked}
use Rattle.dh_record.proofs.RankOrder.{before_itself, before_through, before_neither}

-- ---- numbers at their places

pub among_at : (n : ℕ) (ns : List ℕ) → IsAmong n ns → (i : ℕ) × (i < length ns) × (get_or ns i 0 ≡ n)
among_at n [] m = absurd m
among_at n (x ∷ xs) (inl e) = (0, omega arith, e)
among_at n (x ∷ xs) (inr m) = let r = among_at n xs m in (suc r.0, (let l = r.1 in omega arith), r.2)

pub ascends_at : (ranks : List Rank) (ns : List ℕ) (i j : ℕ) → Ascends ranks ns → i < j → j < length ns → texts_before (rank_at ranks (get_or ns i 0)) (rank_at ranks (get_or ns j 0)) ≡ true
ascends_at ranks [] i j a h l = absurd (omega arith)
ascends_at ranks (n ∷ ns) zero zero a h l = absurd (omega arith)
ascends_at ranks (n ∷ ns) zero (suc j) a h l = All-get_or (λ (m : ℕ). texts_before (rank_at ranks n) (rank_at ranks m) ≡ true) ns j 0 (omega arith) a.0
ascends_at ranks (n ∷ ns) (suc i) zero a h l = absurd (omega arith)
ascends_at ranks (n ∷ ns) (suc i) (suc j) a h l = ascends_at ranks ns i j a.1 (omega arith) (omega arith)

not_before : (x y : Rank) → (texts_before x y ≡ true → ⊥) → texts_before x y ≡ false
not_before x y h =
    elim (bool-case (texts_before x y)) [
      | inl p ↦ absurd (h p)
      | inr p ↦ p
    ]

-- ---- a search by halves

abbrev pub Below : List Rank → Rank → List ℕ → ℕ → Type 0
Below ranks x ns low = (i : ℕ) → i < low → IsBelow ranks x (slice_index_or ns i 0)

abbrev pub Above : List Rank → Rank → List ℕ → ℕ → Type 0
Above ranks x ns high = (i : ℕ) → high ≤ i → i < length ns → texts_before (rank_at ranks (slice_index_or ns i 0)) x ≡ false

module _ (ranks : List Rank) (x : Rank) (ns : List ℕ) (up : Ascends ranks ns) where
  abbrev at : ℕ → Rank
  at i = rank_at ranks (get_or ns i 0)

  pub further : (m : ℕ) → m < length ns → texts_before (rank_at ranks (get_or ns m 0)) x ≡ true → Below ranks x ns (m + 1)
  further m l h i k =
      elim (split_lt i m k) [
        | inl p ↦ before_through (at i) (at m) x (ascends_at ranks ns i m up p l) h
        | inr p ↦ subst (λ (n : ℕ). texts_before (rank_at ranks (get_or ns n 0)) x ≡ true) (sym p) h
      ]
    where
      split_lt : (i m : ℕ) → i < m + 1 → (i < m) ⊎ (i ≡ m)
      split_lt i m k = grind arith

  pub nearer : (m : ℕ) → texts_before (rank_at ranks (get_or ns m 0)) x ≡ false → Above ranks x ns m
  nearer m h j k l =
      elim (split_le m j k) [
        | inl p ↦ not_before (at j) x (λ q. true_false (before_through (at m) (at j) x (ascends_at ranks ns m j up p l) q) h)
        | inr p ↦ subst (λ (n : ℕ). texts_before (rank_at ranks (get_or ns n 0)) x ≡ false) p h
      ]
    where
      split_le : (m j : ℕ) → m ≤ j → (m < j) ⊎ (m ≡ j)
      split_le m j k = grind arith

module _ (ranks : List Rank) (x : Rank) (ns : List ℕ) (o : IsOrder ranks ns) where
  -- what is found at its place
  pub found_here : (p : ℕ) → IsPlace ranks x ns p → p < length ns → texts_before x (rank_at ranks (get_or ns p 0)) ≡ false → IsRanked ranks x (Some (get_or ns p 0))
  found_here p q l h = (All-get_or (λ (n : ℕ). n < length ranks) ns p 0 l o.inside, before_neither _ _ (q.above p (omega arith) l) h)

  -- a thing of this rank has a place, behind those before it
  at_place : (p n : ℕ) → IsPlace ranks x ns p → n < length ranks → rank_at ranks n ≡ x → (i : ℕ) × (p ≤ i) × (i < length ns) × (rank_at ranks (get_or ns i 0) ≡ x)
  at_place p n q l e =
      let r = among_at n ns (o.complete n l) in
      let f : rank_at ranks (get_or ns r.0 0) ≡ x = ap (rank_at ranks) r.2 ∙ e in
      elim (split r.0 p) [
        | inl h ↦ true_false (subst (λ (y : Rank). texts_before y x ≡ true) f (q.below r.0 h)) (before_itself x)
        | inr h ↦ (r.0, h, r.1, f)
      ]
    where
      split : (i p : ℕ) → (i < p) ⊎ (p ≤ i)
      split i p = grind arith

  pub found_nowhere : (p : ℕ) → IsPlace ranks x ns p → length ns ≤ p → IsRanked ranks x None
  found_nowhere p q h n l e = let r = at_place p n q l e in let a = r.1 in let b = r.2 in omega arith

  pub found_other : (p : ℕ) → IsPlace ranks x ns p → p < length ns → texts_before x (rank_at ranks (get_or ns p 0)) ≡ true → IsRanked ranks x None
  found_other p q h b n l e =
      let r = at_place p n q l e in
      elim (split p r.0 r.1) [
        | inl k ↦ true_false (before_through x (rank_at ranks (get_or ns p 0)) x b (subst (λ (y : Rank). texts_before (rank_at ranks (get_or ns p 0)) y ≡ true) r.3 (ascends_at ranks ns p r.0 o.ascends k r.2))) (before_itself x)
        | inr k ↦ true_false (subst (λ (y : Rank). texts_before x y ≡ true) (ap (λ (i : ℕ). rank_at ranks (get_or ns i 0)) k ∙ r.3) b) (before_itself x)
      ]
    where
      split : (p i : ℕ) → p ≤ i → (p < i) ⊎ (p ≡ i)
      split p i k = grind arith

-- ---- one more thing

grown_at : (ranks : List Rank) (x : Rank) (n : ℕ) → n < length ranks → rank_at (ranks ++ x ∷ []) n ≡ rank_at ranks n
grown_at ranks x n l = get_or_append_left ranks (x ∷ []) [] n l

grown_last : (ranks : List Rank) (x : Rank) → rank_at (ranks ++ x ∷ []) (length ranks) ≡ x
grown_last ranks x = ap (λ (n : ℕ). get_or (ranks ++ x ∷ []) n []) (omega arith) ∙ get_or-append-add ranks (x ∷ []) 0 []

-- ranks that agree on these numbers leave their order
all_agree : (P Q : ℕ → Type 0) (ns : List ℕ) → All P ns → ((n : ℕ) → P n → Q n) → All Q ns
all_agree P Q ns h f = All-weaker P Q f ns h

all_both : (P Q : ℕ → Type 0) (ns : List ℕ) → All P ns → All Q ns → All (λ (n : ℕ). P n × Q n) ns
all_both P Q ns p q k d l = (p k d l, q k d l)

pub ascends_alike : (ranks more : List Rank) (ns : List ℕ) → All (λ (n : ℕ). rank_at more n ≡ rank_at ranks n) ns → Ascends ranks ns → Ascends more ns
ascends_alike ranks more [] s a = tt
ascends_alike ranks more (n ∷ ns) s a = (
  all_agree (λ (m : ℕ). (rank_at more m ≡ rank_at ranks m) × (texts_before (rank_at ranks n) (rank_at ranks m) ≡ true)) (λ (m : ℕ). texts_before (rank_at more n) (rank_at more m) ≡ true) ns
      (all_both (λ (m : ℕ). rank_at more m ≡ rank_at ranks m) (λ (m : ℕ). texts_before (rank_at ranks n) (rank_at ranks m) ≡ true) ns (All-tail (λ (m : ℕ). rank_at more m ≡ rank_at ranks m) n ns s) a.0)
      (λ m p. ap (λ y. texts_before y (rank_at more m)) (All-head (λ (m : ℕ). rank_at more m ≡ rank_at ranks m) n ns s) ∙ ap (texts_before (rank_at ranks n)) p.0 ∙ p.1),
  ascends_alike ranks more ns (All-tail (λ (m : ℕ). rank_at more m ≡ rank_at ranks m) n ns s) a.1,
)

-- a number between those below its rank and those above it
pub ascends_between : (ranks : List Rank) (x : ℕ) (ns : List ℕ) (p : ℕ) → Ascends ranks ns
    → ((i : ℕ) → i < p → i < length ns → texts_before (rank_at ranks (get_or ns i 0)) (rank_at ranks x) ≡ true)
    → ((i : ℕ) → p ≤ i → i < length ns → texts_before (rank_at ranks x) (rank_at ranks (get_or ns i 0)) ≡ true)
    → Ascends ranks (insert ns p x)
ascends_between ranks x ns zero a below above = (All-from_get_or (λ (m : ℕ). texts_before (rank_at ranks x) (rank_at ranks m) ≡ true) ns 0 (λ i l. above i (omega arith) l), a)
ascends_between ranks x [] (suc p) a below above = (All-nil (λ (m : ℕ). texts_before (rank_at ranks x) (rank_at ranks m) ≡ true), tt)
ascends_between ranks x (n ∷ ns) (suc p) a below above = (
  all_insert (λ (m : ℕ). texts_before (rank_at ranks n) (rank_at ranks m) ≡ true) x ns p (below 0 (omega arith) (omega arith)) a.0,
  ascends_between ranks x ns p a.1 (λ i h l. below (suc i) (omega arith) (omega arith)) (λ i h l. above (suc i) (omega arith) (omega arith)),
)
  where
    all_insert : (P : ℕ → Type 0) (x : ℕ) (ns : List ℕ) (p : ℕ) → P x → All P ns → All P (insert ns p x)
    all_insert P x ns zero h a = All-cons P x ns h a
    all_insert P x [] (suc p) h a = All-cons P x [] h (All-nil P)
    all_insert P x (n ∷ ns) (suc p) h a = All-cons P n (insert ns p x) (All-head P n ns a) (all_insert P x ns p h (All-tail P n ns a))

pub all_inserted : (P : ℕ → Type 0) (x : ℕ) (ns : List ℕ) (p : ℕ) → P x → All P ns → All P (insert ns p x)
all_inserted P x ns zero h a = All-cons P x ns h a
all_inserted P x [] (suc p) h a = All-cons P x [] h (All-nil P)
all_inserted P x (n ∷ ns) (suc p) h a = All-cons P n (insert ns p x) (All-head P n ns a) (all_inserted P x ns p h (All-tail P n ns a))

pub among_inserted : (x : ℕ) (ns : List ℕ) (p : ℕ) → IsAmong x (insert ns p x)
among_inserted x ns zero = inl refl
among_inserted x [] (suc p) = inl refl
among_inserted x (n ∷ ns) (suc p) = inr (among_inserted x ns p)

pub still_among : (m x : ℕ) (ns : List ℕ) (p : ℕ) → IsAmong m ns → IsAmong m (insert ns p x)
still_among m x ns zero h = inr h
still_among m x [] (suc p) h = absurd h
still_among m x (n ∷ ns) (suc p) (inl e) = inl e
still_among m x (n ∷ ns) (suc p) (inr h) = inr (still_among m x ns p h)

pub inserted : (ranks : List Rank) (x : Rank) (ns : List ℕ) (p : ℕ) → IsOrder ranks ns → IsPlace ranks x ns p → IsRanked ranks x None → IsOrder (ranks ++ x ∷ []) (insert ns p (length ranks))
inserted ranks x ns p o q new =
    let size = length-append ranks (x ∷ []) in
    let old = all_agree (λ (n : ℕ). n < length ranks) (λ (n : ℕ). rank_at (ranks ++ x ∷ []) n ≡ rank_at ranks n) ns o.inside (λ n l. grown_at ranks x n l) in
    let at = λ (i : ℕ) (l : i < length ns). All-get_or (λ (n : ℕ). rank_at (ranks ++ x ∷ []) n ≡ rank_at ranks n) ns i 0 l old in
    record {
      inside = all_inserted (λ (n : ℕ). n < length (ranks ++ x ∷ [])) (length ranks) ns p (omega arith) (all_agree (λ (n : ℕ). n < length ranks) (λ (n : ℕ). n < length (ranks ++ x ∷ [])) ns o.inside (λ n l. omega arith));
      ascends =
          ascends_between (ranks ++ x ∷ []) (length ranks) ns p (ascends_alike ranks (ranks ++ x ∷ []) ns old o.ascends)
          (λ i h l. ap (λ y. texts_before y (rank_at (ranks ++ x ∷ []) (length ranks))) (at i l) ∙ ap (texts_before (rank_at ranks (get_or ns i 0))) (grown_last ranks x) ∙ q.below i h)
          (λ i h l.
          ap (λ y. texts_before (rank_at (ranks ++ x ∷ []) (length ranks)) y) (at i l) ∙ ap (λ y. texts_before y (rank_at ranks (get_or ns i 0))) (grown_last ranks x)
          ∙ other (rank_at ranks (get_or ns i 0)) (q.above i h l) (new (get_or ns i 0) (All-get_or (λ (n : ℕ). n < length ranks) ns i 0 l o.inside)));
      complete = λ n l. among n (split n (length ranks) (let k = l in omega arith));
    }
  where
    other : (y : Rank) → texts_before y x ≡ false → ¬ (y ≡ x) → texts_before x y ≡ true
    other y h k =
        elim (bool-case (texts_before x y)) [
          | inl e ↦ e
          | inr e ↦ absurd (k (before_neither y x h e))
        ]

    split : (n m : ℕ) → n < m + 1 → (n < m) ⊎ (m ≡ n)
    split n m h = grind arith

    among : (n : ℕ) → (n < length ranks) ⊎ (length ranks ≡ n) → IsAmong n (insert ns p (length ranks))
    among n (inl l) = still_among n (length ranks) ns p (o.complete n l)
    among n (inr e) = subst (λ (m : ℕ). IsAmong m (insert ns p (length ranks))) e (among_inserted (length ranks) ns p)

-- ---- fewer things

abbrev pub is_under : ℕ → ℕ → Bool
is_under len n = nat_lt n len

kept_at : (ranks : List Rank) (len n : ℕ) → n < len → rank_at (take len ranks) n ≡ rank_at ranks n
kept_at ranks len n l = get_or-take len ranks n [] l

ascends_filter : (ranks : List Rank) (len : ℕ) (ns : List ℕ) → Ascends ranks ns → Ascends ranks (filter (is_under len) ns)
ascends_filter ranks len [] a = tt
ascends_filter ranks len (n ∷ ns) a = go (is_under len n) (ascends_filter ranks len ns a.1)
  where
    go : (b : Bool) → Ascends ranks (filter (is_under len) ns) → Ascends ranks (if b then n ∷ filter (is_under len) ns else filter (is_under len) ns)
    go true r = (All-filter (is_under len) (λ (m : ℕ). texts_before (rank_at ranks n) (rank_at ranks m) ≡ true) ns a.0, r)
    go false r = r

among_filter : (len n : ℕ) (ns : List ℕ) → is_under len n ≡ true → IsAmong n ns → IsAmong n (filter (is_under len) ns)
among_filter len n [] h m = absurd m
among_filter len n (x ∷ xs) h m = go (is_under len x) refl m (λ q. among_filter len n xs h q)
  where
    go : (b : Bool) → is_under len x ≡ b → (x ≡ n) ⊎ IsAmong n xs → (IsAmong n xs → IsAmong n (filter (is_under len) xs)) → IsAmong n (if b then x ∷ filter (is_under len) xs else filter (is_under len) xs)
    go true p (inl e) f = inl e
    go true p (inr q) f = inr (f q)
    go false p (inl e) f = true_false h (subst (λ (y : ℕ). is_under len y ≡ false) e p)
    go false p (inr q) f = f q

pub cut : (ranks : List Rank) (len : ℕ) (ns ms : List ℕ) → ms ≡ filter (is_under len) ns → IsOrder ranks ns → IsOrder (take len ranks) ms
cut ranks len ns ms e o =
    subst (IsOrder (take len ranks)) (sym e)
    (let size = length-take len ranks in
    let under = all_agree (λ (n : ℕ). is_under len n ≡ true) (λ (n : ℕ). n < len) (filter (is_under len) ns) (filter_passes (is_under len) ns) (λ n h. ltb-true n len h) in
    let inside = All-filter (is_under len) (λ (n : ℕ). n < length ranks) ns o.inside in
    record {
      inside = all_agree (λ (n : ℕ). (n < len) × (n < length ranks)) (λ (n : ℕ). n < length (take len ranks)) (filter (is_under len) ns) (all_both (λ (n : ℕ). n < len) (λ (n : ℕ). n < length ranks) (filter (is_under len) ns) under inside) (λ n p. let a = p.0 in let b = p.1 in omega arith);
      ascends = ascends_alike ranks (take len ranks) (filter (is_under len) ns) (all_agree (λ (n : ℕ). n < len) (λ (n : ℕ). rank_at (take len ranks) n ≡ rank_at ranks n) (filter (is_under len) ns) under (λ n l. kept_at ranks len n l)) (ascends_filter ranks len ns o.ascends);
      complete = λ n l. let a : n < len = omega arith in let b : n < length ranks = omega arith in among_filter len n ns (lt-ltb n len a) (o.complete n b);
    })
