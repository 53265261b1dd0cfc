-- What is recorded when a text is taken away.
use Rattle.std.specs.Prelude.{◌≡◌, ◌≢◌, ◌⊎◌, ◌<◌, ℕ, zero, suc, Bool, true, false, if◌then◌else◌, List, [], ◌∷◌, ◌++◌, length, map, reverse, All, Option, Some, None, refl}
use Rattle.std.specs.List.{remove}
use Rattle.std.proofs.Common.{ap, sym, ◌∙◌, subst, arith, inl, inr, get_or}
use Rattle.std.proofs.lemmas.List.{length-map}
use Rattle.std.proofs.lemmas.List.Elements.{All-nil, All-cons, All-head, All-tail}
use Rattle.dh_syntax.specs.declared.locations.Loc.{Loc}
use Rattle.dh_syntax.specs.Expressions.SameTree.{loc_eq}
use Rattle.dh_syntax.proofs.SameTree.{locs_tell}
use Rattle.dh_syntax.specs.Imports.Keys.{loc_rank, texts_before}
use Rattle.dh_imports.specs.Records.{IsParsed, Noted, lookup}
use Rattle.dh_laws.proofs.KeyOrder.{bool-case, true_false, none-some}
use Rattle.dh_record.specs.declared.rows.recorded.Entrant.{Entrant}
use Rattle.dh_record.specs.declared.rows.recorded.Look.{Look}
use Rattle.dh_record.specs.declared.rows.recorded.Text.{Text}
use Rattle.dh_record.specs.Reading.{IsRead}
use Rattle.dh_record.specs.Rows.{rows_of, text_of}
use Rattle.dh_record.specs.Sorting.{Rank, rank_at, rank_of_text, IsOrder, IsRanked}
use Rattle.dh_record.proofs.Latest.{reverse-cons}
use Rattle.dh_record.proofs.RankOrder.{before_itself, loc_told}
use Rattle.dh_record.proofs.SortedNumbers.{among_at, ascends_at}
use Rattle.dh_watch_rows.specs.Inside.Gaps.{closed}
use Rattle.dh_watch_rows.specs.KeptRows.{AreGood, kept_by}
use Rattle.dh_watch_rows.specs.Removing.{Forgets}
use Rattle.dh_watch_rows.proofs.Gaps.{order-closed}

-- ---- lists without an element

map-remove : {A B : Type 0} (f : A → B) (xs : List A) (i : ℕ) → i < length xs → map f (remove xs i) ≡ remove (map f xs) i
map-remove f [] i l = absurd (omega arith)
map-remove f (x ∷ xs) zero l = refl
map-remove f (x ∷ xs) (suc i) l = ap (λ ys. f x ∷ ys) (map-remove f xs i (omega arith))

all-remove : {A : Type 0} (P : A → Type 0) (xs : List A) (i : ℕ) → i < length xs → All P xs → All P (remove xs i)
all-remove P [] i l a = absurd (omega arith)
all-remove P (x ∷ xs) zero l a = All-tail P x xs a
all-remove P (x ∷ xs) (suc i) l a = All-cons P x (remove xs i) (All-head P x xs a) (all-remove P xs i (omega arith) (All-tail P x xs a))

-- each element but this one
each-other : {A : Type 0} (P : A → Type 0) (xs : List A) (i : ℕ) (d : A) → i < length xs → ((j : ℕ) → j < length xs → j ≢ i → P (get_or xs j d)) → All P (remove xs i)
each-other P [] i d l h = absurd (omega arith)
each-other P (x ∷ xs) zero d l h = from P xs d (λ j m. h (suc j) (omega arith) (omega arith))
  where
    from : {A : Type 0} (P : A → Type 0) (xs : List A) (d : A) → ((j : ℕ) → j < length xs → P (get_or xs j d)) → All P xs
    from P [] d h = All-nil P
    from P (x ∷ xs) d h = All-cons P x xs (h 0 (omega arith)) (from P xs d (λ j m. h (suc j) (omega arith)))
each-other P (x ∷ xs) (suc i) d l h =
    All-cons P x (remove xs i) (h 0 (omega arith) (omega arith)) (each-other P xs i d (omega arith) (λ j m n. h (suc j) (omega arith) (omega (arith, n))))

-- ---- what is looked up with the latest first

-- the first of two that is there
abbrev or_next : {B : Type 0} → Option B → Option B → Option B
or_next (Some x) y = Some x
or_next None y = y

next-none : {B : Type 0} (x : Option B) → or_next x None ≡ x
next-none (Some x) = refl
next-none None = refl

module _ {X A B : Type 0} (same : A → A → Bool) (f : X → A × B) (a : A) where
  abbrev one : X → Option B
  one x = if same (f x).0 a then Some (f x).1 else None

  look-append : (xs ys : List (A × B)) → lookup same (xs ++ ys) a ≡ or_next (lookup same xs a) (lookup same ys a)
  look-append [] ys = refl
  look-append (p ∷ ps) ys = go (same p.0 a) (look-append ps ys)
    where
      go : (b : Bool) → lookup same (ps ++ ys) a ≡ or_next (lookup same ps a) (lookup same ys a)
          → (if b then Some p.1 else lookup same (ps ++ ys) a) ≡ or_next (if b then Some p.1 else lookup same ps a) (lookup same ys a)
      go true i = refl
      go false i = i

  look-cons : (x : X) (xs : List X) → lookup same (reverse (map f (x ∷ xs))) a ≡ or_next (lookup same (reverse (map f xs)) a) (if same (f x).0 a then Some (f x).1 else None)
  look-cons x xs = ap (λ ps. lookup same ps a) (reverse-cons f x xs) ∙ look-append (reverse (map f xs)) (f x ∷ [])

  pub look-other : (xs : List X) (i : ℕ) (d : X) → i < length xs → same (f (get_or xs i d)).0 a ≡ false
      → lookup same (reverse (map f (remove xs i))) a ≡ lookup same (reverse (map f xs)) a
  look-other [] i d l h = absurd (omega arith)
  look-other (x ∷ xs) zero d l h =
      sym (look-cons x xs ∙ ap (λ b. or_next (lookup same (reverse (map f xs)) a) (if b then Some (f x).1 else None)) h ∙ next-none (lookup same (reverse (map f xs)) a))
  look-other (x ∷ xs) (suc i) d l h =
      look-cons x (remove xs i) ∙ ap (λ z. or_next z (if same (f x).0 a then Some (f x).1 else None)) (look-other xs i d (omega arith) h) ∙ sym (look-cons x xs)

  pub look-none : (xs : List X) → All (λ (x : X). same (f x).0 a ≡ false) xs → lookup same (reverse (map f xs)) a ≡ None
  look-none [] h = refl
  look-none (x ∷ xs) h =
      look-cons x xs ∙ ap (λ z. or_next z (if same (f x).0 a then Some (f x).1 else None)) (look-none xs (All-tail (λ (x : X). same (f x).0 a ≡ false) x xs h))
      ∙ ap (λ b. or_next None (if b then Some (f x).1 else None)) (All-head (λ (x : X). same (f x).0 a ≡ false) x xs h)

-- ---- ranks in an order are different

different : (ranks : List Rank) (ns : List ℕ) → IsOrder ranks ns → (i j : ℕ) → i < length ranks → j < length ranks → j ≢ i → ¬ (rank_at ranks j ≡ rank_at ranks i)
different ranks ns o i j l m h e = go (among_at i ns (o.complete i l)) (among_at j ns (o.complete j m))
  where
    apart : (x y : Rank) → x ≡ y → texts_before x y ≡ true → ⊥
    apart x y p t = true_false t (ap (λ z. texts_before z y) p ∙ before_itself y)

    split : (p q : ℕ) → (p < q) ⊎ ((p ≡ q) ⊎ (q < p))
    split p q = grind arith

    go : (p : ℕ) × (p < length ns) × (get_or ns p 0 ≡ i) → (q : ℕ) × (q < length ns) × (get_or ns q 0 ≡ j) → ⊥
    go (p, pl, pe) (q, ql, qe) = by (split p q)
      where
        by : (p < q) ⊎ ((p ≡ q) ⊎ (q < p)) → ⊥
        by (inl s) =
            apart (rank_at ranks i) (rank_at ranks j) (sym e)
            (subst (λ z. texts_before (rank_at ranks i) (rank_at ranks z) ≡ true) qe (subst (λ z. texts_before (rank_at ranks z) (rank_at ranks (get_or ns q 0)) ≡ true) pe (ascends_at ranks ns p q o.ascends s ql)))
        by (inr (inl s)) = h (sym qe ∙ ap (λ z. get_or ns z 0) (sym s) ∙ pe)
        by (inr (inr s)) =
            apart (rank_at ranks j) (rank_at ranks i) e
            (subst (λ z. texts_before (rank_at ranks j) (rank_at ranks z) ≡ true) pe (subst (λ z. texts_before (rank_at ranks z) (rank_at ranks (get_or ns p 0)) ≡ true) qe (ascends_at ranks ns q p o.ascends s pl)))

-- ---- a text is taken away

rank-named : (texts : List Text) (d : Text) (j : ℕ) → j < length texts → rank_at (map rank_of_text texts) j ≡ rank_of_text (get_or texts j d)
rank-named [] d j l = absurd (omega arith)
rank-named (t ∷ ts) d zero l = refl
rank-named (t ∷ ts) d (suc j) l = rank-named ts d j (omega arith)

-- the text that is found at a location
pub ranked-there : (texts : List Text) (d : Text) (l : Loc) (n : ℕ) → IsRanked (map rank_of_text texts) (loc_rank l) (Some n) → (n < length texts) × ((get_or texts n d).loc ≡ l)
ranked-there texts d l n h =
    let inside : n < length texts = omega (arith, h.0, length-map texts rank_of_text) in
    (inside, loc_told (get_or texts n d).loc l (sym (rank-named texts d n inside) ∙ h.1))

module _ (keys : List Entrant) (texts : List Text) (looks' : List Look) (to lo decided limited : List ℕ) (g : AreGood keys texts looks' to lo decided limited)
    (i : ℕ) (d : Text) (inside : i < length texts) where
  as_many : length (map rank_of_text texts) ≡ length texts
  as_many = length-map texts rank_of_text

  -- the texts that are left are at other locations
  elsewhere : (l : Loc) → (get_or texts i d).loc ≡ l → All (λ (t : Text). loc_eq t.loc l ≡ false) (remove texts i)
  elsewhere l e = each-other (λ (t : Text). loc_eq t.loc l ≡ false) texts i d inside (λ j m n. go j m n (bool-case (loc_eq (get_or texts j d).loc l)))
    where
      go : (j : ℕ) → j < length texts → j ≢ i → (loc_eq (get_or texts j d).loc l ≡ true) ⊎ (loc_eq (get_or texts j d).loc l ≡ false) → loc_eq (get_or texts j d).loc l ≡ false
      go j m n (inr f) = f
      go j m n (inl t) =
          let same : (get_or texts j d).loc ≡ (get_or texts i d).loc = locs_tell.equal (get_or texts j d).loc l t ∙ sym e in
          absurd (different (map rank_of_text texts) to g.texts_in_order i j (omega (arith, inside, as_many)) (omega (arith, m, as_many)) n
          (rank-named texts d j m ∙ ap loc_rank same ∙ sym (rank-named texts d i inside)))

  pub removed-forgets : (l : Loc) → (get_or texts i d).loc ≡ l → Forgets (kept_by keys texts looks' decided limited) l (kept_by keys (remove texts i) looks' decided limited)
  removed-forgets l e = record {
    gone = look-none loc_eq text_of l (remove texts i) (elsewhere l e);
    others = λ x n. look-other loc_eq text_of x texts i d inside (ap (λ z. loc_eq z x) e ∙ n);
    looks = refl;
    limits = refl;
    outcomes = refl;
  }

  pub removed-good : AreGood keys (remove texts i) looks' (closed i to) lo decided limited
  removed-good = record {
    few = g.few;
    distinct = g.distinct;
    listed = g.listed;
    read = all-remove (IsRead (rows_of keys)) texts i inside g.read;
    valued = g.valued;
    parsed = λ l x e. go l x e (bool-case (loc_eq (get_or texts i d).loc l));
    misses = g.misses;
    decided_named = g.decided_named;
    limited_named = g.limited_named;
    asks = g.asks;
    texts_in_order =
        subst (λ rs. IsOrder rs (closed i to)) (sym (map-remove rank_of_text texts i inside))
        (order-closed (map rank_of_text texts) i (omega (arith, inside, as_many)) to g.texts_in_order);
    looks_in_order = g.looks_in_order;
  }
    where
      go : (l : Loc) (x : Noted) → lookup loc_eq (reverse (map text_of (remove texts i))) l ≡ Some x
          → (loc_eq (get_or texts i d).loc l ≡ true) ⊎ (loc_eq (get_or texts i d).loc l ≡ false) → IsParsed x
      go l x e (inl t) = none-some (look-none loc_eq text_of l (remove texts i) (elsewhere l (locs_tell.equal (get_or texts i d).loc l t))) e
      go l x e (inr f) = g.parsed l x (sym (look-other loc_eq text_of l texts i d inside f) ∙ e)
