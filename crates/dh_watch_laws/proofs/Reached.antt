-- The keys that are asked from a key on, and the locations whose texts they ask, as lists.
use Rattle.std.specs.Prelude.{◌≡◌, ◌↔◌, ◌⊎◌, true, false, if◌then◌else◌, List, [], ◌∷◌, ◌++◌, Option, Some, None, refl}
use Rattle.std.proofs.Common.{ap, sym, ◌∙◌, subst, inl, inr}
use Rattle.dh_syntax.specs.declared.locations.Key.{Key}
use Rattle.dh_syntax.specs.declared.locations.Loc.{Loc}
use Rattle.dh_syntax.specs.Expressions.SameTree.{loc_eq}
use Rattle.dh_syntax.proofs.SameTree.{locs_tell}
use Rattle.dh_syntax.specs.Imports.Keys.{key_eq}
use Rattle.dh_imports.specs.Keeps.{asked_by}
use Rattle.dh_imports.specs.Machine.{IsAmong}
use Rattle.dh_imports.specs.Outcomes.{Outcome}
use Rattle.dh_imports.specs.Records.{Record}
use Rattle.dh_imports.specs.Resolver.{Part, TextOf, LookOf, plan, stage, is_in}
use Rattle.dh_imports.specs.Walk.{Ask}
use Rattle.dh_laws.proofs.KeyOrder.{bool-case, true_false, none-some, key_eq-true}
use Rattle.dh_import_laws.proofs.Calm.{at-other, at-grown}
use Rattle.dh_import_laws.proofs.Walks.{Knows}
use Rattle.dh_import_laws.proofs.Wants.{among_left, among_right, among-split}
use Rattle.dh_watch_laws.specs.Counting.{AreOnce}
use Rattle.dh_watch_laws.specs.Depending.{part_of, From, here, there}
use Rattle.dh_watch_laws.specs.Kept.{Outcomes, known, Found, nothing, one_more}
use Rattle.dh_watch_laws.specs.Visiting.{IsClosed}
use Rattle.dh_watch_laws.proofs.Depending.{asked-alike}
use Rattle.dh_watch_laws.proofs.Needing.{of-in}
use Rattle.dh_watch_laws.proofs.Settling.{AllSettled, due-settled}
use Rattle.dh_watch_laws.proofs.Visiting.{ended-due, found-closed, from-more, from-less}

-- the keys that are asked from this one on
pub record Reached (r : Record) (ask : Ask) (k : Key) : Type 0 where
  pub keys : List Key
  pub members : (j : Key) → IsAmong j keys ↔ From r ask k j

-- and from any of these
record ReachedFrom (r : Record) (ask : Ask) (ys : List Key) : Type 0 where
  keys : List Key
  members : (j : Key) → IsAmong j keys ↔ ((y : Key) × IsAmong y ys × From r ask y j)

gathered : (r : Record) (ask : Ask) → ((y : Key) (o : Outcome) → ask y ≡ Some o → Reached r ask y) → (ys : List Key) → AllSettled ask ys → ReachedFrom r ask ys
gathered r ask h [] s = record { keys = []; members = λ j. (λ m. absurd m, λ w. absurd w.1) }
gathered r ask h (y ∷ ys) s =
    let o = s y (inl refl) in
    let a = h y o.0 o.1 in
    let b = gathered r ask h ys (λ z m. s z (inr m)) in
    record { keys = a.keys ++ b.keys; members = λ j. (to j a b, from j a b) }
  where
    to : (j : Key) (a : Reached r ask y) (b : ReachedFrom r ask ys) → IsAmong j (a.keys ++ b.keys) → (z : Key) × IsAmong z (y ∷ ys) × From r ask z j
    to j a b m = go (among-split j a.keys b.keys m)
      where
        go : IsAmong j a.keys ⊎ IsAmong j b.keys → (z : Key) × IsAmong z (y ∷ ys) × From r ask z j
        go (inl n) = (y, inl refl, (a.members j).0 n)
        go (inr n) = let w = (b.members j).0 n in (w.0, inr w.1, w.2)

    from : (j : Key) (a : Reached r ask y) (b : ReachedFrom r ask ys) → (z : Key) × IsAmong z (y ∷ ys) × From r ask z j → IsAmong j (a.keys ++ b.keys)
    from j a b (z, inl p, f) = among_left j a.keys b.keys ((a.members j).1 (subst (λ x. From r ask x j) (sym p) f))
    from j a b (z, inr m, f) = among_right j a.keys b.keys ((b.members j).1 (z, m, f))

-- ---- by the outcomes that are kept

pub reached : (r : Record) {l : Outcomes} → Found r l → (x : Key) (p : Outcome) → known l x ≡ Some p → Reached r (known l) x
reached r nothing x p h = none-some refl h
reached r (one_more {l = l} {k = k} {o = o} f e c n q) x p h = go (bool-case (key_eq k x)) (reached r f)
  where
    more : Knows (known l) (known ((k, o) ∷ l))
    more = at-grown l k o e

    closed : IsClosed r (known l)
    closed = found-closed r f

    due : AllSettled (known l) (asked_by (known l) k (plan r k))
    due = due-settled (known l) k (plan r k) (ended-due r n k (stage r (known l) k) o q)

    same : asked_by (known l) k (plan r k) ≡ asked_by (known ((k, o) ∷ l)) k (plan r k)
    same = asked-alike (known l) (known ((k, o) ∷ l)) k (plan r k) (λ y m. let s = due y m in s.1 ∙ sym (more y s.0 s.1))

    first : ReachedFrom r (known l) (asked_by (known l) k (plan r k)) → Reached r (known ((k, o) ∷ l)) k
    first a = record { keys = k ∷ a.keys; members = λ j. (to j, from j) }
      where
        to : (j : Key) → IsAmong j (k ∷ a.keys) → From r (known ((k, o) ∷ l)) k j
        to j (inl t) = subst (λ z. From r (known ((k, o) ∷ l)) k z) t here
        to j (inr m) =
            let w = (a.members j).0 m in
            there (subst (λ z. IsAmong w.0 z) same w.1) (from-more r (known l) closed (known ((k, o) ∷ l)) more w.2 (due w.0 w.1))

        from : (j : Key) → From r (known ((k, o) ∷ l)) k j → IsAmong j (k ∷ a.keys)
        from j here = inl refl
        from j (there {y = y} m g) =
            let i : IsAmong y (asked_by (known l) k (plan r k)) = subst (λ z. IsAmong y z) (sym same) m in
            inr ((a.members j).1 (y, i, from-less r (known l) closed (known ((k, o) ∷ l)) more g (due y i)))

    go : (key_eq k x ≡ true) ⊎ (key_eq k x ≡ false) → ((y : Key) (u : Outcome) → known l y ≡ Some u → Reached r (known l) y) → Reached r (known ((k, o) ∷ l)) x
    go (inl t) i = subst (Reached r (known ((k, o) ∷ l))) (key_eq-true k x t) (first (gathered r (known l) i (asked_by (known l) k (plan r k)) due))
    go (inr u) i =
        let s : known l x ≡ Some p = sym (at-other l k x o u) ∙ h in
        let a = i x p s in
        record {
          keys = a.keys;
          members = λ j. (λ m. from-more r (known l) closed (known ((k, o) ∷ l)) more ((a.members j).0 m) (p, s), λ g. (a.members j).1 (from-less r (known l) closed (known ((k, o) ∷ l)) more g (p, s)));
        }

-- ---- by those of a loop

from-on : (r : Record) (ask : Ask) {a b c : Key} → From r ask a b → From r ask b c → From r ask a c
from-on r ask here g = g
from-on r ask (there m f) g = there m (from-on r ask f g)

-- more outcomes than these, those of the keys of a chain; each key that is asked has an outcome
module _ (r : Record) {l : Outcomes} (f : Found r l) (ask : Ask) (closed : IsClosed r ask) (more : Knows (known l) ask) (xs : List Key)
    (others : (y : Key) (o : Outcome) → ask y ≡ Some o → is_in y xs ≡ false → known l y ≡ Some o) (all : (x : Key) → IsAmong x xs → (o : Outcome) × (ask x ≡ Some o)) where
  -- those of these keys that are not on the chain
  off : List Key → List Key
  off [] = []
  off (y ∷ ys) = if is_in y xs then off ys else y ∷ off ys

  off-in : (y : Key) (ys : List Key) → IsAmong y ys → is_in y xs ≡ false → IsAmong y (off ys)
  unfolding off
  off-in y [] m n = m
  off-in y (z ∷ zs) m n = go (bool-case (is_in z xs)) m (λ i. off-in y zs i n)
    where
      go : (is_in z xs ≡ true) ⊎ (is_in z xs ≡ false) → IsAmong y (z ∷ zs) → (IsAmong y zs → IsAmong y (off zs)) → IsAmong y (if is_in z xs then off zs else z ∷ off zs)
      go (inl t) (inl p) i = true_false (subst (λ v. is_in v xs ≡ true) p t) n
      go (inl t) (inr q) i = subst (λ b. IsAmong y (if b then off zs else z ∷ off zs)) (sym t) (i q)
      go (inr u) (inl p) i = subst (λ b. IsAmong y (if b then off zs else z ∷ off zs)) (sym u) (inl p)
      go (inr u) (inr q) i = subst (λ b. IsAmong y (if b then off zs else z ∷ off zs)) (sym u) (inr (i q))

  in-off : (y : Key) (ys : List Key) → IsAmong y (off ys) → IsAmong y ys × (is_in y xs ≡ false)
  unfolding off
  in-off y [] m = absurd m
  in-off y (z ∷ zs) m = go (bool-case (is_in z xs)) (λ i. in-off y zs i)
    where
      go : (is_in z xs ≡ true) ⊎ (is_in z xs ≡ false) → (IsAmong y (off zs) → IsAmong y zs × (is_in y xs ≡ false)) → IsAmong y (z ∷ zs) × (is_in y xs ≡ false)
      go (inl t) i = let w = i (subst (λ b. IsAmong y (if b then off zs else z ∷ off zs)) t m) in (inr w.0, w.1)
      go (inr u) i = by (subst (λ b. IsAmong y (if b then off zs else z ∷ off zs)) u m)
        where
          by : IsAmong y (z ∷ off zs) → IsAmong y (z ∷ zs) × (is_in y xs ≡ false)
          by (inl p) = (inl p, subst (λ v. is_in v xs ≡ false) p u)
          by (inr q) = let w = i q in (inr w.0, w.1)

  -- what the keys of a part of the chain ask beside it
  asks_of : List Key → List Key
  asks_of [] = []
  asks_of (x ∷ zs) = off (asked_by ask x (plan r x)) ++ asks_of zs

  asks-in : (x y : Key) (zs : List Key) → IsAmong x zs → IsAmong y (asked_by ask x (plan r x)) → is_in y xs ≡ false → IsAmong y (asks_of zs)
  unfolding asks_of
  asks-in x y [] m n u = absurd m
  asks-in x y (z ∷ zs) (inl p) n u = among_left y (off (asked_by ask z (plan r z))) (asks_of zs) (off-in y (asked_by ask z (plan r z)) (subst (λ v. IsAmong y (asked_by ask v (plan r v))) (sym p) n) u)
  asks-in x y (z ∷ zs) (inr m) n u = among_right y (off (asked_by ask z (plan r z))) (asks_of zs) (asks-in x y zs m n u)

  in-asks : (y : Key) (zs : List Key) → IsAmong y (asks_of zs) → (x : Key) × IsAmong x zs × IsAmong y (asked_by ask x (plan r x)) × (is_in y xs ≡ false)
  unfolding asks_of
  in-asks y [] m = absurd m
  in-asks y (z ∷ zs) m = go (among-split y (off (asked_by ask z (plan r z))) (asks_of zs) m) (λ n. in-asks y zs n)
    where
      go : IsAmong y (off (asked_by ask z (plan r z))) ⊎ IsAmong y (asks_of zs)
          → (IsAmong y (asks_of zs) → (x : Key) × IsAmong x zs × IsAmong y (asked_by ask x (plan r x)) × (is_in y xs ≡ false))
          → (x : Key) × IsAmong x (z ∷ zs) × IsAmong y (asked_by ask x (plan r x)) × (is_in y xs ≡ false)
      go (inl n) i = let w = in-off y (asked_by ask z (plan r z)) n in (z, inl refl, w.0, w.1)
      go (inr n) i = let w = i n in (w.0, inr w.1, w.2, w.3)

  settled-asks : AllSettled (known l) (asks_of xs)
  settled-asks y m =
      let w = in-asks y xs m in
      let o = all w.0 w.1 in
      let s = due-settled ask w.0 (plan r w.0) (closed w.0 o.0 o.1) y w.2 in
      (s.0, others y s.0 s.1 w.3)

  beside : ReachedFrom r (known l) (asks_of xs)
  beside = gathered r (known l) (reached r f) (asks_of xs) settled-asks

  -- from each key of the chain on, all stands on the chain or beside it
  stays : (x j : Key) → IsAmong x xs → From r ask x j → IsAmong j (xs ++ beside.keys)
  stays x j m here = among_left x xs beside.keys m
  stays x j m (there {y = y} i g) = go (bool-case (is_in y xs)) (λ n. stays y j n g)
    where
      go : (is_in y xs ≡ true) ⊎ (is_in y xs ≡ false) → (IsAmong y xs → IsAmong j (xs ++ beside.keys)) → IsAmong j (xs ++ beside.keys)
      go (inl t) h = h (of-in y xs t)
      go (inr u) h =
          let a = asks-in x y xs m i u in
          among_right j xs beside.keys ((beside.members j).1 (y, a, from-less r (known l) (found-closed r f) ask more g (settled-asks y a)))

  pub reached-loop : (root : Key) → IsAmong root xs → ((x : Key) → IsAmong x xs → From r ask root x) → Reached r ask root
  reached-loop root m each = record { keys = xs ++ beside.keys; members = λ j. (to j, λ g. stays root j m g) }
    where
      to : (j : Key) → IsAmong j (xs ++ beside.keys) → From r ask root j
      to j n = go (among-split j xs beside.keys n)
        where
          go : IsAmong j xs ⊎ IsAmong j beside.keys → From r ask root j
          go (inl i) = each j i
          go (inr i) =
              let w = (beside.members j).0 i in
              let a = in-asks w.0 xs w.1 in
              from-on r ask (each a.0 a.1) (there a.2 (from-more r (known l) (found-closed r f) ask more w.2 (settled-asks w.0 w.1)))

-- ---- the locations whose texts they ask

among-loc : (l : Loc) (ls : List Loc) → IsAmong l ls ⊎ (¬ IsAmong l ls)
among-loc l [] = inr (λ m. m)
among-loc l (x ∷ xs) = go (bool-case (loc_eq x l)) (among-loc l xs)
  where
    go : (loc_eq x l ≡ true) ⊎ (loc_eq x l ≡ false) → IsAmong l xs ⊎ (¬ IsAmong l xs) → IsAmong l (x ∷ xs) ⊎ (¬ IsAmong l (x ∷ xs))
    go (inl t) i = inl (inl (locs_tell.equal x l t))
    go (inr u) (inl m) = inl (inr m)
    go (inr u) (inr n) = inr none
      where
        none : IsAmong l (x ∷ xs) → ⊥
        none (inl p) = true_false (subst (λ z. loc_eq x z ≡ true) p (locs_tell.itself x)) u
        none (inr m) = n m

pub record TextsOf (ks : List Key) : Type 0 where
  pub locs : List Loc
  pub once : AreOnce locs
  pub members : (l : Loc) → IsAmong l locs ↔ ((j : Key) × IsAmong j ks × (part_of j ≡ Some (TextOf l)))

pub texts_of : (ks : List Key) → TextsOf ks
texts_of [] = record { locs = []; once = tt; members = λ l. (λ m. absurd m, λ w. absurd w.1) }
texts_of (k ∷ ks) = go (part_of k) refl (texts_of ks)
  where
    text-same : {a b : Loc} → Some (TextOf a) ≡ Some (TextOf b) → a ≡ b
    text-same {a = a} p = ap (loc_or a) p
      where
        loc_or : Loc → Option Part → Loc
        loc_or a (Some (TextOf b)) = b
        loc_or a _ = a

    look-text : {P : Type 0} (l : Loc) (d : _) → Some (LookOf d) ≡ Some (TextOf l) → P
    look-text l d p = cc

    -- its part is no text, or that of a location that is there already
    same : (a : TextsOf ks) → ((l : Loc) → part_of k ≡ Some (TextOf l) → IsAmong l a.locs) → TextsOf (k ∷ ks)
    same a h = record { locs = a.locs; once = a.once; members = λ l. (λ m. let w = (a.members l).0 m in (w.0, inr w.1, w.2), from l) }
      where
        from : (l : Loc) → (j : Key) × IsAmong j (k ∷ ks) × (part_of j ≡ Some (TextOf l)) → IsAmong l a.locs
        from l (j, inl p, e) = h l (subst (λ z. part_of z ≡ Some (TextOf l)) (sym p) e)
        from l (j, inr m, e) = (a.members l).1 (j, m, e)

    one : (x : Loc) → part_of k ≡ Some (TextOf x) → (a : TextsOf ks) → ¬ IsAmong x a.locs → TextsOf (k ∷ ks)
    one x q a n = record { locs = x ∷ a.locs; once = (n, a.once); members = λ l. (to l, from l) }
      where
        to : (l : Loc) → IsAmong l (x ∷ a.locs) → (j : Key) × IsAmong j (k ∷ ks) × (part_of j ≡ Some (TextOf l))
        to l (inl p) = (k, inl refl, q ∙ ap (λ z. Some (TextOf z)) p)
        to l (inr m) = let w = (a.members l).0 m in (w.0, inr w.1, w.2)

        from : (l : Loc) → (j : Key) × IsAmong j (k ∷ ks) × (part_of j ≡ Some (TextOf l)) → IsAmong l (x ∷ a.locs)
        from l (j, inl p, e) = inl (text-same (sym q ∙ subst (λ z. part_of z ≡ Some (TextOf l)) (sym p) e))
        from l (j, inr m, e) = inr ((a.members l).1 (j, m, e))

    go : (p : Option Part) → part_of k ≡ p → TextsOf ks → TextsOf (k ∷ ks)
    go None q a = same a (λ l e. none-some q e)
    go (Some (LookOf d)) q a = same a (λ l e. look-text l d (sym q ∙ e))
    go (Some (TextOf x)) q a = by (among-loc x a.locs)
      where
        by : IsAmong x a.locs ⊎ (¬ IsAmong x a.locs) → TextsOf (k ∷ ks)
        by (inl m) = same a (λ l e. subst (λ z. IsAmong z a.locs) (text-same (sym q ∙ e)) m)
        by (inr n) = one x q a n
