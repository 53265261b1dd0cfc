-- One pass over what is kept, the latest outcome first, counts the keys that are visited.
use Rattle.std.specs.Prelude.{◌≡◌, ◌⊎◌, ◌↔◌, ◌+◌, ◌++◌, ℕ, true, false, if◌then◌else◌, List, [], ◌∷◌, length, Some, None, refl}
use Rattle.std.proofs.Common.{ap, sym, ◌∙◌, subst, inl, inr, arith}
use Rattle.std.proofs.lemmas.List.{length-append}
use Rattle.dh_syntax.specs.declared.locations.Key.{Key}
use Rattle.dh_syntax.specs.Imports.Keys.{key_eq}
use Rattle.dh_imports.specs.Keeps.{asked_by}
use Rattle.dh_imports.specs.Machine.{IsAmong}
use Rattle.dh_imports.specs.Outcomes.{Outcome, Loop}
use Rattle.dh_imports.specs.Records.{Record}
use Rattle.dh_imports.specs.Resolver.{is_in, plan, stage}
use Rattle.dh_imports.specs.Walk.{Ask}
use Rattle.dh_laws.proofs.KeyOrder.{bool-case, true_false, none-some, key_eq-true, key_eq-itself}
use Rattle.dh_import_laws.proofs.Calm.{at-same, at-other, at-grown}
use Rattle.dh_import_laws.proofs.Walks.{Knows}
use Rattle.dh_import_laws.proofs.Wants.{among_left, among_right, among-split}
use Rattle.dh_watch_laws.specs.Depending.{From, here, there}
use Rattle.dh_watch_laws.specs.Kept.{Outcomes, known, Kept, IsSound, Found, nothing, one_more}
use Rattle.dh_watch_laws.specs.Running.{AreApart}
use Rattle.dh_watch_laws.specs.Visiting.{looped}
use Rattle.dh_watch_laws.specs.VisitCounts.{ClosesLoop, has, comes_to_loop, Counts, count_from, asked_by_all, PassesCount}
use Rattle.dh_watch_laws.proofs.Depending.{asked-alike}
use Rattle.dh_watch_laws.proofs.Looping.{off}
use Rattle.dh_watch_laws.proofs.Needing.{in-of, of-in}
use Rattle.dh_watch_laws.proofs.Running.{both-apart, chain-among, from-joined, last_of}
use Rattle.dh_watch_laws.proofs.Settling.{AllSettled, due-settled}
use Rattle.dh_watch_laws.proofs.VisitCounts.{Settled, root-among, settled-here}
use Rattle.dh_watch_laws.proofs.Visiting.{ended-due, from-settled}

-- a key has an outcome among these
abbrev IsKnown : Outcomes → Key → Type 0
IsKnown l k = (o : Outcome) × (known l k ≡ Some o)

-- each of these outcomes is of a new key, which asks those keys alone that the earlier ones are of
data AreInOrder (r : Record) (ask : Ask) : Outcomes → Type 0 where
  none_left : AreInOrder r ask []
  and_one : {l : Outcomes} {k : Key} {o : Outcome} → AreInOrder r ask l → known l k ≡ None → ((y : Key) → IsAmong y (asked_by ask k (plan r k)) → IsKnown l y)
      → AreInOrder r ask ((k, o) ∷ l)

-- from one of these keys on it is visited
abbrev FromAny : Record → Ask → List Key → Key → Type 0
FromAny r ask ks j = (y : Key) × IsAmong y ks × From r ask y j

-- what each of these keys asks is among them, but for those that have an outcome of these
abbrev AreClosed : Record → Ask → List Key → Outcomes → Type 0
AreClosed r ask ks l = (y : Key) → IsAmong y ks → IsKnown l y ⊎ ((z : Key) → IsAmong z (asked_by ask y (plan r y)) → IsAmong z ks)

-- so many keys that have an outcome of these are visited from those on
record Passed (r : Record) (ask : Ask) (l : Outcomes) (ks : List Key) (n : ℕ) : Type 0 where
  keys : List Key
  apart : AreApart keys
  members : (j : Key) → IsAmong j keys ↔ (IsKnown l j × FromAny r ask ks j)
  count : n ≡ length keys

module _ (r : Record) (ask : Ask) where
  in-order : {l : Outcomes} → Found r l → Knows (known l) ask → AreInOrder r ask l
  in-order nothing h = none_left
  in-order (one_more {l = l} {k = k} {o = o} f e c n q) h = and_one (in-order f less) e (λ y m. due y (subst (λ ks. IsAmong y ks) (sym same) m))
    where
      less : Knows (known l) ask
      less x p w = h x p (at-grown l k o e x p w)

      due : AllSettled (known l) (asked_by (known l) k (plan r k))
      due = due-settled (known l) k (plan r k) (ended-due r n k (stage r (known l) k) o q)

      same : asked_by (known l) k (plan r k) ≡ asked_by ask k (plan r k)
      same = asked-alike (known l) ask k (plan r k) (λ y m. let s = due y m in s.1 ∙ sym (less y s.0 s.1))

  -- what a key with an outcome asks has one
  settled-asks : {l : Outcomes} → AreInOrder r ask l → (y : Key) → IsKnown l y → (z : Key) → IsAmong z (asked_by ask y (plan r y)) → IsKnown l z
  settled-asks none_left y w z m = none-some refl w.1
  settled-asks (and_one {l = l} {k = k} {o = o} s e a) y w z m = go (bool-case (key_eq k y)) (λ v. settled-asks s y v z m)
    where
      up : IsKnown l z → IsKnown ((k, o) ∷ l) z
      up v = (v.0, at-grown l k o e z v.0 v.1)

      go : (key_eq k y ≡ true) ⊎ (key_eq k y ≡ false) → (IsKnown l y → IsKnown l z) → IsKnown ((k, o) ∷ l) z
      go (inl t) i = up (a z (subst (λ v. IsAmong z (asked_by ask v (plan r v))) (sym (key_eq-true k y t)) m))
      go (inr f) i = up (i (w.0, sym (at-other l k y o f) ∙ w.1))

  -- so do all that are visited from it
  known-on : {l : Outcomes} → AreInOrder r ask l → {y j : Key} → From r ask y j → IsKnown l y → IsKnown l j
  known-on s here k = k
  known-on s (there {k = y} {y = z} m f) k = known-on s f (settled-asks s y k z m)

  -- a key that has the latest outcome is visited from these only where it is among them
  not-from : {l : Outcomes} (k : Key) (o : Outcome) → AreInOrder r ask l → known l k ≡ None → (ks : List Key) → AreClosed r ask ks ((k, o) ∷ l) → is_in k ks ≡ false
      → {y : Key} → IsAmong y ks → From r ask y k → ⊥
  not-from k o s e ks c n m here = true_false (in-of k ks m) n
  not-from {l = l} k o s e ks c n {y = y} m (there {y = z} i f) = go (c y m) (λ q. not-from k o s e ks c n q f)
    where
      by : IsKnown ((k, o) ∷ l) y → (key_eq k y ≡ true) ⊎ (key_eq k y ≡ false) → ⊥
      by w (inl t) = true_false (in-of k ks (subst (λ v. IsAmong v ks) (sym (key_eq-true k y t)) m)) n
      by w (inr u) = let v = known-on s (there i f) (w.0, sym (at-other l k y o u) ∙ w.1) in none-some e v.1

      go : IsKnown ((k, o) ∷ l) y ⊎ ((x : Key) → IsAmong x (asked_by ask y (plan r y)) → IsAmong x ks) → (IsAmong z ks → ⊥) → ⊥
      go (inr a) q = q (a z i)
      go (inl w) q = by w (bool-case (key_eq k y))

  passed : {l : Outcomes} → AreInOrder r ask l → (ks : List Key) → AreClosed r ask ks l → Passed r ask l ks (count_from r ask l ks)
  passed none_left ks c = record { keys = []; apart = tt; members = λ j. (λ m. absurd m, λ w. none-some refl (w.0).1); count = refl }
  passed (and_one {l = l} {k = k} {o = o} s e a) ks c = go (bool-case (is_in k ks)) (λ js d. passed s js d)
    where
      -- what is known of the others is known of them by the rest
      other : (j : Key) → IsKnown ((k, o) ∷ l) j → (key_eq k j ≡ true) ⊎ (key_eq k j ≡ false) → (k ≡ j) ⊎ IsKnown l j
      other j w (inl t) = inl (key_eq-true k j t)
      other j w (inr f) = inr (w.0, sym (at-other l k j o f) ∙ w.1)

      up : (j : Key) → IsKnown l j → IsKnown ((k, o) ∷ l) j
      up j w = (w.0, at-grown l k o e j w.0 w.1)

      -- it is visited: what it asks is to be looked at, too
      closed-on : AreClosed r ask (asked_by ask k (plan r k) ++ ks) l
      closed-on y m = by (among-split y (asked_by ask k (plan r k)) ks m)
        where
          right : ((z : Key) → IsAmong z (asked_by ask y (plan r y)) → IsAmong z ks) → (z : Key) → IsAmong z (asked_by ask y (plan r y)) → IsAmong z (asked_by ask k (plan r k) ++ ks)
          right h z i = among_right z (asked_by ask k (plan r k)) ks (h z i)

          at : (k ≡ y) ⊎ IsKnown l y → IsKnown l y ⊎ ((z : Key) → IsAmong z (asked_by ask y (plan r y)) → IsAmong z (asked_by ask k (plan r k) ++ ks))
          at (inl p) = inr (λ z i. among_left z (asked_by ask k (plan r k)) ks (subst (λ v. IsAmong z (asked_by ask v (plan r v))) (sym p) i))
          at (inr w) = inl w

          of : IsKnown ((k, o) ∷ l) y ⊎ ((z : Key) → IsAmong z (asked_by ask y (plan r y)) → IsAmong z ks)
              → IsKnown l y ⊎ ((z : Key) → IsAmong z (asked_by ask y (plan r y)) → IsAmong z (asked_by ask k (plan r k) ++ ks))
          of (inl w) = at (other y w (bool-case (key_eq k y)))
          of (inr h) = inr (right h)

          by : IsAmong y (asked_by ask k (plan r k)) ⊎ IsAmong y ks → IsKnown l y ⊎ ((z : Key) → IsAmong z (asked_by ask y (plan r y)) → IsAmong z (asked_by ask k (plan r k) ++ ks))
          by (inl i) = inl (a y i)
          by (inr i) = of (c y i)

      visited : is_in k ks ≡ true → Passed r ask l (asked_by ask k (plan r k) ++ ks) (count_from r ask l (asked_by ask k (plan r k) ++ ks))
          → Passed r ask ((k, o) ∷ l) ks (count_from r ask l (asked_by ask k (plan r k) ++ ks) + 1)
      visited t p = record { keys = k ∷ p.keys; apart = (apart-from (bool-case (is_in k p.keys)), p.apart); members = λ j. (to j, from j); count = omega (arith, p.count) }
        where
          apart-from : (is_in k p.keys ≡ true) ⊎ (is_in k p.keys ≡ false) → is_in k p.keys ≡ false
          apart-from (inr f) = f
          apart-from (inl u) = let w = (p.members k).0 (of-in k p.keys u) in none-some e (w.0).1

          to : (j : Key) → IsAmong j (k ∷ p.keys) → IsKnown ((k, o) ∷ l) j × FromAny r ask ks j
          to j (inl q) = subst (λ v. IsKnown ((k, o) ∷ l) v × FromAny r ask ks v) q ((o, at-same l k k o (key_eq-itself k)), (k, of-in k ks t, here))
          to j (inr m) = let w = (p.members j).0 m in (up j w.0, on w.1)
            where
              on : FromAny r ask (asked_by ask k (plan r k) ++ ks) j → FromAny r ask ks j
              on (y, i, f) = by (among-split y (asked_by ask k (plan r k)) ks i)
                where
                  by : IsAmong y (asked_by ask k (plan r k)) ⊎ IsAmong y ks → FromAny r ask ks j
                  by (inl z) = (k, of-in k ks t, there z f)
                  by (inr z) = (y, z, f)

          from : (j : Key) → IsKnown ((k, o) ∷ l) j × FromAny r ask ks j → IsAmong j (k ∷ p.keys)
          from j w = by (other j w.0 (bool-case (key_eq k j)))
            where
              by : (k ≡ j) ⊎ IsKnown l j → IsAmong j (k ∷ p.keys)
              by (inl q) = inl q
              by (inr v) = inr ((p.members j).1 (v, ((w.1).0, among_right (w.1).0 (asked_by ask k (plan r k)) ks (w.1).1, (w.1).2)))

      -- it is not visited
      closed-past : is_in k ks ≡ false → AreClosed r ask ks l
      closed-past n y m = of (c y m)
        where
          at : (k ≡ y) ⊎ IsKnown l y → IsKnown l y ⊎ ((z : Key) → IsAmong z (asked_by ask y (plan r y)) → IsAmong z ks)
          at (inl p) = true_false (in-of k ks (subst (λ v. IsAmong v ks) (sym p) m)) n
          at (inr w) = inl w

          of : IsKnown ((k, o) ∷ l) y ⊎ ((z : Key) → IsAmong z (asked_by ask y (plan r y)) → IsAmong z ks) → IsKnown l y ⊎ ((z : Key) → IsAmong z (asked_by ask y (plan r y)) → IsAmong z ks)
          of (inl w) = at (other y w (bool-case (key_eq k y)))
          of (inr h) = inr h

      past : is_in k ks ≡ false → Passed r ask l ks (count_from r ask l ks) → Passed r ask ((k, o) ∷ l) ks (count_from r ask l ks)
      past n p = record { keys = p.keys; apart = p.apart; members = λ j. (λ m. let w = (p.members j).0 m in (up j w.0, w.1), from j); count = p.count }
        where
          from : (j : Key) → IsKnown ((k, o) ∷ l) j × FromAny r ask ks j → IsAmong j p.keys
          from j (w, (y, m, f)) = by (other j w (bool-case (key_eq k j)))
            where
              by : (k ≡ j) ⊎ IsKnown l j → IsAmong j p.keys
              by (inl q) = absurd (not-from k o s e ks c n m (subst (λ v. From r ask y v) (sym q) f))
              by (inr v) = (p.members j).1 (v, (y, m, f))

      go : (is_in k ks ≡ true) ⊎ (is_in k ks ≡ false) → ((js : List Key) → AreClosed r ask js l → Passed r ask l js (count_from r ask l js))
          → Passed r ask ((k, o) ∷ l) ks (count_from r ask ((k, o) ∷ l) ks)
      go (inl t) i =
          subst (λ b. Passed r ask ((k, o) ∷ l) ks (if b then count_from r ask l (asked_by ask k (plan r k) ++ ks) + 1 else count_from r ask l ks)) (sym t)
          (visited t (i (asked_by ask k (plan r k) ++ ks) closed-on))
      go (inr n) i =
          subst (λ b. Passed r ask ((k, o) ∷ l) ks (if b then count_from r ask l (asked_by ask k (plan r k) ++ ks) + 1 else count_from r ask l ks)) (sym n)
          (past n (i ks (closed-past n)))

-- ---- a root that has an outcome

decided-passes : (s : Kept) (root : Key) → IsSound s → (o : Outcome) → known s.outcomes root ≡ Some o → Counts s root (count_from s.recorded (known s.outcomes) s.outcomes (root ∷ []))
decided-passes s root h o e = record {
  ask = known s.outcomes;
  settles = has o e;
  visited = record { keys = p.keys; apart = p.apart; members = λ j. (λ m. from-root j ((p.members j).0 m).1, λ f. (p.members j).1 (reached j f, (root, inl refl, f))); count = p.count };
}
  where
    first : (y : Key) → IsAmong y (root ∷ []) → IsKnown s.outcomes y
    first y (inl q) = (o, subst (λ v. known s.outcomes v ≡ Some o) q e)
    first y (inr m) = absurd m

    p : Passed s.recorded (known s.outcomes) s.outcomes (root ∷ []) (count_from s.recorded (known s.outcomes) s.outcomes (root ∷ []))
    p = passed s.recorded (known s.outcomes) (in-order s.recorded (known s.outcomes) h.found (λ k u q. q)) (root ∷ []) (λ y m. inl (first y m))

    from-root : (j : Key) → FromAny s.recorded (known s.outcomes) (root ∷ []) j → From s.recorded (known s.outcomes) root j
    from-root j (y, inl q, f) = subst (λ v. From s.recorded (known s.outcomes) v j) (sym q) f
    from-root j (y, inr m, f) = absurd m

    reached : (j : Key) → From s.recorded (known s.outcomes) root j → (u : Outcome) × (known s.outcomes j ≡ Some u)
    reached j f = let d = settled-here s root h (known s.outcomes) (has o e) in from-settled s.recorded (known s.outcomes) d.closed_by f (o, e)

-- ---- a root whose chain closes a loop

last-is : (k root : Key) (later : List Key) → last_of k (later ++ root ∷ []) ≡ root
last-is k root [] = refl
last-is k root (x ∷ xs) = last-is x root xs

-- what one of these asks they ask
all-asked : (r : Record) (ask : Ask) (xs : List Key) (x y : Key) → IsAmong x xs → IsAmong y (asked_by ask x (plan r x)) → IsAmong y (asked_by_all r ask xs)
all-asked r ask [] x y m i = absurd m
all-asked r ask (k ∷ ks) x y (inl q) i = among_left y (asked_by ask k (plan r k)) (asked_by_all r ask ks) (subst (λ v. IsAmong y (asked_by ask v (plan r v))) (sym q) i)
all-asked r ask (k ∷ ks) x y (inr m) i = among_right y (asked_by ask k (plan r k)) (asked_by_all r ask ks) (all-asked r ask ks x y m i)

-- what they ask one of them asks
asked-of-all : (r : Record) (ask : Ask) (xs : List Key) (y : Key) → IsAmong y (asked_by_all r ask xs) → (x : Key) × IsAmong x xs × IsAmong y (asked_by ask x (plan r x))
asked-of-all r ask [] y m = absurd m
asked-of-all r ask (k ∷ ks) y m = go (among-split y (asked_by ask k (plan r k)) (asked_by_all r ask ks) m) (asked-of-all r ask ks y)
  where
    go : IsAmong y (asked_by ask k (plan r k)) ⊎ IsAmong y (asked_by_all r ask ks) → (IsAmong y (asked_by_all r ask ks) → (x : Key) × IsAmong x ks × IsAmong y (asked_by ask x (plan r x)))
        → (x : Key) × IsAmong x (k ∷ ks) × IsAmong y (asked_by ask x (plan r x))
    go (inl i) h = (k, inl refl, i)
    go (inr i) h = let w = h i in (w.0, inr w.1, w.2)

module _ (s : Kept) (root : Key) (h : IsSound s) (xs : List Key) (j : Key) (c : ClosesLoop s root xs j) where
  d : Settled s.recorded (looped xs j (known s.outcomes)) root
  d = settled-here s root h (looped xs j (known s.outcomes)) (comes_to_loop xs j c)

  on-chain : (x : Key) → is_in x xs ≡ true → looped xs j (known s.outcomes) x ≡ Some (Loop j)
  on-chain x t = ap (λ b. if b then Some (Loop j) else known s.outcomes x) t

  beside : (x : Key) → is_in x xs ≡ false → looped xs j (known s.outcomes) x ≡ known s.outcomes x
  beside x t = ap (λ b. if b then Some (Loop j) else known s.outcomes x) t

  -- what is known is of no key of the chain
  off-chain : (x : Key) (o : Outcome) → known s.outcomes x ≡ Some o → is_in x xs ≡ false
  off-chain x o e = off s.recorded s.outcomes c.next xs h.found c.chain c.closes x o e

  knows : Knows (known s.outcomes) (looped xs j (known s.outcomes))
  knows x o e = beside x (off-chain x o e) ∙ e

  -- each key that has an outcome is of the chain, or the outcome is kept
  either : (x : Key) (o : Outcome) → looped xs j (known s.outcomes) x ≡ Some o → IsAmong x xs ⊎ IsKnown s.outcomes x
  either x o e = go (bool-case (is_in x xs))
    where
      go : (is_in x xs ≡ true) ⊎ (is_in x xs ≡ false) → IsAmong x xs ⊎ IsKnown s.outcomes x
      go (inl t) = inl (of-in x xs t)
      go (inr f) = inr (o, sym (beside x f) ∙ e)

  from-root : (x : Key) → IsAmong x xs → From s.recorded (looped xs j (known s.outcomes)) root x
  from-root x m =
      subst (λ v. From s.recorded (looped xs j (known s.outcomes)) v x) (ap (last_of c.next) c.root_is ∙ last-is c.next root c.later)
      (chain-among s.recorded (known s.outcomes) (looped xs j (known s.outcomes)) knows c.next xs c.chain x (inr m))

  asked-closed : AreClosed s.recorded (looped xs j (known s.outcomes)) (asked_by_all s.recorded (looped xs j (known s.outcomes)) xs) s.outcomes
  asked-closed y m =
      let w = asked-of-all s.recorded (looped xs j (known s.outcomes)) xs y m in
      let o = from-settled s.recorded (looped xs j (known s.outcomes)) d.closed_by (there w.2 here) (Loop j, on-chain w.0 (in-of w.0 xs w.1)) in
      go (either y o.0 o.1)
    where
      go : IsAmong y xs ⊎ IsKnown s.outcomes y
          → IsKnown s.outcomes y
          ⊎ ((z : Key) → IsAmong z (asked_by (looped xs j (known s.outcomes)) y (plan s.recorded y)) → IsAmong z (asked_by_all s.recorded (looped xs j (known s.outcomes)) xs))
      go (inl i) = inr (λ z q. all-asked s.recorded (looped xs j (known s.outcomes)) xs y z i q)
      go (inr k) = inl k

  p : Passed s.recorded (looped xs j (known s.outcomes)) s.outcomes (asked_by_all s.recorded (looped xs j (known s.outcomes)) xs)
      (count_from s.recorded (looped xs j (known s.outcomes)) s.outcomes (asked_by_all s.recorded (looped xs j (known s.outcomes)) xs))
  p =
      passed s.recorded (looped xs j (known s.outcomes)) (in-order s.recorded (looped xs j (known s.outcomes)) h.found knows)
      (asked_by_all s.recorded (looped xs j (known s.outcomes)) xs) asked-closed

  chain-apart : (x : Key) → IsAmong x xs → is_in x p.keys ≡ false
  chain-apart x m = go (bool-case (is_in x p.keys))
    where
      go : (is_in x p.keys ≡ true) ⊎ (is_in x p.keys ≡ false) → is_in x p.keys ≡ false
      go (inr f) = f
      go (inl t) = let w = (p.members x).0 (of-in x p.keys t) in true_false (in-of x xs m) (off-chain x (w.0).0 (w.0).1)

  to : (x : Key) → IsAmong x xs ⊎ IsAmong x p.keys → From s.recorded (looped xs j (known s.outcomes)) root x
  to x (inl m) = from-root x m
  to x (inr m) =
      let w = ((p.members x).0 m).1 in
      let v = asked-of-all s.recorded (looped xs j (known s.outcomes)) xs w.0 w.1 in
      from-joined s.recorded (looped xs j (known s.outcomes)) (from-root v.0 v.1) (there v.2 w.2)

  from-chain : (x y : Key) → IsAmong y xs → From s.recorded (looped xs j (known s.outcomes)) y x → IsAmong x xs ⊎ FromAny s.recorded (looped xs j (known s.outcomes)) (asked_by_all s.recorded (looped xs j (known s.outcomes)) xs) x
  from-chain x y m here = inl m
  from-chain x y m (there {y = z} i f) = inr (z, all-asked s.recorded (looped xs j (known s.outcomes)) xs y z m i, f)

  from : (x : Key) → From s.recorded (looped xs j (known s.outcomes)) root x → IsAmong x (xs ++ p.keys)
  from x f = by (either x o.0 o.1) (from-chain x root (root-among s root xs j c) f)
    where
      o : (u : Outcome) × (looped xs j (known s.outcomes) x ≡ Some u)
      o = from-settled s.recorded (looped xs j (known s.outcomes)) d.closed_by f (d.outcome, d.decides)

      by : IsAmong x xs ⊎ IsKnown s.outcomes x
          → IsAmong x xs ⊎ FromAny s.recorded (looped xs j (known s.outcomes)) (asked_by_all s.recorded (looped xs j (known s.outcomes)) xs) x → IsAmong x (xs ++ p.keys)
      by (inl m) q = among_left x xs p.keys m
      by (inr k) (inl m) = among_left x xs p.keys m
      by (inr k) (inr w) = among_right x xs p.keys ((p.members x).1 (k, w))

  loop-passes : Counts s root (length xs + count_from s.recorded (looped xs j (known s.outcomes)) s.outcomes (asked_by_all s.recorded (looped xs j (known s.outcomes)) xs))
  loop-passes = record {
    ask = looped xs j (known s.outcomes);
    settles = comes_to_loop xs j c;
    visited = record {
      keys = xs ++ p.keys;
      apart = both-apart xs p.keys c.apart p.apart chain-apart;
      members = λ x. (λ m. to x (among-split x xs p.keys m), from x);
      count = omega (arith, p.count, length-append xs p.keys);
    };
  }

pub passes_count : PassesCount
passes_count s root h = (decided-passes s root h, λ xs j c. loop-passes s root h xs j c)
