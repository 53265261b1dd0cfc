-- A chain that meets itself comes to the loop that is so closed.
use Rattle.std.specs.Prelude.{◌≡◌, ◌⊎◌, ℕ, zero, Bool, true, false, if◌then◌else◌, List, [], ◌∷◌, Option, Some, None, refl}
use Rattle.std.proofs.Common.{ap, sym, ◌∙◌, subst, inl, inr}
use Rattle.dh_syntax.specs.declared.locations.Key.{Key}
use Rattle.dh_syntax.specs.Imports.Keys.{key_eq}
use Rattle.dh_imports.specs.Machine.{IsAmong, Blocks, LeastOfLoop}
use Rattle.dh_imports.specs.Outcomes.{Outcome, Loop}
use Rattle.dh_imports.specs.Records.{Record}
use Rattle.dh_imports.specs.Resolver.{Meets, Waits, stage, ended, is_in, least_back_to, resolve}
use Rattle.dh_imports.specs.Walk.{Ask}
use Rattle.dh_laws.proofs.KeyOrder.{bool-case, none-some, some-equal, key_eq-itself}
use Rattle.dh_import_laws.proofs.Walks.{Knows}
use Rattle.dh_import_laws.proofs.Grow.{longer-itself, OnWait, StageGrown, stage-grown}
use Rattle.dh_import_laws.proofs.Graph.{Way, Trail, begins, follows, Lasso, one_more, joined, ring-found}
use Rattle.dh_import_laws.proofs.Graph as graph
use Rattle.dh_import_laws.proofs.Calm.{waits-equal, at-same, at-other, at-grown}
use Rattle.dh_import_laws.proofs.Sound.{Log, fin, cyc, decided_all}
use Rattle.dh_watch_laws.specs.Kept.{Outcomes, known, Found}
use Rattle.dh_watch_laws.specs.Sweeping.{is_due}
use Rattle.dh_watch_laws.specs.Visiting.{IsClosed, AreThese, Chain, ends, waits, looped, VisitsLoop}
use Rattle.dh_watch_laws.proofs.Holding.{log-of}
use Rattle.dh_watch_laws.proofs.Needing.{of-in, in-of}
use Rattle.dh_watch_laws.proofs.Sweeping.{due-grown}
use Rattle.dh_watch_laws.proofs.Visiting.{visits, found-closed}

module _ (r : Record) (ask : Ask) where
  abbrev To : Key → Key → Type 0
  To x y = Blocks r ask x y

  trail : {k : Key} {xs : List Key} → Chain r ask k xs → Trail (Blocks r ask) k xs
  trail ends = begins
  trail (waits b c) = follows b (trail c)

  -- each key of a chain leads to its end
  trail-way : (k : Key) (xs : List Key) (x : Key) → Chain r ask k xs → IsAmong x xs → Way (Blocks r ask) x k
  trail-way k [] x c m = absurd m
  trail-way k (z ∷ zs) x (waits b c) (inl p) = subst (λ v. Way (Blocks r ask) v k) p (graph.there b graph.here)
  trail-way k (z ∷ zs) x (waits b c) (inr m) = one_more (Blocks r ask) (trail-way z zs x c m) b

  -- each key of a chain waits for one of it, or for its end
  chain-next : (k : Key) (xs : List Key) (x : Key) → Chain r ask k xs → IsAmong x xs → (y : Key) × Blocks r ask x y × ((y ≡ k) ⊎ IsAmong y xs)
  chain-next k [] x c m = absurd m
  chain-next k (z ∷ zs) x (waits b c) (inl p) = (k, subst (λ v. Blocks r ask v k) p b, inl refl)
  chain-next k (z ∷ zs) x (waits b c) (inr m) = let n = chain-next z zs x c m in (n.0, n.1, go n.0 n.2)
    where
      go : (y : Key) → (y ≡ z) ⊎ IsAmong y zs → (y ≡ k) ⊎ IsAmong y (z ∷ zs)
      go y (inl p) = inr (inl (sym p))
      go y (inr m) = inr (inr m)

  one_next : (x y z : Key) → Blocks r ask x y → Blocks r ask x z → y ≡ z
  one_next x y z a b = waits-equal (sym a.1 ∙ b.1)

-- ---- outcomes that grew by this loop alone

record Grew (r : Record) (l : Outcomes) (j : Key) (l' : Outcomes) : Type 0 where
  log : Log r l'
  knows : Knows (known l) (known l')
  only : (x : Key) (o : Outcome) → known l' x ≡ Some o → (known l x ≡ Some o) ⊎ (o ≡ Loop j)

module _ (r : Record) (l : Outcomes) (j : Key) where
  -- one more key comes to the loop
  one : (l' : Outcomes) (k : Key) → Grew r l j l' → known l' k ≡ None → Log r ((k, Loop j) ∷ l') → Grew r l j ((k, Loop j) ∷ l')
  one l' k g e log = record {
    log = log;
    knows = λ x o h. at-grown l' k (Loop j) e x o (g.knows x o h);
    only = λ x o h. go x o h (bool-case (key_eq k x));
  }
    where
      go : (x : Key) (o : Outcome) → known ((k, Loop j) ∷ l') x ≡ Some o → (key_eq k x ≡ true) ⊎ (key_eq k x ≡ false) → (known l x ≡ Some o) ⊎ (o ≡ Loop j)
      go x o h (inl t) = inr (sym (some-equal (sym (at-same l' k x (Loop j) t) ∙ h)))
      go x o h (inr t) = g.only x o (sym (at-other l' k x (Loop j) t) ∙ h)

  -- what comes to it stays with it
  abbrev Comes : List Key → Type 0
  Comes ks = (l' : Outcomes) × Grew r l j l' × ((x : Key) → IsAmong x ks → known l' x ≡ Some (Loop j))

  -- a key that waits by the outcomes of the beginning, for one that comes to the loop
  step : (l' : Outcomes) → Grew r l j l' → (x y : Key) → Blocks r (known l) x y → known l' y ≡ Some (Loop j)
      → (l'' : Outcomes) × Grew r l j l'' × Knows (known l') (known l'') × (known l'' x ≡ Some (Loop j))
  step l' g x y b e = go (known l' x) refl
    where
      meets : stage r (known l') x ≡ Meets j
      meets =
          let s : StageGrown (known l') (Waits y) (stage r (known l') x) = subst (λ z. StageGrown (known l') z (stage r (known l') x)) b.1 (stage-grown r r (longer-itself r) (known l) (known l') g.knows x) in
          subst (OnWait y (stage r (known l') x)) e s

      is_loop : (o : Outcome) → known l' x ≡ Some o → (known l x ≡ Some o) ⊎ (o ≡ Loop j) → known l' x ≡ Some (Loop j)
      is_loop o q (inl p) = none-some b.0 p
      is_loop o q (inr p) = q ∙ ap (λ z. Some z) p

      go : (o : Option Outcome) → known l' x ≡ o → (l'' : Outcomes) × Grew r l j l'' × Knows (known l') (known l'') × (known l'' x ≡ Some (Loop j))
      go (Some o) q = (l', g, λ k p h. h, is_loop o q (g.only x o q))
      go None q =
          ((x, Loop j) ∷ l', one l' x g q (fin g.log q zero (ap (λ s. ended r zero x s) meets)), at-grown l' x (Loop j) q, at-same l' x x (Loop j) (key_eq-itself x))

  -- along a way
  along : (l' : Outcomes) → Grew r l j l' → known l' j ≡ Some (Loop j) → (x z : Key) → z ≡ j → Way (Blocks r (known l)) x z
      → (l'' : Outcomes) × Grew r l j l'' × Knows (known l') (known l'') × (known l'' x ≡ Some (Loop j))
  along l' g e x z p graph.here = (l', g, λ k o h. h, ap (known l') p ∙ e)
  along l' g e x z p (graph.there {y = y} b w) =
      let a = along l' g e y z p w in
      let s = step a.0 a.1 x y b a.3 in
      (s.0, s.1, λ k o h. s.2 k o (a.2 k o h), s.3)

  all-along : (l' : Outcomes) → Grew r l j l' → known l' j ≡ Some (Loop j) → (ks : List Key) → ((x : Key) → IsAmong x ks → Way (Blocks r (known l)) x j)
      → (l'' : Outcomes) × Grew r l j l'' × Knows (known l') (known l'') × ((x : Key) → IsAmong x ks → known l'' x ≡ Some (Loop j))
  all-along l' g e [] w = (l', g, λ k o h. h, λ x m. absurd m)
  all-along l' g e (k ∷ ks) w =
      let a = all-along l' g e ks (λ x m. w x (inr m)) in
      let s = along a.0 a.1 (a.2 j (Loop j) e) k j refl (w k (inl refl)) in
      (s.0, s.1, λ x o h. s.2 x o (a.2 x o h), λ x m. each a.0 a.3 s.0 s.2 s.3 x m)
    where
      each : (a : Outcomes) → ((x : Key) → IsAmong x ks → known a x ≡ Some (Loop j)) → (b : Outcomes) → Knows (known a) (known b) → known b k ≡ Some (Loop j)
          → (x : Key) → IsAmong x (k ∷ ks) → known b x ≡ Some (Loop j)
      each a f b h e x (inl p) = subst (λ z. known b z ≡ Some (Loop j)) p e
      each a f b h e x (inr m) = h x (Loop j) (f x m)

-- ---- the law

either : (b : Bool) (x y z : Option Outcome) → b ≡ true → (if b then x else y) ≡ x
either b x y z h = ap (λ c. if c then x else y) h

module _ (r : Record) (l : Outcomes) (k : Key) (xs : List Key) (f : Found r l) (c : Chain r (known l) k xs) (i : is_in k xs ≡ true) where
  least : Key
  least = least_back_to k xs

  lasso : Lasso (Blocks r (known l)) k (least_back_to k xs)
  lasso = ring-found (Blocks r (known l)) (one_next r (known l)) k xs (trail r (known l) c) i

  loop : LeastOfLoop r (known l) (least_back_to k xs)
  loop = (lasso.next, lasso.step, lasso.ring)

  ways : (x : Key) → IsAmong x xs → Way (Blocks r (known l)) x (least_back_to k xs)
  ways x m = joined (Blocks r (known l)) (trail-way r (known l) k xs x c m) lasso.way

  marked : (l'' : Outcomes) × Grew r l (least_back_to k xs) l'' × Knows (known ((least_back_to k xs, Loop (least_back_to k xs)) ∷ l)) (known l'')
      × ((x : Key) → IsAmong x xs → known l'' x ≡ Some (Loop (least_back_to k xs)))
  marked =
      let j = least_back_to k xs in
      let g : Grew r l j l = record { log = log-of r f; knows = λ x o h. h; only = λ x o h. inl h } in
      all-along r l j ((j, Loop j) ∷ l) (one r l j l j g lasso.step.0 (cyc (log-of r f) loop)) (at-same l j j (Loop j) (key_eq-itself j)) xs ways

  pub in-loop : (x : Key) → is_in x xs ≡ true → looped xs (least_back_to k xs) (known l) x ≡ Some (Loop (least_back_to k xs))
  in-loop x t = ap (λ b. if b then Some (Loop (least_back_to k xs)) else known l x) t

  off-loop : (x : Key) → is_in x xs ≡ false → looped xs (least_back_to k xs) (known l) x ≡ known l x
  off-loop x t = ap (λ b. if b then Some (Loop (least_back_to k xs)) else known l x) t

  -- what is known is of no key of the chain
  pub off : (x : Key) (o : Outcome) → known l x ≡ Some o → is_in x xs ≡ false
  off x o h = go (bool-case (is_in x xs))
    where
      go : (is_in x xs ≡ true) ⊎ (is_in x xs ≡ false) → is_in x xs ≡ false
      go (inr t) = t
      go (inl t) = let n = chain-next r (known l) k xs x c (of-in x xs t) in none-some (n.1).0 h

  pub loop-more : Knows (known l) (looped xs (least_back_to k xs) (known l))
  loop-more x o h = off-loop x (off x o h) ∙ h

  these : (n : ℕ) × AreThese r (looped xs (least_back_to k xs) (known l)) n
  these = let m = marked in let d = decided_all r (m.1).log in (d.0, λ x o h. go m.0 (m.1).knows m.3 d.0 d.1 x o h (bool-case (is_in x xs)))
    where
      go : (l' : Outcomes) → Knows (known l) (known l') → ((x : Key) → IsAmong x xs → known l' x ≡ Some (Loop (least_back_to k xs)))
          → (n : ℕ) → Knows (known l') (resolve r n []) → (x : Key) (o : Outcome) → looped xs (least_back_to k xs) (known l) x ≡ Some o
          → (is_in x xs ≡ true) ⊎ (is_in x xs ≡ false) → resolve r n [] x ≡ Some o
      go l' a b n d x o h (inl t) = d x o (b x (of-in x xs t) ∙ sym (in-loop x t) ∙ h)
      go l' a b n d x o h (inr t) = d x o (a x o (sym (off-loop x t) ∙ h))

  pub closed : IsClosed r (looped xs (least_back_to k xs) (known l))
  closed x o h = go (bool-case (is_in x xs))
    where
      next-in : (y : Key) → (y ≡ k) ⊎ IsAmong y xs → is_in y xs ≡ true
      next-in y (inl p) = subst (λ z. is_in z xs ≡ true) (sym p) i
      next-in y (inr m) = in-of y xs m

      go : (is_in x xs ≡ true) ⊎ (is_in x xs ≡ false) → is_due (stage r (looped xs (least_back_to k xs) (known l)) x) ≡ true
      go (inr t) =
          let e : known l x ≡ Some o = sym (off-loop x t) ∙ h in
          ap is_due (due-grown r r (longer-itself r) (known l) (looped xs (least_back_to k xs) (known l)) loop-more x (stage r (known l) x) (found-closed r f x o e) refl)
          ∙ found-closed r f x o e
      go (inl t) =
          let ask = looped xs (least_back_to k xs) (known l) in
          let n = chain-next r (known l) k xs x c (of-in x xs t) in
          let s : StageGrown ask (Waits n.0) (stage r ask x) = subst (λ z. StageGrown ask z (stage r ask x)) (n.1).1 (stage-grown r r (longer-itself r) (known l) ask loop-more x) in
          let m : stage r ask x ≡ Meets (least_back_to k xs) = subst (OnWait n.0 (stage r ask x)) (in-loop n.0 (next-in n.0 n.2)) s in
          ap is_due m

pub visits_loop : VisitsLoop
visits_loop r l k xs x f c i t =
    let n = these r l k xs f c i in
    visits r (looped xs (least_back_to k xs) (known l)) (closed r l k xs f c i) x (Loop (least_back_to k xs)) (in-loop r l k xs f c i x t) n.0 n.1
