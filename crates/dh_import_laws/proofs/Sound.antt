-- Outcomes that came one after the other, each justified by the earlier ones, are those of the resolver.
use Rattle.std.specs.Prelude.{◌≡◌, ◌⊎◌, ℕ, zero, suc, Bool, true, false, ◌||◌, if◌then◌else◌, List, [], ◌∷◌, Option, Some, None, refl}
use Rattle.std.proofs.Common.{ap, sym, ◌∙◌, subst, inl, inr}
use Rattle.dh_syntax.specs.declared.locations.Key.{Key}
use Rattle.dh_syntax.specs.Expressions.Tree.{Term}
use Rattle.dh_syntax.specs.Imports.Keys.{key_eq}
use Rattle.dh_imports.specs.Machine.{Blocks, Ring, closes, goes, LeastOfLoop}
use Rattle.dh_imports.specs.Outcomes.{Outcome, Good, Bad, Loop}
use Rattle.dh_imports.specs.Records.{Record}
use Rattle.dh_imports.specs.Resolver.{Meets, Waits, stage, ended, is_in, resolve, Resolves}
use Rattle.dh_imports.specs.Walk.{Ask, walk}
use Rattle.dh_laws.proofs.KeyOrder.{bool-case, true_false, none-some, key_eq-true, key_eq-itself}
use Rattle.dh_import_laws.proofs.Walks.{Knows, Grown, walk-grown}
use Rattle.dh_import_laws.proofs.Grow.{longer-itself, OnWait, StageGrown, stage-grown, stage-told, StageTold, plus, rises-plus, rises-plus_left, ended-rises, ended-grown, resolve-rises}
use Rattle.dh_import_laws.proofs.Graph.{Way, here, there, Trail, begins, follows, Lasso, or-split, met}
use Rattle.dh_import_laws.proofs.Calm.{Outcomes, at, IsCalm, calm_loop, loops-equal, quiet, waits-equal, at-same, at-other, calmed, calm, calmed-some, calmed-calm, calmed-itself, calm-none, calm-grown, calm-steady, calm-ended, calm-waits, calm-meets}

-- outcomes, the latest first, each justified by the earlier ones
pub data Log (r : Record) : Outcomes → Type 0 where
  start : Log r []
  fin : {l : Outcomes} {k : Key} {o : Outcome} → Log r l → at l k ≡ None → (n : ℕ) → ended r n k (stage r (at l) k) ≡ Some o → Log r ((k, o) ∷ l)
  cyc : {l : Outcomes} {k : Key} → Log r l → LeastOfLoop r (at l) k → Log r ((k, Loop k) ∷ l)

outcome-case : (o : Outcome) → IsCalm (Some o) ⊎ ((j : Key) × (o ≡ Loop j))
outcome-case (Good v c) = inl tt
outcome-case (Bad b) = inl tt
outcome-case (Loop j) = inr (j, refl)

none-case : (x : Option Outcome) → (x ≡ None) ⊎ ((o : Outcome) × (x ≡ Some o))
none-case None = inl refl
none-case (Some o) = inr (o, refl)

-- ---- calm outcomes: no chain that holds none of them changes them

abbrev pub Off : Outcomes → List Key → Type 0
Off l cs = (c : Key) → is_in c cs ≡ true → calm l c ≡ None

abbrev Settled : Record → Outcomes → Type 0
Settled r l = (m : ℕ) × ((cs : List Key) → Off l cs → Knows (calm l) (resolve r m cs))

resolves-plus : (r : Record) (x m : ℕ) (cs : List Key) (k : Key) (o : Outcome) → resolve r m cs k ≡ Some o → resolve r (plus x m) cs k ≡ Some o
resolves-plus r x m cs k o h = rises-plus (λ n. resolve r n cs k) (λ n p e. resolve-rises r n cs k p e) x m o h

either-false : (b : Bool) (x y : Option Outcome) (o : Outcome) → b ≡ false → y ≡ Some o → (if b then x else y) ≡ Some o
either-false b x y o h e = subst (λ c. (if c then x else y) ≡ Some o) (sym h) e

either-true : (b : Bool) (x y : Option Outcome) (o : Outcome) → b ≡ true → x ≡ Some o → (if b then x else y) ≡ Some o
either-true b x y o h e = subst (λ c. (if c then x else y) ≡ Some o) (sym h) e

-- the resolver ends a key that has an outcome by what its chain knows
ends : (r : Record) (less : Ask) (n m : ℕ) (cs : List Key) (k : Key) (o : Outcome) → is_in k cs ≡ false → Knows less (resolve r (plus n m) (k ∷ cs))
    → ended r n k (stage r less k) ≡ Some o → resolve r (suc (plus n m)) cs k ≡ Some o
ends r less n m cs k o f h e =
    let more = resolve r (plus n m) (k ∷ cs) in
    either-false (is_in k cs) _ _ o f
    (rises-plus_left (λ x. ended r x k (stage r more k)) (ended-rises r k (stage r more k)) n m o
    (ended-grown r n k more (stage r less k) (stage r more k) o (stage-grown r r (longer-itself r) less more h k) e))

off-less : (l : Outcomes) (k : Key) (o : Outcome) → at l k ≡ None → (cs : List Key) → Off ((k, o) ∷ l) cs → Off l cs
off-less l k o e cs h c i = go (none-case (calm l c))
  where
    go : (calm l c ≡ None) ⊎ ((p : Outcome) × (calm l c ≡ Some p)) → calm l c ≡ None
    go (inl n) = n
    go (inr s) = none-some (h c i) (calm-grown l k o e c s.0 s.1)

off-more : (l : Outcomes) (k : Key) (cs : List Key) → calm l k ≡ None → Off l cs → Off l (k ∷ cs)
off-more l k cs e h c i = go (or-split (key_eq k c) (is_in c cs) i)
  where
    go : (key_eq k c ≡ true) ⊎ ((key_eq k c ≡ false) × (is_in c cs ≡ true)) → calm l c ≡ None
    go (inl t) = subst (λ x. calm l x ≡ None) (key_eq-true k c t) e
    go (inr f) = h c f.1

settled_fin : (r : Record) (l : Outcomes) (k : Key) (o : Outcome) (n : ℕ) → at l k ≡ None → ended r n k (stage r (at l) k) ≡ Some o → Settled r l → Settled r ((k, o) ∷ l)
settled_fin r l k o n e h (m, f) = (suc (plus n m), λ cs off x p q. go cs off x p q (bool-case (key_eq k x)))
  where
    known : (cs : List Key) → Off l cs → Knows (calm l) (resolve r (plus n m) (k ∷ cs))
    known cs off x p q = resolves-plus r n m (k ∷ cs) x p (f (k ∷ cs) (off-more l k cs (calm-none l k e) off) x p q)

    outside : (cs : List Key) → Off ((k, o) ∷ l) cs → IsCalm (Some o) → is_in k cs ≡ false
    outside cs off c = by (bool-case (is_in k cs))
      where
        by : (is_in k cs ≡ true) ⊎ (is_in k cs ≡ false) → is_in k cs ≡ false
        by (inl t) = none-some (off k t) (ap calmed (at-same l k k o (key_eq-itself k)) ∙ calmed-itself o c)
        by (inr f) = f

    go : (cs : List Key) → Off ((k, o) ∷ l) cs → (x : Key) (p : Outcome) → calm ((k, o) ∷ l) x ≡ Some p → (key_eq k x ≡ true) ⊎ (key_eq k x ≡ false) → resolve r (suc (plus n m)) cs x ≡ Some p
    go cs off x p q (inr t) = resolves-plus r (suc n) m cs x p (f cs (off-less l k o e cs off) x p (sym (ap calmed (at-other l k x o t)) ∙ q))
    go cs off x p q (inl t) =
        let same : Some o ≡ Some p = sym (at-same l k x o t) ∙ calmed-some (at ((k, o) ∷ l) x) p q in
        let c : IsCalm (Some o) = subst IsCalm (sym (ap calmed (at-same l k x o t)) ∙ q ∙ sym same) (calmed-calm (Some o)) in
        subst (λ z. resolve r (suc (plus n m)) cs z ≡ Some p) (key_eq-true k x t)
        (ends r (calm l) n m cs k o (outside cs off c) (known cs (off-less l k o e cs off)) (calm-ended r l n k o c h) ∙ same)

settled_loop : (r : Record) (l : Outcomes) (k j : Key) → at l k ≡ None → Settled r l → Settled r ((k, Loop j) ∷ l)
settled_loop r l k j e (m, f) =
    subst (λ a. (n : ℕ) × ((cs : List Key) → ((c : Key) → is_in c cs ≡ true → a c ≡ None) → Knows a (resolve r n cs))) (sym (calm-steady l k j e)) (m, f)

settled : (r : Record) {l : Outcomes} → Log r l → Settled r l
settled r start = (zero, λ cs off k o h. none-some refl h)
settled r (fin {l = l} {k = k} {o = o} log e n h) = settled_fin r l k o n e h (settled r log)
settled r (cyc {l = l} {k = k} log (y, b, ring)) = settled_loop r l k k b.0 (settled r log)

-- ---- loops: each key of a loop waits for the next by the calm outcomes

abbrev pub Edge : Record → Outcomes → Key → Key → Type 0
Edge r l x y = Blocks r (calm l) x y

edge-one : (r : Record) (ask : Ask) (x y z : Key) → Blocks r ask x y → Blocks r ask x z → y ≡ z
edge-one r ask x y z a b = waits-equal (sym a.1 ∙ b.1)

edge-undecided : (r : Record) (l : Outcomes) (x y : Key) → Edge r l x y → calm l y ≡ None
edge-undecided r l x y e = subst (λ s. StageTold r (calm l) x s) e.1 (stage-told r (calm l) x)

pub blocks-edge : (r : Record) (l : Outcomes) (x y : Key) → Blocks r (at l) x y → Edge r l x y
blocks-edge r l x y b = (calm-none l x b.0, calm-waits r l x y b.1)

ring-edges : (r : Record) (l : Outcomes) (j x : Key) → Ring (Blocks r (at l)) j x → Ring (Edge r l) j x
ring-edges r l j x closes = closes
ring-edges r l j x (goes {y = y} b i q) = goes (blocks-edge r l x y b) i (ring-edges r l j y q)

-- a key that waits
abbrev Waiting : Record → Outcomes → Key → Type 0
Waiting r l x = (y : Key) × Edge r l x y

module _ (r : Record) (l : Outcomes) (k : Key) (o : Outcome) (n : ℕ) (e : at l k ≡ None) (c : IsCalm (Some o)) (h : ended r n k (stage r (at l) k) ≡ Some o) where
  -- a key that waits gets no calm outcome
  other_waits : (x : Key) → Waiting r l x → key_eq k x ≡ false
  other_waits x (y, b) = go (bool-case (key_eq k x))
    where
      go : (key_eq k x ≡ true) ⊎ (key_eq k x ≡ false) → key_eq k x ≡ false
      go (inr f) = f
      go (inl t) =
          let w : stage r (calm l) k ≡ Waits y = subst (λ z. stage r (calm l) z ≡ Waits y) (sym (key_eq-true k x t)) b.1 in
          none-some refl (subst (λ s. ended r n k s ≡ Some o) w (calm-ended r l n k o c h))

  still : (x : Key) → Waiting r l x → calm l x ≡ None → calm ((k, o) ∷ l) x ≡ None
  still x w u = ap calmed (at-other l k x o (other_waits x w)) ∙ u

  edge-kept : (x y : Key) → Edge r l x y → Waiting r l y → Edge r ((k, o) ∷ l) x y
  edge-kept x y b w =
      let l' = (k, o) ∷ l in
      let g : StageGrown (calm l') (Waits y) (stage r (calm l') x) =
      subst (λ s. StageGrown (calm l') s (stage r (calm l') x)) b.1 (stage-grown r r (longer-itself r) (calm l) (calm l') (calm-grown l k o e) x) in
      (still x (y, b) b.0, subst (λ a. OnWait y (stage r (calm l') x) a) (still y w (edge-undecided r l x y b)) g)

  way-waits : {x y : Key} → Way (Edge r l) x y → Waiting r l y → Waiting r l x
  way-waits here w = w
  way-waits (there {y = y} b v) w = (y, b)

  way-kept : {x y : Key} → Way (Edge r l) x y → Waiting r l y → Way (Edge r ((k, o) ∷ l)) x y
  way-kept here w = here
  way-kept (there {x = x} {y = y} b v) w = there (edge-kept x y b (way-waits v w)) (way-kept v w)

  ring-waits : {j x : Key} → Ring (Edge r l) j x → Waiting r l j → Waiting r l x
  ring-waits closes w = w
  ring-waits (goes {y = y} b i q) w = (y, b)

  ring-kept : {j x : Key} → Ring (Edge r l) j x → Waiting r l j → Ring (Edge r ((k, o) ∷ l)) j x
  ring-kept closes w = closes
  ring-kept (goes {x = x} {y = y} b i q) w = goes (edge-kept x y b (ring-waits q w)) i (ring-kept q w)

  lasso-kept : (x j : Key) → Lasso (Edge r l) x j → Lasso (Edge r ((k, o) ∷ l)) x j
  lasso-kept x j lasso =
      let w : Waiting r l j = (lasso.next, lasso.step) in
      record { way = way-kept lasso.way w; next = lasso.next; step = edge-kept j lasso.next lasso.step (ring-waits lasso.ring w); ring = ring-kept lasso.ring w }

lasso-steady : (r : Record) (l : Outcomes) (k i x j : Key) → at l k ≡ None → Lasso (Edge r l) x j → Lasso (Edge r ((k, Loop i) ∷ l)) x j
lasso-steady r l k i x j e lasso = subst (λ a. Lasso (Blocks r a) x j) (sym (calm-steady l k i e)) lasso

abbrev Loops : Record → Outcomes → Type 0
Loops r l = (x j : Key) → at l x ≡ Some (Loop j) → Lasso (Edge r l) x j

further : (r : Record) (l : Outcomes) (k y j : Key) → Edge r l k y → Lasso (Edge r l) y j → Lasso (Edge r l) k j
further r l k y j b lasso = record { way = there b lasso.way; next = lasso.next; step = lasso.step; ring = lasso.ring }

looped_fin : (r : Record) (l : Outcomes) (k : Key) (o : Outcome) (n : ℕ) → at l k ≡ None → ended r n k (stage r (at l) k) ≡ Some o → Loops r l
    → IsCalm (Some o) ⊎ ((j : Key) × (o ≡ Loop j)) → Loops r ((k, o) ∷ l)
looped_fin r l k o n e h f (inl c) x j q = go (bool-case (key_eq k x))
  where
    go : (key_eq k x ≡ true) ⊎ (key_eq k x ≡ false) → Lasso (Edge r ((k, o) ∷ l)) x j
    go (inl t) = calm_loop c (sym (at-same l k x o t) ∙ q)
    go (inr t) = lasso-kept r l k o n e c h x j (f x j (sym (at-other l k x o t) ∙ q))
looped_fin r l k o n e h f (inr (i, p)) x j q = subst (λ z. Lasso (Edge r ((k, z) ∷ l)) x j) (sym p) (lasso-steady r l k i x j e (go (bool-case (key_eq k x))))
  where
    go : (key_eq k x ≡ true) ⊎ (key_eq k x ≡ false) → Lasso (Edge r l) x j
    go (inr t) = f x j (sym (at-other l k x o t) ∙ q)
    go (inl t) =
        let m = calm-meets r l k i (quiet r n k (stage r (at l) k) i (h ∙ ap (λ z. Some z) p)) in
        let same : i ≡ j = loops-equal (ap (λ z. Some z) (sym p) ∙ sym (at-same l k x o t) ∙ q) in
        subst (λ z. Lasso (Edge r l) z j) (key_eq-true k x t)
        (subst (λ z. Lasso (Edge r l) k z) same (further r l k m.0 i (calm-none l k e, m.1) (f m.0 i m.2)))

looped_cyc : (r : Record) (l : Outcomes) (k : Key) → LeastOfLoop r (at l) k → Loops r l → Loops r ((k, Loop k) ∷ l)
looped_cyc r l k (y, b, ring) f x j q = lasso-steady r l k k x j b.0 (go (bool-case (key_eq k x)))
  where
    go : (key_eq k x ≡ true) ⊎ (key_eq k x ≡ false) → Lasso (Edge r l) x j
    go (inr t) = f x j (sym (at-other l k x (Loop k) t) ∙ q)
    go (inl t) =
        let same : k ≡ j = loops-equal (sym (at-same l k x (Loop k) t) ∙ q) in
        subst (λ z. Lasso (Edge r l) z j) (key_eq-true k x t)
        (subst (λ z. Lasso (Edge r l) k z) same (record { way = here; next = y; step = blocks-edge r l k y b; ring = ring-edges r l k y ring }))

looped : (r : Record) {l : Outcomes} → Log r l → Loops r l
looped r start = λ x j q. none-some refl q
looped r (fin {l = l} {k = k} {o = o} log e n h) = looped_fin r l k o n e h (looped r log) (outcome-case o)
looped r (cyc {l = l} {k = k} log loop) = looped_cyc r l k loop (looped r log)

-- ---- the resolver along a loop

trail-off : (r : Record) (l : Outcomes) (y : Key) (cs : List Key) → Trail (Edge r l) y cs → Off l cs
trail-off r l y [] t c i = true_false i refl
trail-off r l y (x ∷ cs) (follows e t) c i = off-more l x cs e.0 (trail-off r l x cs t) c i

ring-way : (r : Record) (l : Outcomes) (j x : Key) → Ring (Edge r l) j x → Way (Edge r l) x j
ring-way r l j x closes = here
ring-way r l j x (goes {y = y} e i q) = there e (ring-way r l j y q)

module _ (r : Record) (l : Outcomes) (m : ℕ) (f : (cs : List Key) → Off l cs → Knows (calm l) (resolve r m cs)) where
  -- at a key that stands in its own chain
  turn_met : (n : ℕ) (x j : Key) (cs : List Key) → Trail (Edge r l) x cs → is_in x cs ≡ true → Lasso (Edge r l) x j → resolve r (suc n) cs x ≡ Some (Loop j)
  turn_met n x j cs t i lasso =
      either-true (is_in x cs) _ _ (Loop j) i (ap (λ z. Some (Loop z)) (met (Edge r l) (edge-one r (calm l)) x j cs t i lasso))

  -- at a key that waits for the next
  turn_step : (n : ℕ) (x y j : Key) (cs : List Key) → Edge r l x y → Trail (Edge r l) x cs → is_in x cs ≡ false
      → resolve r (suc (plus n m)) (x ∷ cs) y ≡ Some (Loop j) → resolve r (suc (suc (plus n m))) cs x ≡ Some (Loop j)
  turn_step n x y j cs e t i h =
      let more = resolve r (suc (plus n m)) (x ∷ cs) in
      let known : Knows (calm l) more = λ k o q. resolves-plus r (suc n) m (x ∷ cs) k o (f (x ∷ cs) (off-more l x cs e.0 (trail-off r l x cs t)) k o q) in
      let g : StageGrown more (Waits y) (stage r more x) = subst (λ s. StageGrown more s (stage r more x)) e.1 (stage-grown r r (longer-itself r) (calm l) more known x) in
      let s : stage r more x ≡ Meets j = subst (λ a. OnWait y (stage r more x) a) h g in
      either-false (is_in x cs) _ _ (Loop j) i (ap (λ z. ended r (suc (plus n m)) x z) s)

  module _ (j j' : Key) (step : Edge r l j j') (ring : Ring (Edge r l) j j') where
    lasso_at : (x : Key) → Way (Edge r l) x j → Lasso (Edge r l) x j
    lasso_at x w = record { way = w; next = j'; step = step; ring = ring }

    now_in : (x : Key) (cs : List Key) → is_in x (x ∷ cs) ≡ true
    now_in x cs = subst (λ b. b || is_in x cs ≡ true) (sym (key_eq-itself x)) refl

    still_in : (a b : Bool) → b ≡ true → a || b ≡ true
    still_in true b h = refl
    still_in false b h = h

    ring_turn : (x : Key) (cs : List Key) → Ring (Edge r l) j x → Trail (Edge r l) x cs → is_in j cs ≡ true → (n : ℕ) × (resolve r (suc (plus n m)) cs x ≡ Some (Loop j))
    ring_turn x cs closes t i = (zero, turn_met m j j cs t i (lasso_at j here))
    ring_turn x cs (goes {y = y} e g q) t i = go (bool-case (is_in x cs)) (ring_turn y (x ∷ cs) q (follows e t) (still_in (key_eq x j) (is_in j cs) i))
      where
        go : (is_in x cs ≡ true) ⊎ (is_in x cs ≡ false) → (n : ℕ) × (resolve r (suc (plus n m)) (x ∷ cs) y ≡ Some (Loop j)) → (n : ℕ) × (resolve r (suc (plus n m)) cs x ≡ Some (Loop j))
        go (inl h) k = (zero, turn_met m x j cs t h (lasso_at x (there e (ring-way r l j y q))))
        go (inr h) (n, k) = (suc n, turn_step n x y j cs e t h k)

    at_ring : (cs : List Key) → Trail (Edge r l) j cs → (n : ℕ) × (resolve r (suc (plus n m)) cs j ≡ Some (Loop j))
    at_ring cs t = go (bool-case (is_in j cs)) (ring_turn j' (j ∷ cs) ring (follows step t) (now_in j cs))
      where
        go : (is_in j cs ≡ true) ⊎ (is_in j cs ≡ false) → (n : ℕ) × (resolve r (suc (plus n m)) (j ∷ cs) j' ≡ Some (Loop j)) → (n : ℕ) × (resolve r (suc (plus n m)) cs j ≡ Some (Loop j))
        go (inl h) k = (zero, turn_met m j j cs t h (lasso_at j here))
        go (inr h) (n, k) = (suc n, turn_step n j j' j cs step t h k)

    way_turn : (x : Key) (cs : List Key) → Way (Edge r l) x j → Trail (Edge r l) x cs → (n : ℕ) × (resolve r (suc (plus n m)) cs x ≡ Some (Loop j))
    way_turn x cs here t = at_ring cs t
    way_turn x cs (there {y = y} e w) t = go (bool-case (is_in x cs)) (way_turn y (x ∷ cs) w (follows e t))
      where
        go : (is_in x cs ≡ true) ⊎ (is_in x cs ≡ false) → (n : ℕ) × (resolve r (suc (plus n m)) (x ∷ cs) y ≡ Some (Loop j)) → (n : ℕ) × (resolve r (suc (plus n m)) cs x ≡ Some (Loop j))
        go (inl h) k = (zero, turn_met m x j cs t h (lasso_at x (there e w)))
        go (inr h) (n, k) = (suc n, turn_step n x y j cs e t h k)

-- ---- every decided outcome is the resolver's

pub decided : (r : Record) (l : Outcomes) → Log r l → (k : Key) (o : Outcome) → at l k ≡ Some o → Resolves r k o
decided r l log k o h = go (outcome-case o) (settled r log)
  where
    loops : (j : Key) → at l k ≡ Some (Loop j) → Lasso (Edge r l) k j
    loops j e = looped r log k j e

    by_loop : (j : Key) → o ≡ Loop j → Settled r l → Lasso (Edge r l) k j → Resolves r k o
    by_loop j p (m, f) lasso =
        let t = way_turn r l m f j lasso.next lasso.step lasso.ring k [] lasso.way begins in
        (suc (plus t.0 m), t.1 ∙ ap (λ z. Some z) (sym p))

    go : IsCalm (Some o) ⊎ ((j : Key) × (o ≡ Loop j)) → Settled r l → Resolves r k o
    go (inl c) (m, f) = (m, f [] (λ c i. true_false i refl) k o (ap calmed h ∙ calmed-itself o c))
    go (inr (j, p)) s = by_loop j p s (loops j (h ∙ ap (λ z. Some z) p))

-- one number suffices for them all
all_and_one : (r : Record) (l : Outcomes) (k : Key) (o : Outcome) → (n : ℕ) × Knows (at l) (resolve r n []) → Resolves r k o → (n : ℕ) × Knows (at ((k, o) ∷ l)) (resolve r n [])
all_and_one r l k o (n, f) (m, g) = (plus n m, λ x p h. go x p h (bool-case (key_eq k x)))
  where
    go : (x : Key) (p : Outcome) → at ((k, o) ∷ l) x ≡ Some p → (key_eq k x ≡ true) ⊎ (key_eq k x ≡ false) → resolve r (plus n m) [] x ≡ Some p
    go x p h (inl t) =
        subst (λ z. resolve r (plus n m) [] z ≡ Some p) (key_eq-true k x t) (resolves-plus r n m [] k o g ∙ sym (at-same l k x o t) ∙ h)
    go x p h (inr t) =
        rises-plus_left (λ z. resolve r z [] x) (λ z q e. resolve-rises r z [] x q e) n m p (f x p (sym (at-other l k x o t) ∙ h))

pub decided_all : (r : Record) {l : Outcomes} → Log r l → (n : ℕ) × Knows (at l) (resolve r n [])
decided_all r start = (zero, λ k o h. none-some refl h)
decided_all r (fin {l = l} {k = k} {o = o} log e n h) =
    all_and_one r l k o (decided_all r log) (decided r ((k, o) ∷ l) (fin log e n h) k o (at-same l k k o (key_eq-itself k)))
decided_all r (cyc {l = l} {k = k} log loop) =
    all_and_one r l k (Loop k) (decided_all r log) (decided r ((k, Loop k) ∷ l) (cyc log loop) k (Loop k) (at-same l k k (Loop k) (key_eq-itself k)))

-- so the walk by them is the resolver's, where it needs nothing more
pub walk-decided : (r : Record) (l : Outcomes) → Log r l → (parent : Option Key) (e : Term) → (n : ℕ) × Grown (resolve r n []) (walk parent (at l) e) (walk parent (resolve r n []) e)
walk-decided r l log parent e = let d = decided_all r log in (d.0, walk-grown parent (at l) (resolve r d.0 []) d.1 e)
