-- A key that a walk needs is asked by the course of every later walk.
use Rattle.std.specs.Prelude.{◌≡◌, ◌⊎◌, Bool, true, false, ◌||◌, if◌then◌else◌, List, [], ◌∷◌, Option, Some, None, refl}
use Rattle.std.proofs.Common.{ap, sym, ◌∙◌, subst, inl, inr}
use Rattle.dh_syntax.specs.declared.locations.Key.{Key}
use Rattle.dh_syntax.specs.Expressions.Tree.{Term}
use Rattle.dh_imports.specs.Keeps.{asked_by}
use Rattle.dh_syntax.specs.Imports.Keys.{key_eq}
use Rattle.dh_imports.specs.Machine.{IsAmong}
use Rattle.dh_imports.specs.Outcomes.{Outcome, Good, Bad, Loop}
use Rattle.dh_imports.specs.Resolver.{Plan, Unknown, Now, Walks, Asks, Stage, Lacks, Has, Meets, Waits, of_walk, of_bare, of_plan, is_in}
use Rattle.dh_imports.specs.Walk.{Ask, Walked, Ready, Fails, Turns, Needs, walk, course}
use Rattle.dh_laws.proofs.KeyOrder.{bool-case, true_false, none-some, key_eq-itself, key_eq-true}
use Rattle.dh_import_laws.proofs.Walks.{Knows, OnNeed, Grown, walk-grown, Told, walk-told}
use Rattle.dh_import_laws.proofs.Wants.{needs-asked}
use Rattle.dh_watch_laws.proofs.Alike.{walk-alike}

-- ---- members

true_or : (a b : Bool) → a ≡ true → a || b ≡ true
true_or a b h = ap (λ x. x || b) h

or_true : (a b : Bool) → b ≡ true → a || b ≡ true
or_true true b h = refl
or_true false b h = h

pub in-of : (k : Key) (ks : List Key) → IsAmong k ks → is_in k ks ≡ true
in-of k [] m = absurd m
in-of k (j ∷ js) (inl p) = true_or (key_eq j k) (is_in k js) (subst (λ z. key_eq j z ≡ true) p (key_eq-itself j))
in-of k (j ∷ js) (inr m) = or_true (key_eq j k) (is_in k js) (in-of k js m)

pub of-in : (k : Key) (ks : List Key) → is_in k ks ≡ true → IsAmong k ks
of-in k [] h = true_false h refl
of-in k (j ∷ js) h = go (bool-case (key_eq j k)) (of-in k js)
  where
    go : (key_eq j k ≡ true) ⊎ (key_eq j k ≡ false) → (is_in k js ≡ true → IsAmong k js) → IsAmong k (j ∷ js)
    go (inl t) i = inl (key_eq-true j k t)
    go (inr f) i = inr (i (subst (λ b. b || is_in k js ≡ true) f h))

-- ---- hiding one outcome

abbrev hide : Key → Ask → Ask
hide y ask k = if key_eq y k then None else ask k

hide-other : (y : Key) (ask : Ask) (k : Key) → key_eq y k ≡ false → hide y ask k ≡ ask k
hide-other y ask k e = ap (λ b. if b then None else ask k) e

hide-same : (y : Key) (ask : Ask) → hide y ask y ≡ None
hide-same y ask = ap (λ b. if b then None else ask y) (key_eq-itself y)

-- what does not know y is known to what hides it
hide-knows : (y : Key) (less more : Ask) → less y ≡ None → Knows less more → Knows less (hide y more)
hide-knows y less more e h k o p = go (bool-case (key_eq y k))
  where
    go : (key_eq y k ≡ true) ⊎ (key_eq y k ≡ false) → hide y more k ≡ Some o
    go (inl t) = none-some e (subst (λ z. less z ≡ Some o) (sym (key_eq-true y k t)) p)
    go (inr f) = hide-other y more k f ∙ h k o p

pub walk-needed : (parent : Option Key) (less more : Ask) → Knows less more → (e : Term) (y : Key) → walk parent less e ≡ Needs y → IsAmong y (course parent more e).asked
walk-needed parent less more h e y n = go (bool-case (is_in y (course parent more e).asked))
  where
    unknown : less y ≡ None
    unknown = subst (Told less) n (walk-told parent less e)

    hidden : walk parent (hide y more) e ≡ Needs y
    hidden =
        let g : Grown (hide y more) (Needs y) (walk parent (hide y more) e)
        = subst (λ w. Grown (hide y more) w (walk parent (hide y more) e)) n (walk-grown parent less (hide y more) (hide-knows y less more unknown h) e) in
        subst (OnNeed y (walk parent (hide y more) e)) (hide-same y more) g

    go : (is_in y (course parent more e).asked ≡ true) ⊎ (is_in y (course parent more e).asked ≡ false) → IsAmong y (course parent more e).asked
    go (inl t) = of-in y (course parent more e).asked t
    go (inr f) =
        let agree : (z : Key) → IsAmong z (course parent more e).asked → more z ≡ hide y more z
        = λ z m. sym (hide-other y more z (by z m (bool-case (key_eq y z)))) in
        subst (λ c. IsAmong y c.asked) (sym (walk-alike parent more (hide y more) e agree).1) (needs-asked parent (hide y more) e y hidden)
      where
        by : (z : Key) → IsAmong z (course parent more e).asked → (key_eq y z ≡ true) ⊎ (key_eq y z ≡ false) → key_eq y z ≡ false
        by z m (inr n) = n
        by z m (inl t) =
            true_false (in-of y (course parent more e).asked (subst (λ x. IsAmong x (course parent more e).asked) (sym (key_eq-true y z t)) m)) f

-- ---- stages that wait

abbrev waits_key : Key → Stage → Key
waits_key d (Waits y) = y
waits_key d (Has i) = d
waits_key d (Meets j) = d
waits_key d (Lacks p) = d

waits-same : {y z : Key} → Waits y ≡ Waits z → y ≡ z
waits-same {y = y} h = ap (waits_key y) h

walk-waits : (allow : Option (List _)) (w : Walked Term) (y : Key) → of_walk allow w ≡ Waits y → w ≡ Needs y
walk-waits allow (Ready e) y h = cc
walk-waits allow (Fails b) y h = cc
walk-waits allow (Turns j) y h = cc
walk-waits allow (Needs z) y h = ap (λ x. Needs x) (waits-same h)

bare-waits : (j : Key) (o : Option Outcome) (y : Key) → of_bare j o ≡ Waits y → j ≡ y
bare-waits j None y h = waits-same h
bare-waits j (Some (Good v o)) y h = cc
bare-waits j (Some (Bad b)) y h = cc
bare-waits j (Some (Loop i)) y h = cc

pub asked-needed : (less more : Ask) → Knows less more → (k : Key) (p : Plan) (y : Key) → of_plan less k p ≡ Waits y → IsAmong y (asked_by more k p)
asked-needed less more h k (Unknown p) y e = cc
asked-needed less more h k (Now i) y e = cc
asked-needed less more h k (Walks x allow) y e = walk-needed (Some k) less more h x y (walk-waits allow (walk (Some k) less x) y e)
asked-needed less more h k (Asks j) y e = inl (bare-waits j (less j) y e)
