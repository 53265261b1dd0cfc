-- What is left after texts were taken away.
use Rattle.std.specs.Prelude.{◌≡◌, ◌⊎◌, Bool, true, false, if◌then◌else◌, List, [], ◌∷◌, Option, Some, None, is_some, refl}
use Rattle.std.proofs.Common.{ap, sym, ◌∙◌, subst, inl, inr}
use Rattle.dh_syntax.specs.declared.locations.Key.{Key}
use Rattle.dh_syntax.specs.declared.locations.Loc.{Loc}
use Rattle.dh_imports.specs.declared.outcomes.Why.{Why}
use Rattle.dh_syntax.specs.Imports.Keys.{key_eq}
use Rattle.dh_imports.specs.Outcomes.{Outcome}
use Rattle.dh_imports.specs.Records.{lookup, Record, Noted, limit_at}
use Rattle.dh_imports.specs.Resolver.{Part, TextOf, LookOf, plan, Stage, Lacks, Has, Meets, Waits, of_plan, stage, ended}
use Rattle.dh_imports.specs.Walk.{Ask}
use Rattle.dh_laws.proofs.KeyOrder.{bool-case, true_false, none-some, key_eq-true, key_eq-itself}
use Rattle.dh_import_laws.proofs.Walks.{Knows}
use Rattle.dh_import_laws.proofs.Grow.{Longer, longer-itself, StageGrown, stage-grown, ended-limit}
use Rattle.dh_import_laws.proofs.Calm.{at-same, at-other, at-grown}
use Rattle.dh_watch_laws.specs.Depending.{HaveSame}
use Rattle.dh_watch_laws.specs.Kept.{Outcomes, known, Found, nothing, one_more, IsLimited, Kept, IsSound}
use Rattle.dh_watch_laws.specs.Sweeping.{is_due, left, limits_left, with_texts, swept, AreOf, SweptHolds}
use Rattle.dh_watch_laws.proofs.Depending.{plan-alike}

-- ---- limits of the keys that are left

tail_of : {A : Type 0} → Bool → A → List A → List A
tail_of b p ps = if b then p ∷ ps else ps

look_same : (ps : List (Key × Why)) (p : Key × Why) (k : Key) → key_eq p.0 k ≡ true → lookup key_eq (p ∷ ps) k ≡ Some p.1
look_same ps p k e = ap (λ b. if b then Some p.1 else lookup key_eq ps k) e

look_other : (ps : List (Key × Why)) (p : Key × Why) (k : Key) → key_eq p.0 k ≡ false → lookup key_eq (p ∷ ps) k ≡ lookup key_eq ps k
look_other ps p k e = ap (λ b. if b then Some p.1 else lookup key_eq ps k) e

module _ (ask : Ask) where
  -- the limit of a key that has an outcome stays
  pub limit-left : (ps : List (Key × Why)) (k : Key) → is_some (ask k) ≡ true → lookup key_eq (limits_left ask ps) k ≡ lookup key_eq ps k
  limit-left [] k h = refl
  limit-left (p ∷ ps) k h = go (bool-case (key_eq p.0 k)) (bool-case (is_some (ask p.0))) (limit-left ps k h)
    where
      taken : (b : Bool) → is_some (ask p.0) ≡ b → lookup key_eq (limits_left ask (p ∷ ps)) k ≡ lookup key_eq (if b then p ∷ limits_left ask ps else limits_left ask ps) k
      taken b e = ap (λ c. lookup key_eq (if c then p ∷ limits_left ask ps else limits_left ask ps) k) e

      go : (key_eq p.0 k ≡ true) ⊎ (key_eq p.0 k ≡ false) → (is_some (ask p.0) ≡ true) ⊎ (is_some (ask p.0) ≡ false)
          → lookup key_eq (limits_left ask ps) k ≡ lookup key_eq ps k → lookup key_eq (limits_left ask (p ∷ ps)) k ≡ lookup key_eq (p ∷ ps) k
      go (inl t) (inl s) i = taken true s ∙ look_same (limits_left ask ps) p k t ∙ sym (look_same ps p k t)
      go (inl t) (inr n) i = true_false (subst (λ z. is_some (ask z) ≡ true) (sym (key_eq-true p.0 k t)) h) n
      go (inr f) (inl s) i = taken true s ∙ look_other (limits_left ask ps) p k f ∙ i ∙ sym (look_other ps p k f)
      go (inr f) (inr n) i = taken false n ∙ i ∙ sym (look_other ps p k f)

  -- a limit that is left is that of a key that has an outcome
  pub limit-has : (ps : List (Key × Why)) (k : Key) (w : Why) → lookup key_eq (limits_left ask ps) k ≡ Some w → is_some (ask k) ≡ true
  limit-has [] k w h = none-some refl h
  limit-has (p ∷ ps) k w h = go (bool-case (is_some (ask p.0))) (bool-case (key_eq p.0 k)) (limit-has ps k w)
    where
      taken : (b : Bool) → is_some (ask p.0) ≡ b → lookup key_eq (if b then p ∷ limits_left ask ps else limits_left ask ps) k ≡ Some w
      taken b e = subst (λ c. lookup key_eq (if c then p ∷ limits_left ask ps else limits_left ask ps) k ≡ Some w) e h

      go : (is_some (ask p.0) ≡ true) ⊎ (is_some (ask p.0) ≡ false) → (key_eq p.0 k ≡ true) ⊎ (key_eq p.0 k ≡ false)
          → (lookup key_eq (limits_left ask ps) k ≡ Some w → is_some (ask k) ≡ true) → is_some (ask k) ≡ true
      go (inr n) c i = i (taken false n)
      go (inl s) (inl t) i = subst (λ z. is_some (ask z) ≡ true) (key_eq-true p.0 k t) s
      go (inl s) (inr f) i = i (sym (look_other (limits_left ask ps) p k f) ∙ taken true s)

some-is : {A : Type 0} (x : Option A) → is_some x ≡ true → (a : A) × (x ≡ Some a)
some-is (Some a) h = (a, refl)
some-is None h = true_false h refl

is-some : {A : Type 0} (x : Option A) (a : A) → x ≡ Some a → is_some x ≡ true
is-some x a e = ap is_some e

-- ---- outcomes that are left

-- a stage at which the last step is due is the same by more outcomes over a longer record
pub due-grown : (r r' : Record) → Longer r r' → (less more : Ask) → Knows less more → (k : Key) (s : Stage) → is_due s ≡ true → stage r less k ≡ s → stage r' more k ≡ s
due-grown r r' g less more h k (Has i) d e = subst (λ s. StageGrown more s (stage r' more k)) e (stage-grown r r' g less more h k)
due-grown r r' g less more h k (Meets j) d e = subst (λ s. StageGrown more s (stage r' more k)) e (stage-grown r r' g less more h k)
due-grown r r' g less more h k (Lacks p) d e = true_false d refl
due-grown r r' g less more h k (Waits y) d e = true_false d refl

module _ (r1 : Record) where
  due_of : Key → Outcomes → Bool
  due_of k l = is_due (stage r1 (known (left r1 l)) k)

  left-due : (k : Key) (o : Outcome) (l : Outcomes) → is_due (stage r1 (known (left r1 l)) k) ≡ true → left r1 ((k, o) ∷ l) ≡ (k, o) ∷ left r1 l
  left-due k o l e = ap (λ b. if b then (k, o) ∷ left r1 l else left r1 l) e

  left-undue : (k : Key) (o : Outcome) (l : Outcomes) → is_due (stage r1 (known (left r1 l)) k) ≡ false → left r1 ((k, o) ∷ l) ≡ left r1 l
  left-undue k o l e = ap (λ b. if b then (k, o) ∷ left r1 l else left r1 l) e

  -- what is left is as it was
  pub left-known : (r : Record) {l : Outcomes} → Found r l → Knows (known (left r1 l)) (known l)
  left-known r nothing k o h = h
  left-known r (one_more {l = l} {k = k} {o = o} f e c n q) x p h = go (bool-case (is_due (stage r1 (known (left r1 l)) k))) (left-known r f)
    where
      go : (is_due (stage r1 (known (left r1 l)) k) ≡ true) ⊎ (is_due (stage r1 (known (left r1 l)) k) ≡ false) → Knows (known (left r1 l)) (known l)
          → known ((k, o) ∷ l) x ≡ Some p
      go (inr u) i = at-grown l k o e x p (i x p (subst (λ z. known z x ≡ Some p) (left-undue k o l u) h))
      go (inl d) i = by (bool-case (key_eq k x)) (subst (λ z. known z x ≡ Some p) (left-due k o l d) h)
        where
          by : (key_eq k x ≡ true) ⊎ (key_eq k x ≡ false) → known ((k, o) ∷ left r1 l) x ≡ Some p → known ((k, o) ∷ l) x ≡ Some p
          by (inl t) y = at-same l k x o t ∙ sym (at-same (left r1 l) k x o t) ∙ y
          by (inr t) y = at-other l k x o t ∙ i x p (sym (at-other (left r1 l) k x o t) ∙ y)

  left-fresh : (r : Record) {l : Outcomes} → Found r l → (k : Key) → known l k ≡ None → known (left r1 l) k ≡ None
  left-fresh r {l = l} f k e = go (known (left r1 l) k) refl
    where
      go : (x : Option Outcome) → known (left r1 l) k ≡ x → known (left r1 l) k ≡ None
      go None q = q
      go (Some o) q = none-some e (left-known r f k o q)

  -- of each key that is left the last step is due
  pub left-has : (r : Record) {l : Outcomes} → Found r l → (x : Key) (p : Outcome) → known (left r1 l) x ≡ Some p → is_due (stage r1 (known (left r1 l)) x) ≡ true
  left-has r nothing x p h = none-some refl h
  left-has r (one_more {l = l} {k = k} {o = o} f e c n q) x p h = go (bool-case (is_due (stage r1 (known (left r1 l)) k))) (left-has r f x)
    where
      -- what was due is due
      still : (z : Key) → is_due (stage r1 (known (left r1 l)) z) ≡ true → is_due (stage r1 (known ((k, o) ∷ left r1 l)) z) ≡ true
      still z d =
          ap is_due (due-grown r1 r1 (longer-itself r1) (known (left r1 l)) (known ((k, o) ∷ left r1 l)) (at-grown (left r1 l) k o (left-fresh r f k e)) z
          (stage r1 (known (left r1 l)) z) d refl) ∙ d

      go : (is_due (stage r1 (known (left r1 l)) k) ≡ true) ⊎ (is_due (stage r1 (known (left r1 l)) k) ≡ false)
          → ((u : Outcome) → known (left r1 l) x ≡ Some u → is_due (stage r1 (known (left r1 l)) x) ≡ true)
          → is_due (stage r1 (known (left r1 ((k, o) ∷ l))) x) ≡ true
      go (inr u) i = subst (λ z. is_due (stage r1 (known z) x) ≡ true) (sym (left-undue k o l u)) (i p (subst (λ z. known z x ≡ Some p) (left-undue k o l u) h))
      go (inl d) i = subst (λ z. is_due (stage r1 (known z) x) ≡ true) (sym (left-due k o l d)) (by (bool-case (key_eq k x)) (subst (λ z. known z x ≡ Some p) (left-due k o l d) h))
        where
          by : (key_eq k x ≡ true) ⊎ (key_eq k x ≡ false) → known ((k, o) ∷ left r1 l) x ≡ Some p → is_due (stage r1 (known ((k, o) ∷ left r1 l)) x) ≡ true
          by (inl t) y = subst (λ z. is_due (stage r1 (known ((k, o) ∷ left r1 l)) z) ≡ true) (key_eq-true k x t) (still k d)
          by (inr t) y = still x (i p (sym (at-other (left r1 l) k x o t) ∙ y))

  -- what is left was found so, over a record that says the same but for limits
  module _ (r r2 : Record) (g : Longer r1 r) (plans : (k : Key) → plan r1 k ≡ plan r2 k) where
    stages : (ask : Ask) (k : Key) → stage r1 ask k ≡ stage r2 ask k
    stages ask k = ap (of_plan ask k) (plans k)

    pub left-found : {l : Outcomes} → Found r l → ((k : Key) (o : Outcome) → known (left r1 l) k ≡ Some o → limit_at r k ≡ limit_at r2 k) → Found r2 (left r1 l)
    left-found nothing s = nothing
    left-found (one_more {l = l} {k = k} {o = o} f e c n q) s = go (bool-case (is_due (stage r1 (known (left r1 l)) k))) (left-found f)
      where
        go : (is_due (stage r1 (known (left r1 l)) k) ≡ true) ⊎ (is_due (stage r1 (known (left r1 l)) k) ≡ false)
            → (((x : Key) (p : Outcome) → known (left r1 l) x ≡ Some p → limit_at r x ≡ limit_at r2 x) → Found r2 (left r1 l))
            → Found r2 (left r1 ((k, o) ∷ l))
        go (inr u) i = subst (Found r2) (sym (left-undue k o l u)) (i (λ x p h. s x p (subst (λ z. known z x ≡ Some p) (sym (left-undue k o l u)) h)))
        go (inl d) i =
            let new = left-fresh r f k e in
            let same : stage r (known l) k ≡ stage r1 (known (left r1 l)) k = due-grown r1 r g (known (left r1 l)) (known l) (left-known r f) k _ d refl in
            let here = at-same (left r1 l) k k o (key_eq-itself k) in
            subst (Found r2) (sym (left-due k o l d))
            (one_more (i (λ x p h. s x p (subst (λ z. known z x ≡ Some p) (sym (left-due k o l d)) (at-grown (left r1 l) k o new x p h)))) new c n
            (sym (ended-limit r r2 n k (stage r2 (known (left r1 l)) k) (s k o (subst (λ z. known z k ≡ Some o) (sym (left-due k o l d)) here)))
            ∙ ap (ended r n k) (sym (same ∙ stages (known (left r1 l)) k)) ∙ q))

-- ---- the law

module _ (s : Kept) (texts : List (Loc × Noted)) (h : IsSound s) (of : AreOf texts s.recorded.texts) where
  shorter : Longer (with_texts s.recorded texts) s.recorded
  shorter = record { texts = of; looks = λ d look q. q }

  same_parts : (p : Part) → HaveSame (with_texts s.recorded texts) (swept texts s).recorded p
  same_parts (TextOf l) = refl
  same_parts (LookOf d) = refl

  same_plans : (k : Key) → plan (with_texts s.recorded texts) k ≡ plan (swept texts s).recorded k
  same_plans k = plan-alike (with_texts s.recorded texts) (swept texts s).recorded k (λ p e. same_parts p)

  before : Knows (known (swept texts s).outcomes) (known s.outcomes)
  before = left-known (with_texts s.recorded texts) s.recorded h.found

  limits_same : (k : Key) (o : Outcome) → known (swept texts s).outcomes k ≡ Some o → limit_at s.recorded k ≡ limit_at (swept texts s).recorded k
  limits_same k o e = sym (limit-left (known (swept texts s).outcomes) s.recorded.limits k (is-some (known (swept texts s).outcomes k) o e))

  still_limited : (k : Key) (w : Why) → limit_at (swept texts s).recorded k ≡ Some w → IsLimited (swept texts s).recorded (known (swept texts s).outcomes) k w
  still_limited k w e =
      let t = some-is (known (swept texts s).outcomes k) (limit-has (known (swept texts s).outcomes) s.recorded.limits k w e) in
      let was : IsLimited s.recorded (known s.outcomes) k w = h.limited k w (limits_same k t.0 t.1 ∙ e) in
      let due = left-has (with_texts s.recorded texts) s.recorded h.found k t.0 t.1 in
      let grown : stage s.recorded (known s.outcomes) k ≡ stage (with_texts s.recorded texts) (known (swept texts s).outcomes) k
      = due-grown (with_texts s.recorded texts) s.recorded shorter (known (swept texts s).outcomes) (known s.outcomes) before k _ due refl in
      record {
        code = was.code;
        allow = was.allow;
        due = ap (of_plan (known (swept texts s).outcomes) k) (sym (same_plans k)) ∙ sym grown ∙ was.due;
        licensed = was.licensed;
        decides = t.1 ∙ sym (before k t.0 t.1) ∙ was.decides;
      }

  holds : IsSound (swept texts s)
  holds = record {
    found = left-found (with_texts s.recorded texts) s.recorded (swept texts s).recorded shorter same_plans h.found limits_same;
    limited = still_limited;
  }

pub swept_holds : SweptHolds
swept_holds s texts h of = (holds s texts h of, before s texts h of)
