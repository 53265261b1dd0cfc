-- Lists of outcomes; outcomes but loops; the last step never gives a loop.
use Rattle.std.specs.Prelude.{◌≡◌, ◌⊎◌, ℕ, nat_lt, Bool, true, false, if◌then◌else◌, List, [], ◌∷◌, length, Option, Some, None, refl}
use Rattle.std.specs.Str.{is_utf8}
use Rattle.std.proofs.Common.{ap, sym, ◌∙◌, subst, inl, inr}
use mathlib.Core.Path.{fun_ext}
use Rattle.dh_syntax.specs.declared.locations.Digest.{Digest}
use Rattle.dh_syntax.specs.declared.locations.Key.{Key}
use Rattle.dh_syntax.specs.Normalising.Heads.{Answer, Found, Wide, Deep, Over, Whole, run}
use Rattle.dh_syntax.specs.Typing.Inference.{Judgment, Has, Ill, IsWide, IsDeep, IsOver, IsOverAside, IsShallow}
use Rattle.dh_syntax.specs.Normalising.Named.{names}
use Rattle.dh_syntax.specs.Typing.NamedTyping.{infer}
use Rattle.dh_syntax.specs.Normalising.Normal.{endless}
use Rattle.dh_syntax.specs.Expressions.SameTree.{digest_eq}
use Rattle.dh_syntax.specs.Limits.{most_bytes}
use Rattle.dh_syntax.specs.Expressions.Tree.{Term}
use Rattle.dh_syntax.specs.Imports.Keys.{key_eq}
use Rattle.dh_imports.specs.LastStep as last
use Rattle.dh_imports.specs.LastStep.{Item, own, text_outcome, compared, by_normal, by_type, last_step}
use Rattle.dh_syntax.specs.Bytes.Digests.{digest_of}
use Rattle.dh_imports.specs.declared.outcomes.Origin.{Origin}
use Rattle.dh_imports.specs.declared.outcomes.Why.{Why}
use Rattle.dh_imports.specs.Outcomes.{Outcome, Good, Bad, Loop}
use Rattle.dh_imports.specs.Records.{lookup, Record, limit_at}
use Rattle.dh_imports.specs.Resolver.{Stage, Lacks, Has, Meets, Waits, of_plan, stage, unless_limit, closed, ended}
use Rattle.dh_imports.specs.Walk.{Ask}
use Rattle.dh_laws.proofs.KeyOrder.{bool-case, none-some, key_eq-true}
use Rattle.dh_import_laws.proofs.Walks.{Knows}
use Rattle.dh_import_laws.proofs.Grow.{longer-itself, OnWait, StageGrown, stage-grown, StageTold, stage-told}

abbrev pub Outcomes : Type 0
Outcomes = List (Key × Outcome)

-- what the list says of a key
abbrev pub at : Outcomes → Ask
at l k = lookup key_eq l k

abbrev pub IsCalm : Option Outcome → Type 0
IsCalm None = Unit {0}
IsCalm (Some (Good v o)) = Unit {0}
IsCalm (Some (Bad b)) = Unit {0}
IsCalm (Some (Loop j)) = ⊥

pub calm_loop : {P : Type 0} {x : Option Outcome} {j : Key} → IsCalm x → x ≡ Some (Loop j) → P
calm_loop h e = absurd (subst IsCalm e h)

-- ---- the last step gives no loop

by_normal-calm : (allow : Option (List ℕ)) (a : Answer Term) → IsCalm (by_normal allow a)
by_normal-calm allow (Found f left) = tt
by_normal-calm allow (Wide left) = tt
by_normal-calm allow (Deep left) = tt
by_normal-calm allow Over = tt

by_type-calm : (n : ℕ) (k : Key) (e : Term) (allow : Option (List ℕ)) (j : Judgment Term) → IsCalm (by_type n k e allow j)
by_type-calm n k e allow (Has t left) = by_normal-calm allow (run (endless names) n Whole n e)
by_type-calm n k e allow (Ill path rule) = tt
by_type-calm n k e allow IsWide = tt
by_type-calm n k e allow IsDeep = tt
by_type-calm n k e allow IsOver = tt
by_type-calm n k e allow IsOverAside = tt
by_type-calm n k e allow IsShallow = tt

either-calm : (b : Bool) (x y : Outcome) → IsCalm (Some x) → IsCalm (Some y) → IsCalm (Some (if b then x else y))
either-calm true x y h k = h
either-calm false x y h k = k

text-calm : (k : Key) (bytes : List ℕ) (allow : Option (List ℕ)) → IsCalm (Some (text_outcome k bytes allow))
text-calm k bytes allow = either-calm (nat_lt most_bytes (length bytes)) _ _ tt (either-calm (is_utf8 bytes) _ _ tt tt)

compared-calm : (k : Key) (d : Option Digest) (v : Term) (o : Origin) → IsCalm (Some (compared k d v o))
compared-calm k None v o = tt
compared-calm k (Some d) v o = either-calm (digest_eq d (digest_of v)) _ _ tt tt

last_step-calm : (n : ℕ) (k : Key) (i : Item) → IsCalm (last_step n k i)
unfolding last_step
last_step-calm n k (last.Code e allow) = by_type-calm n k e allow (infer n n n [] n e)
last_step-calm n k (last.Text bytes allow) = text-calm k bytes allow
last_step-calm n k (last.Location l) = tt
last_step-calm n k (last.Compare v o) = compared-calm k k.digest v o
last_step-calm n k (last.Entry e) = tt
last_step-calm n k (last.Fault b) = tt

unless_limit-calm : (k : Key) (w : Option Why) (x : Option Outcome) → IsCalm x → IsCalm (unless_limit k w x)
unless_limit-calm k (Some w) x h = tt
unless_limit-calm k None x h = h

closed-calm : (r : Record) (n : ℕ) (k : Key) (i : Item) → IsCalm (closed r n k i)
closed-calm r n k (last.Code e allow) = unless_limit-calm k (limit_at r k) _ (last_step-calm n k (last.Code e allow))
closed-calm r n k (last.Text bytes allow) = last_step-calm n k (last.Text bytes allow)
closed-calm r n k (last.Location l) = last_step-calm n k (last.Location l)
closed-calm r n k (last.Compare v o) = last_step-calm n k (last.Compare v o)
closed-calm r n k (last.Entry e) = last_step-calm n k (last.Entry e)
closed-calm r n k (last.Fault b) = last_step-calm n k (last.Fault b)

abbrev loop_key : Key → Option Outcome → Key
loop_key i (Some (Loop j)) = j
loop_key i (Some (Good v o)) = i
loop_key i (Some (Bad b)) = i
loop_key i None = i

pub loops-equal : {i j : Key} → Some (Loop i) ≡ Some (Loop j) → i ≡ j
loops-equal {i = i} h = ap (loop_key i) h

pub quiet : (r : Record) (n : ℕ) (k : Key) (s : Stage) (j : Key) → ended r n k s ≡ Some (Loop j) → s ≡ Meets j
quiet r n k (Has i) j h = calm_loop (closed-calm r n k i) h
quiet r n k (Meets i) j h = ap (λ x. Meets x) (loops-equal h)
quiet r n k (Lacks p) j h = none-some refl h
quiet r n k (Waits y) j h = none-some refl h

-- ---- stages told apart

abbrev waits_key : Key → Stage → Key
waits_key d (Waits y) = y
waits_key d (Has i) = d
waits_key d (Meets j) = d
waits_key d (Lacks p) = d

pub waits-equal : {y z : Key} → Waits y ≡ Waits z → y ≡ z
waits-equal {y = y} h = ap (waits_key y) h

abbrev meets_key : Key → Stage → Key
meets_key d (Meets j) = j
meets_key d (Has i) = d
meets_key d (Waits y) = d
meets_key d (Lacks p) = d

pub meets-equal : {i j : Key} → Meets i ≡ Meets j → i ≡ j
meets-equal {i = i} h = ap (meets_key i) h

abbrev pub IsWaits : Stage → Type 0
IsWaits (Waits y) = Unit {0}
IsWaits (Has i) = ⊥
IsWaits (Meets j) = ⊥
IsWaits (Lacks p) = ⊥

abbrev pub IsMeets : Stage → Type 0
IsMeets (Meets j) = Unit {0}
IsMeets (Has i) = ⊥
IsMeets (Waits y) = ⊥
IsMeets (Lacks p) = ⊥

-- ---- lists

pub at-same : (l : Outcomes) (k x : Key) (o : Outcome) → key_eq k x ≡ true → at ((k, o) ∷ l) x ≡ Some o
at-same l k x o h = ap (λ b. if b then Some o else at l x) h

pub at-other : (l : Outcomes) (k x : Key) (o : Outcome) → key_eq k x ≡ false → at ((k, o) ∷ l) x ≡ at l x
at-other l k x o h = ap (λ b. if b then Some o else at l x) h

pub at-grown : (l : Outcomes) (k : Key) (o : Outcome) → at l k ≡ None → Knows (at l) (at ((k, o) ∷ l))
at-grown l k o e x p h = go (bool-case (key_eq k x))
  where
    go : (key_eq k x ≡ true) ⊎ (key_eq k x ≡ false) → at ((k, o) ∷ l) x ≡ Some p
    go (inl t) = none-some e (subst (λ z. at l z ≡ Some p) (sym (key_eq-true k x t)) h)
    go (inr f) = at-other l k x o f ∙ h

-- ---- calm outcomes

abbrev pub calmed : Option Outcome → Option Outcome
calmed None = None
calmed (Some (Good v o)) = Some (Good v o)
calmed (Some (Bad b)) = Some (Bad b)
calmed (Some (Loop j)) = None

-- the outcome of a key, if it is no loop
abbrev pub calm : Outcomes → Ask
calm l k = calmed (at l k)

pub calmed-some : (x : Option Outcome) (o : Outcome) → calmed x ≡ Some o → x ≡ Some o
calmed-some None o h = h
calmed-some (Some (Good v c)) o h = h
calmed-some (Some (Bad b)) o h = h
calmed-some (Some (Loop j)) o h = none-some refl h

pub calmed-calm : (x : Option Outcome) → IsCalm (calmed x)
calmed-calm None = tt
calmed-calm (Some (Good v c)) = tt
calmed-calm (Some (Bad b)) = tt
calmed-calm (Some (Loop j)) = tt

pub calmed-itself : (o : Outcome) → IsCalm (Some o) → calmed (Some o) ≡ Some o
calmed-itself (Good v c) h = refl
calmed-itself (Bad b) h = refl
calmed-itself (Loop j) h = absurd h

pub calm-known : (l : Outcomes) → Knows (calm l) (at l)
calm-known l k o h = calmed-some (at l k) o h

pub calm-none : (l : Outcomes) (k : Key) → at l k ≡ None → calm l k ≡ None
calm-none l k h = ap calmed h

pub calm-grown : (l : Outcomes) (k : Key) (o : Outcome) → at l k ≡ None → Knows (calm l) (calm ((k, o) ∷ l))
calm-grown l k o e x p h = go (bool-case (key_eq k x))
  where
    go : (key_eq k x ≡ true) ⊎ (key_eq k x ≡ false) → calm ((k, o) ∷ l) x ≡ Some p
    go (inl t) = none-some e (subst (λ z. at l z ≡ Some p) (sym (key_eq-true k x t)) (calmed-some (at l x) p h))
    go (inr f) = ap calmed (at-other l k x o f) ∙ h

-- a loop changes no calm outcome
pub calm-steady : (l : Outcomes) (k j : Key) → at l k ≡ None → calm ((k, Loop j) ∷ l) ≡ calm l
calm-steady l k j e = fun_ext (λ x. go x (bool-case (key_eq k x)))
  where
    go : (x : Key) → (key_eq k x ≡ true) ⊎ (key_eq k x ≡ false) → calm ((k, Loop j) ∷ l) x ≡ calm l x
    go x (inl t) = ap calmed (at-same l k x (Loop j) t) ∙ sym (calm-none l x (subst (λ z. at l z ≡ None) (key_eq-true k x t) e))
    go x (inr f) = ap calmed (at-other l k x (Loop j) f)

-- ---- the stage by all outcomes, and that by the calm ones

abbrev CalmStage : Outcomes → Stage → Stage → Type 0
CalmStage l (Has i) s = s ≡ Has i
CalmStage l (Meets j) s = ⊥
CalmStage l (Lacks p) s = s ≡ Lacks p
CalmStage l (Waits y) s = ((s ≡ Waits y) × (at l y ≡ None)) ⊎ ((j : Key) × (s ≡ Meets j) × (at l y ≡ Some (Loop j)))

waited : (l : Outcomes) (y : Key) (s : Stage) (o : Option Outcome) → at l y ≡ o → calmed o ≡ None → OnWait y s o
    → ((s ≡ Waits y) × (at l y ≡ None)) ⊎ ((j : Key) × (s ≡ Meets j) × (at l y ≡ Some (Loop j)))
waited l y s None e c h = inl (h, e)
waited l y s (Some (Loop j)) e c h = inr (j, h, e)
waited l y s (Some (Good v o)) e c h = none-some c refl
waited l y s (Some (Bad b)) e c h = none-some c refl

calm_stage : (r : Record) (l : Outcomes) (k : Key) (s : Stage) → StageGrown (at l) s (stage r (at l) k) → StageTold r (calm l) k s → CalmStage l s (stage r (at l) k)
calm_stage r l k (Has i) g t = g
calm_stage r l k (Meets j) g t = calm_loop (calmed-calm (at l t.0)) t.1
calm_stage r l k (Lacks p) g t = ap (λ q. of_plan (at l) k q) t
calm_stage r l k (Waits y) g t = waited l y (stage r (at l) k) (at l y) refl t g

compare : (r : Record) (l : Outcomes) (k : Key) → CalmStage l (stage r (calm l) k) (stage r (at l) k)
compare r l k = calm_stage r l k (stage r (calm l) k) (stage-grown r r (longer-itself r) (calm l) (at l) (calm-known l) k) (stage-told r (calm l) k)

-- what ends calmly rests on calm outcomes
ends_calmly : (r : Record) (l : Outcomes) (n : ℕ) (k : Key) (o : Outcome) (s s' : Stage) → CalmStage l s s' → IsCalm (Some o) → ended r n k s' ≡ Some o → ended r n k s ≡ Some o
ends_calmly r l n k o (Has i) s' c h e = subst (λ x. ended r n k x ≡ Some o) c e
ends_calmly r l n k o (Meets j) s' c h e = absurd c
ends_calmly r l n k o (Lacks p) s' c h e = subst (λ x. ended r n k x ≡ Some o) c e
ends_calmly r l n k o (Waits y) s' (inl c) h e = subst (λ x. ended r n k x ≡ Some o) c.0 e
ends_calmly r l n k o (Waits y) s' (inr c) h e = calm_loop h (sym (subst (λ x. ended r n k x ≡ Some o) c.1 e))

pub calm-ended : (r : Record) (l : Outcomes) (n : ℕ) (k : Key) (o : Outcome) → IsCalm (Some o) → ended r n k (stage r (at l) k) ≡ Some o → ended r n k (stage r (calm l) k) ≡ Some o
calm-ended r l n k o h e = ends_calmly r l n k o _ _ (compare r l k) h e

waits_calmly : (l : Outcomes) (y : Key) (s s' : Stage) → CalmStage l s s' → s' ≡ Waits y → s ≡ Waits y
waits_calmly l y (Has i) s' c e = absurd (subst IsWaits (sym (sym c ∙ e)) tt)
waits_calmly l y (Meets j) s' c e = absurd c
waits_calmly l y (Lacks p) s' c e = absurd (subst IsWaits (sym (sym c ∙ e)) tt)
waits_calmly l y (Waits z) s' (inl c) e = sym c.0 ∙ e
waits_calmly l y (Waits z) s' (inr c) e = absurd (subst IsWaits (sym (sym c.1 ∙ e)) tt)

pub calm-waits : (r : Record) (l : Outcomes) (k y : Key) → stage r (at l) k ≡ Waits y → stage r (calm l) k ≡ Waits y
calm-waits r l k y e = waits_calmly l y _ _ (compare r l k) e

meets_calmly : (l : Outcomes) (j : Key) (s s' : Stage) → CalmStage l s s' → s' ≡ Meets j → (y : Key) × (s ≡ Waits y) × (at l y ≡ Some (Loop j))
meets_calmly l j (Has i) s' c e = absurd (subst IsMeets (sym (sym c ∙ e)) tt)
meets_calmly l j (Meets i) s' c e = absurd c
meets_calmly l j (Lacks p) s' c e = absurd (subst IsMeets (sym (sym c ∙ e)) tt)
meets_calmly l j (Waits z) s' (inl c) e = absurd (subst IsMeets (sym (sym c.0 ∙ e)) tt)
meets_calmly l j (Waits z) s' (inr c) e = (z, refl, subst (λ x. at l z ≡ Some (Loop x)) (meets-equal (sym c.1 ∙ e)) c.2)

pub calm-meets : (r : Record) (l : Outcomes) (k j : Key) → stage r (at l) k ≡ Meets j → (y : Key) × (stage r (calm l) k ≡ Waits y) × (at l y ≡ Some (Loop j))
calm-meets r l k j e = meets_calmly l j _ _ (compare r l k) e
