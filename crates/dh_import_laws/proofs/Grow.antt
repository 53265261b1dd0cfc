-- What a longer record, more outcomes and more fuel change in a stage and in the resolver.
use Rattle.std.specs.Prelude.{◌≡◌, ℕ, zero, suc, Bool, true, false, if◌then◌else◌, List, [], ◌∷◌, Option, Some, None, refl}
use Rattle.std.proofs.Common.{ap, sym, ◌∙◌, subst}
use Rattle.dh_syntax.specs.declared.locations.Digest.{Digest}
use Rattle.dh_syntax.specs.declared.locations.Key.{Key}
use Rattle.dh_syntax.specs.declared.locations.Loc.{Loc}
use Rattle.dh_syntax.specs.declared.locations.Mode.{Mode}
use Rattle.dh_syntax.specs.declared.locations.Mode.TheVariants as modes
use Rattle.dh_syntax.specs.Expressions.Tree.{Term}
use Rattle.dh_imports.specs.LastStep.{Item, Code, Text, Location, Compare, Entry, Fault, last_step}
use Rattle.dh_imports.specs.declared.outcomes.Why.{Why}
use Rattle.dh_imports.specs.Outcomes.{Outcome, Good, Bad, Loop}
use Rattle.dh_imports.specs.Records.{Record, Noted, Seen, text_at, look_at, limit_at}
use Rattle.dh_imports.specs.Resolver.{Plan, Unknown, Now, Walks, Asks, plan_text, unfetched, plan_fetch, plan_mode, plan_look, plan_digest, plan, Stage, Lacks, Has, Meets, Waits, of_walk, of_bare, of_plan, stage, unless_limit, closed, ended, is_in, least_back_to, resolve, Resolves}
use Rattle.dh_imports.specs.Walk.{Ask, Walked, Ready, Fails, Turns, Needs}
use Rattle.dh_import_laws.proofs.CodeRises.{code_outcome-rises}
use Rattle.dh_laws.proofs.KeyOrder.{none-some, some-equal}
use Rattle.dh_import_laws.proofs.Walks.{Knows, OnNeed, Grown, walk-grown, Told, walk-told}

-- the second record has each text and each look of the first
pub record Longer (r r' : Record) : Type 0 where
  pub texts : (l : Loc) (t : Noted) → text_at r l ≡ Some t → text_at r' l ≡ Some t
  pub looks : (d : Digest) (s : Seen) → look_at r d ≡ Some s → look_at r' d ≡ Some s

pub longer-itself : (r : Record) → Longer r r
longer-itself r = record { texts = λ l t h. h; looks = λ d s h. h }

-- ---- plans

-- a plan stays, unless something was not recorded
abbrev pub PlanGrown : Plan → Plan → Type 0
PlanGrown (Unknown p) q = Unit {0}
PlanGrown (Now i) q = q ≡ Now i
PlanGrown (Walks e allow) q = q ≡ Walks e allow
PlanGrown (Asks j) q = q ≡ Asks j

plan-itself : (p : Plan) → PlanGrown p p
plan-itself (Unknown p) = tt
plan-itself (Now i) = refl
plan-itself (Walks e allow) = refl
plan-itself (Asks j) = refl

plan_text-grown : (k : Key) (as_text : Bool) (a b : Option Noted) → ((t : Noted) → a ≡ Some t → b ≡ Some t) → PlanGrown (plan_text k as_text a) (plan_text k as_text b)
plan_text-grown k as_text None b h = tt
plan_text-grown k as_text (Some t) b h = subst (λ x. PlanGrown (plan_text k as_text (Some t)) (plan_text k as_text x)) (sym (h t refl)) (plan-itself (plan_text k as_text (Some t)))

plan_fetch-grown : (r r' : Record) → Longer r r' → (k : Key) (as_text : Bool) (w : Option Why) → PlanGrown (plan_fetch r k as_text w) (plan_fetch r' k as_text w)
plan_fetch-grown r r' h k as_text (Some w) = refl
plan_fetch-grown r r' h k as_text None = plan_text-grown k as_text _ _ (h.texts k.loc)

plan_mode-grown : (r r' : Record) → Longer r r' → (k : Key) (m : Mode) → PlanGrown (plan_mode r k m) (plan_mode r' k m)
plan_mode-grown r r' h k modes.Location = refl
plan_mode-grown r r' h k modes.Text = plan_fetch-grown r r' h k true (unfetched k.loc)
plan_mode-grown r r' h k modes.Code = plan_fetch-grown r r' h k false (unfetched k.loc)

plan_look-grown : (k : Key) (d : Digest) (a b : Option Seen) → ((s : Seen) → a ≡ Some s → b ≡ Some s) → PlanGrown (plan_look k d a) (plan_look k d b)
plan_look-grown k d None b h = tt
plan_look-grown k d (Some s) b h = subst (λ x. PlanGrown (plan_look k d (Some s)) (plan_look k d x)) (sym (h s refl)) (plan-itself (plan_look k d (Some s)))

plan_digest-grown : (r r' : Record) → Longer r r' → (k : Key) (d : Option Digest) → PlanGrown (plan_digest r k d) (plan_digest r' k d)
plan_digest-grown r r' h k None = plan_mode-grown r r' h k k.mode
plan_digest-grown r r' h k (Some d) = plan_look-grown k d _ _ (h.looks d)

pub plan-grown : (r r' : Record) → Longer r r' → (k : Key) → PlanGrown (plan r k) (plan r' k)
plan-grown r r' h k = plan_digest-grown r r' h k k.digest

-- ---- stages

-- what becomes of a stage that waited for y, by what is known of y now
abbrev pub OnWait : Key → Stage → Option Outcome → Type 0
OnWait y s None = s ≡ Waits y
OnWait y s (Some (Loop j)) = s ≡ Meets j
OnWait y s (Some _) = Unit {0}

-- the second stage is the first, or goes on from what that lacked or waited for
abbrev pub StageGrown : Ask → Stage → Stage → Type 0
StageGrown more (Lacks p) s = Unit {0}
StageGrown more (Has i) s = s ≡ Has i
StageGrown more (Meets j) s = s ≡ Meets j
StageGrown more (Waits y) s = OnWait y s (more y)

on_wait : (allow : Option (List ℕ)) (y : Key) (w : Walked Term) (o : Option Outcome) → OnNeed y w o → OnWait y (of_walk allow w) o
on_wait allow y w None h = ap (of_walk allow) h
on_wait allow y w (Some (Loop j)) h = ap (of_walk allow) h
on_wait allow y w (Some (Good v o)) h = tt
on_wait allow y w (Some (Bad b)) h = tt

of_walk-grown : (allow : Option (List ℕ)) (more : Ask) (v w : Walked Term) → Grown more v w → StageGrown more (of_walk allow v) (of_walk allow w)
of_walk-grown allow more (Ready e) w h = ap (of_walk allow) h
of_walk-grown allow more (Fails b) w h = ap (of_walk allow) h
of_walk-grown allow more (Turns j) w h = ap (of_walk allow) h
of_walk-grown allow more (Needs y) w h = on_wait allow y w (more y) h

of_bare-grown : (less more : Ask) → Knows less more → (j : Key) (o : Option Outcome) → less j ≡ o → StageGrown more (of_bare j o) (of_bare j (more j))
of_bare-grown less more h j None e = go (more j)
  where
    go : (o : Option Outcome) → OnWait j (of_bare j o) o
    go None = refl
    go (Some (Loop i)) = refl
    go (Some (Good v o)) = tt
    go (Some (Bad b)) = tt
of_bare-grown less more h j (Some (Good v o)) e = ap (of_bare j) (h j _ e)
of_bare-grown less more h j (Some (Bad b)) e = ap (of_bare j) (h j _ e)
of_bare-grown less more h j (Some (Loop i)) e = ap (of_bare j) (h j _ e)

of_plan-grown : (less more : Ask) → Knows less more → (k : Key) (p : Plan) → StageGrown more (of_plan less k p) (of_plan more k p)
of_plan-grown less more h k (Unknown p) = tt
of_plan-grown less more h k (Now i) = refl
of_plan-grown less more h k (Walks e allow) = of_walk-grown allow more _ _ (walk-grown (Some k) less more h e)
of_plan-grown less more h k (Asks j) = of_bare-grown less more h j (less j) refl

planned-grown : (less more : Ask) → Knows less more → (k : Key) (p q : Plan) → PlanGrown p q → StageGrown more (of_plan less k p) (of_plan more k q)
planned-grown less more h k (Unknown p) q g = tt
planned-grown less more h k (Now i) q g = subst (λ x. StageGrown more (Has i) (of_plan more k x)) (sym g) refl
planned-grown less more h k (Walks e allow) q g = subst (λ x. StageGrown more (of_plan less k (Walks e allow)) (of_plan more k x)) (sym g) (of_plan-grown less more h k (Walks e allow))
planned-grown less more h k (Asks j) q g = subst (λ x. StageGrown more (of_plan less k (Asks j)) (of_plan more k x)) (sym g) (of_plan-grown less more h k (Asks j))

pub stage-grown : (r r' : Record) → Longer r r' → (less more : Ask) → Knows less more → (k : Key) → StageGrown more (stage r less k) (stage r' more k)
stage-grown r r' l less more h k = planned-grown less more h k (plan r k) (plan r' k) (plan-grown r r' l k)

-- what a stage says of the record and the outcomes
abbrev pub StageTold : Record → Ask → Key → Stage → Type 0
StageTold r ask k (Lacks p) = plan r k ≡ Unknown p
StageTold r ask k (Has i) = Unit {0}
StageTold r ask k (Meets j) = (y : Key) × (ask y ≡ Some (Loop j))
StageTold r ask k (Waits y) = ask y ≡ None

of_walk-told : (r : Record) (ask : Ask) (k : Key) (allow : Option (List ℕ)) (w : Walked Term) → Told ask w → StageTold r ask k (of_walk allow w)
of_walk-told r ask k allow (Ready e) h = tt
of_walk-told r ask k allow (Fails b) h = tt
of_walk-told r ask k allow (Turns j) h = h
of_walk-told r ask k allow (Needs y) h = h

of_bare-told : (r : Record) (ask : Ask) (k j : Key) (o : Option Outcome) → ask j ≡ o → StageTold r ask k (of_bare j o)
of_bare-told r ask k j None e = e
of_bare-told r ask k j (Some (Good v o)) e = tt
of_bare-told r ask k j (Some (Bad b)) e = tt
of_bare-told r ask k j (Some (Loop i)) e = (j, e)

of_plan-told : (r : Record) (ask : Ask) (k : Key) (p : Plan) → plan r k ≡ p → StageTold r ask k (of_plan ask k p)
of_plan-told r ask k (Unknown p) e = e
of_plan-told r ask k (Now i) e = tt
of_plan-told r ask k (Walks x allow) e = of_walk-told r ask k allow _ (walk-told (Some k) ask x)
of_plan-told r ask k (Asks j) e = of_bare-told r ask k j (ask j) refl

pub stage-told : (r : Record) (ask : Ask) (k : Key) → StageTold r ask k (stage r ask k)
stage-told r ask k = of_plan-told r ask k (plan r k) refl

-- ---- fuel

-- more of a number changes no answer
abbrev pub Rises : {X : Type 0} → (ℕ → Option X) → Type 0
Rises f = (n : ℕ) (o : _) → f n ≡ Some o → f (suc n) ≡ Some o

abbrev pub plus : ℕ → ℕ → ℕ
plus zero n = n
plus (suc m) n = suc (plus m n)

plus-suc : (m n : ℕ) → plus m (suc n) ≡ suc (plus m n)
plus-suc zero n = refl
plus-suc (suc m) n = ap (λ x. suc x) (plus-suc m n)

plus-zero : (m : ℕ) → plus m zero ≡ m
plus-zero zero = refl
plus-zero (suc m) = ap (λ x. suc x) (plus-zero m)

plus-turned : (m n : ℕ) → plus m n ≡ plus n m
plus-turned zero n = sym (plus-zero n)
plus-turned (suc m) n = ap (λ x. suc x) (plus-turned m n) ∙ sym (plus-suc n m)

pub rises-plus : {X : Type 0} (f : ℕ → Option X) → Rises f → (m n : ℕ) (o : X) → f n ≡ Some o → f (plus m n) ≡ Some o
rises-plus f h zero n o e = e
rises-plus f h (suc m) n o e = h (plus m n) o (rises-plus f h m n o e)

pub rises-plus_left : {X : Type 0} (f : ℕ → Option X) → Rises f → (m n : ℕ) (o : X) → f m ≡ Some o → f (plus m n) ≡ Some o
rises-plus_left f h m n o e = subst (λ x. f x ≡ Some o) (plus-turned n m) (rises-plus f h n m o e)

pub last_step-rises : (k : Key) (i : Item) → Rises (λ n. last_step n k i)
unfolding last_step
last_step-rises k (Code e allow) = code_outcome-rises k e allow
last_step-rises k (Text bytes allow) = λ n o h. h
last_step-rises k (Location l) = λ n o h. h
last_step-rises k (Compare v c) = λ n o h. h
last_step-rises k (Entry e) = λ n o h. h
last_step-rises k (Fault b) = λ n o h. h

unless_limit-rises : (k : Key) (w : Option Why) (a b : Option Outcome) (o : Outcome) → (a ≡ Some o → b ≡ Some o) → unless_limit k w a ≡ Some o → unless_limit k w b ≡ Some o
unless_limit-rises k (Some w) a b o h e = e
unless_limit-rises k None a b o h e = h e

closed-rises : (r : Record) (k : Key) (i : Item) → Rises (λ n. closed r n k i)
closed-rises r k (Code e allow) n o h = unless_limit-rises k (limit_at r k) _ _ o (last_step-rises k (Code e allow) n o) h
closed-rises r k (Text bytes allow) n o h = last_step-rises k (Text bytes allow) n o h
closed-rises r k (Location l) n o h = last_step-rises k (Location l) n o h
closed-rises r k (Compare v c) n o h = last_step-rises k (Compare v c) n o h
closed-rises r k (Entry e) n o h = last_step-rises k (Entry e) n o h
closed-rises r k (Fault b) n o h = last_step-rises k (Fault b) n o h

pub ended-rises : (r : Record) (k : Key) (s : Stage) → Rises (λ n. ended r n k s)
ended-rises r k (Has i) n o h = closed-rises r k i n o h
ended-rises r k (Meets j) n o h = h
ended-rises r k (Lacks p) n o h = none-some refl h
ended-rises r k (Waits y) n o h = none-some refl h

-- a stage that has ended stays
pub ended-grown : (r : Record) (n : ℕ) (k : Key) (more : Ask) (s s' : Stage) (o : Outcome) → StageGrown more s s' → ended r n k s ≡ Some o → ended r n k s' ≡ Some o
ended-grown r n k more (Has i) s' o g h = subst (λ x. ended r n k x ≡ Some o) (sym g) h
ended-grown r n k more (Meets j) s' o g h = subst (λ x. ended r n k x ≡ Some o) (sym g) h
ended-grown r n k more (Lacks p) s' o g h = none-some refl h
ended-grown r n k more (Waits y) s' o g h = none-some refl h

-- ---- the limits matter at the key alone

closed-limit : (r r' : Record) (n : ℕ) (k : Key) (i : Item) → limit_at r k ≡ limit_at r' k → closed r n k i ≡ closed r' n k i
closed-limit r r' n k (Code e allow) h = ap (λ w. unless_limit k w (last_step n k (Code e allow))) h
closed-limit r r' n k (Text bytes allow) h = refl
closed-limit r r' n k (Location l) h = refl
closed-limit r r' n k (Compare v c) h = refl
closed-limit r r' n k (Entry e) h = refl
closed-limit r r' n k (Fault b) h = refl

pub ended-limit : (r r' : Record) (n : ℕ) (k : Key) (s : Stage) → limit_at r k ≡ limit_at r' k → ended r n k s ≡ ended r' n k s
ended-limit r r' n k (Has i) h = closed-limit r r' n k i h
ended-limit r r' n k (Meets j) h = refl
ended-limit r r' n k (Lacks p) h = refl
ended-limit r r' n k (Waits y) h = refl

-- ---- the resolver

either-some : (b : Bool) (a c d : Option Outcome) (o : Outcome) → (c ≡ Some o → d ≡ Some o) → (if b then a else c) ≡ Some o → (if b then a else d) ≡ Some o
either-some true a c d o f h = h
either-some false a c d o f h = f h

pub resolve-rises : (r : Record) (n : ℕ) (ancestors : List Key) → Knows (resolve r n ancestors) (resolve r (suc n) ancestors)
resolve-rises r zero ancestors k o h = none-some refl h
resolve-rises r (suc n) ancestors k o h =
    either-some (is_in k ancestors) (Some (Loop (least_back_to k ancestors)))
    (ended r n k (stage r (resolve r n (k ∷ ancestors)) k)) (ended r (suc n) k (stage r (resolve r (suc n) (k ∷ ancestors)) k)) o
    (λ e. ended-rises r k (stage r (resolve r (suc n) (k ∷ ancestors)) k) n o
    (ended-grown r n k (resolve r (suc n) (k ∷ ancestors)) _ _ o
    (stage-grown r r (longer-itself r) _ _ (resolve-rises r n (k ∷ ancestors)) k) e))
    h

-- more texts and looks change no outcome
pub resolve-grown : (r r' : Record) → Longer r r' → ((k : Key) → limit_at r k ≡ limit_at r' k) → (n : ℕ) (ancestors : List Key) → Knows (resolve r n ancestors) (resolve r' n ancestors)
resolve-grown r r' l m zero ancestors k o h = none-some refl h
resolve-grown r r' l m (suc n) ancestors k o h =
    either-some (is_in k ancestors) (Some (Loop (least_back_to k ancestors)))
    (ended r n k (stage r (resolve r n (k ∷ ancestors)) k)) (ended r' n k (stage r' (resolve r' n (k ∷ ancestors)) k)) o
    (λ e. sym (ended-limit r r' n k (stage r' (resolve r' n (k ∷ ancestors)) k) (m k))
    ∙ ended-grown r n k (resolve r' n (k ∷ ancestors)) _ _ o
    (stage-grown r r' l _ _ (resolve-grown r r' l m n (k ∷ ancestors)) k) e)
    h

-- the resolver gives a key one outcome
pub resolves-one : (r : Record) (k : Key) (o p : Outcome) → Resolves r k o → Resolves r k p → o ≡ p
resolves-one r k o p (n, h) (m, g) =
    some-equal (
    sym (rises-plus_left (λ x. resolve r x [] k) (λ x q e. resolve-rises r x [] k q e) n m o h)
    ∙ rises-plus (λ x. resolve r x [] k) (λ x q e. resolve-rises r x [] k q e) n m p g)
