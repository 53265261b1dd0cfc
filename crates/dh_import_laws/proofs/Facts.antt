-- What a record says is true, and stays so.
use Rattle.std.specs.Prelude.{◌≡◌, ◌⊎◌, ℕ, Bool, true, false, List, [], ◌∷◌, Option, Some, None, refl}
use Rattle.std.proofs.Common.{ap, sym, ◌∙◌, subst, inl, inr}
use Rattle.dh_syntax.specs.declared.locations.Key.{Key}
use Rattle.dh_syntax.specs.Expressions.SameTree.{digest_eq, loc_eq}
use Rattle.dh_syntax.specs.Expressions.Tree.{Term}
use Rattle.dh_syntax.proofs.SameTree.{Tells, locs_tell, digests_tell}
use Rattle.dh_import_laws.specs.ImportLaws.{IsDecided, InFlightUnrecorded, OutcomesStay, RootStays, TextsAreParsed, EntriesAreGood, LimitsAreLicensed}
use Rattle.dh_syntax.specs.Imports.Keys.{key_eq}
use Rattle.dh_imports.specs.LastStep.{Code, own}
use Rattle.dh_imports.specs.Machine.{State, outcome_of, stage_of, root_walk, Fetch, Look, Finish, Event, Claim, Release, Fetched, Looked, Finished, Late, Cycled, May, with_limit, effect, after_all, Lawful}
use Rattle.dh_imports.specs.declared.outcomes.Why.{Why}
use Rattle.dh_imports.specs.Outcomes.{Outcome, Loop}
use Rattle.dh_imports.specs.Records.{lookup, Record, limit_at, IsParsed, IsGood, IsLimitOf}
use Rattle.dh_imports.specs.Resolver.{Stage, Has}
use Rattle.dh_laws.proofs.KeyOrder.{bool-case, none-some, some-equal, key_eq-true, key_eq-itself}
use Rattle.dh_imports.specs.Walk.{Walked, Ready, Fails, Turns, Needs, Ask, walk}
use Rattle.dh_import_laws.proofs.Walks.{Knows, Grown, walk-grown}
use Rattle.dh_import_laws.proofs.Grow.{Longer, longer-itself, StageGrown, stage-grown}
use Rattle.dh_import_laws.proofs.Calm.{at-same, at-grown}
use Rattle.dh_import_laws.proofs.Keep.{Inv, lawful-keeps, named-same, named-other, named-grown, keys_tell, limits_longer}

-- ---- steps lose nothing

pub record Grows (s s' : State) : Type 0 where
  pub longer : Longer s.recorded s'.recorded
  pub knows : Knows (outcome_of s) (outcome_of s')

same_knows : (s : State) → Knows (outcome_of s) (outcome_of s)
same_knows s k o h = h

pub step-grows : (e : Event) (s : State) → Inv s → May e s → Grows s (effect e s)
step-grows (Claim worker t) s i m = record { longer = longer-itself s.recorded; knows = λ k o h. h }
step-grows (Release serial) s i m = record { longer = longer-itself s.recorded; knows = λ k o h. h }
step-grows (Fetched serial l text) s i m = record {
  longer = record { texts = named-grown locs_tell s.recorded.texts l text (i.fresh serial (Fetch l) m.0); looks = λ d look h. h };
  knows = λ k o h. h;
}
step-grows (Looked serial d look) s i m = record {
  longer = record { texts = λ l t h. h; looks = named-grown digests_tell s.recorded.looks d look (i.fresh serial (Look d) m.0) };
  knows = λ k o h. h;
}
step-grows (Finished serial k item limit o) s i m = record { longer = limits_longer s.recorded k limit; knows = at-grown s.outcomes k o (i.fresh serial (Finish k) m.0.0) }
step-grows (Late serial news) s i m = record { longer = longer-itself s.recorded; knows = λ k o h. h }
step-grows (Cycled k) s i m = record { longer = longer-itself s.recorded; knows = at-grown s.outcomes k (Loop k) (m.2.1).0 }

-- ---- texts and entries

abbrev IsTrueOf : {A B : Type 0} → (A → A → Bool) → (A → B → Type 0) → List (A × B) → Type 0
IsTrueOf {A = A} {B = B} same P ps = (a : A) (b : B) → lookup same ps a ≡ Some b → P a b

one_more_true : {A B : Type 0} {same : A → A → Bool} → Tells same → (P : A → B → Type 0) (ps : List (A × B)) (a : A) (b : B) → P a b → IsTrueOf same P ps → IsTrueOf same P ((a, b) ∷ ps)
one_more_true {A = A} {B = B} {same = same} t P ps a b p f x c h = go (bool-case (same a x))
  where
    go : (same a x ≡ true) ⊎ (same a x ≡ false) → P x c
    go (inl e) = subst (λ z. P z c) (t.equal a x e) (subst (P a) (some-equal (sym (named-same t ps a x b e) ∙ h)) p)
    go (inr e) = f x c (sym (named-other t ps a x b e) ∙ h)

abbrev TextsTrue : Record → Type 0
TextsTrue r = IsTrueOf loc_eq (λ l t. IsParsed t) r.texts

abbrev LooksTrue : Record → Type 0
LooksTrue r = IsTrueOf digest_eq IsGood r.looks

limit-texts : (r : Record) (k : Key) (limit : Option Why) → TextsTrue r → TextsTrue (with_limit r k limit)
limit-texts r k None f = f
limit-texts r k (Some w) f = f

limit-looks : (r : Record) (k : Key) (limit : Option Why) → LooksTrue r → LooksTrue (with_limit r k limit)
limit-looks r k None f = f
limit-looks r k (Some w) f = f

texts_true : (root : Term) (es : List Event) → Lawful root es → TextsTrue (after_all root es).recorded
texts_true root [] h = λ l t e. none-some refl e
texts_true root (Claim worker t ∷ es) h = texts_true root es h.0
texts_true root (Release serial ∷ es) h = texts_true root es h.0
texts_true root (Fetched serial l text ∷ es) h = one_more_true locs_tell (λ l t. IsParsed t) (after_all root es).recorded.texts l text h.1.1 (texts_true root es h.0)
texts_true root (Looked serial d look ∷ es) h = texts_true root es h.0
texts_true root (Finished serial k item limit o ∷ es) h = limit-texts (after_all root es).recorded k limit (texts_true root es h.0)
texts_true root (Late serial news ∷ es) h = texts_true root es h.0
texts_true root (Cycled k ∷ es) h = texts_true root es h.0

looks_true : (root : Term) (es : List Event) → Lawful root es → LooksTrue (after_all root es).recorded
looks_true root [] h = λ d look e. none-some refl e
looks_true root (Claim worker t ∷ es) h = looks_true root es h.0
looks_true root (Release serial ∷ es) h = looks_true root es h.0
looks_true root (Fetched serial l text ∷ es) h = looks_true root es h.0
looks_true root (Looked serial d look ∷ es) h = one_more_true digests_tell IsGood (after_all root es).recorded.looks d look h.1.1 (looks_true root es h.0)
looks_true root (Finished serial k item limit o ∷ es) h = limit-looks (after_all root es).recorded k limit (looks_true root es h.0)
looks_true root (Late serial news ∷ es) h = looks_true root es h.0
looks_true root (Cycled k ∷ es) h = looks_true root es h.0

pub texts_are_parsed : TextsAreParsed
texts_are_parsed root es l t h e = texts_true root es h l t e

pub entries_are_good : EntriesAreGood
entries_are_good root es d look h e = looks_true root es h d look e

-- ---- limits

abbrev LimitTrue : State → Key → Why → Type 0
LimitTrue s k w = (e : Term) × (allow : Option (List ℕ)) × (stage_of s k ≡ Has (Code e allow)) × IsLimitOf e w × (outcome_of s k ≡ Some (own k w))

limit-grows : (s s' : State) → Grows s s' → (k : Key) (w : Why) → LimitTrue s k w → LimitTrue s' k w
limit-grows s s' g k w (e, allow, p, l, o) = (
  e,
  allow,
  subst (λ x. StageGrown (outcome_of s') x (stage_of s' k)) p (stage-grown s.recorded s'.recorded g.longer (outcome_of s) (outcome_of s') g.knows k),
  l,
  g.knows k (own k w) o,
)

abbrev LimitsTrue : State → Type 0
LimitsTrue s = (k : Key) (w : Why) → limit_at s.recorded k ≡ Some w → LimitTrue s k w

finish-limits : (s : State) (serial : ℕ) (k : Key) (item : Stage) (limit : Option Why) (o : Outcome) → Inv s → May (Finished serial k item limit o) s → LimitsTrue s → LimitsTrue (effect (Finished serial k item limit o) s)
finish-limits s serial k item None o i m f x w h = limit-grows s (effect (Finished serial k item None o) s) (step-grows (Finished serial k item None o) s i m) x w (f x w h)
finish-limits s serial k item (Some v) o i m f x w h = go (bool-case (key_eq k x))
  where
    g : Grows s (effect (Finished serial k item (Some v) o) s)
    g = step-grows (Finished serial k item (Some v) o) s i m

    go : (key_eq k x ≡ true) ⊎ (key_eq k x ≡ false) → LimitTrue (effect (Finished serial k item (Some v) o) s) x w
    go (inr e) = limit-grows s (effect (Finished serial k item (Some v) o) s) g x w (f x w (sym (named-other keys_tell s.recorded.limits k x v e) ∙ h))
    go (inl e) =
        let d = m.1 in
        let same : v ≡ w = some-equal (sym (named-same keys_tell s.recorded.limits k x v e) ∙ h) in
        let at_k : LimitTrue (effect (Finished serial k item (Some v) o) s) k v = (
          d.0,
          d.1,
          subst (λ z. StageGrown (outcome_of (effect (Finished serial k item (Some v) o) s)) z (stage_of (effect (Finished serial k item (Some v) o) s) k)) (m.0.1 ∙ d.2)
              (stage-grown s.recorded (with_limit s.recorded k (Some v)) g.longer (outcome_of s) (outcome_of (effect (Finished serial k item (Some v) o) s)) g.knows k),
          d.3,
          at-same s.outcomes k k o (key_eq-itself k) ∙ ap (λ z. Some z) d.4,
        ) in
        subst (λ z. LimitTrue (effect (Finished serial k item (Some v) o) s) z w) (key_eq-true k x e)
        (subst (λ z. LimitTrue (effect (Finished serial k item (Some v) o) s) k z) same at_k)

limits_step : (e : Event) (s : State) → Inv s → May e s → LimitsTrue s → LimitsTrue (effect e s)
limits_step (Claim worker t) s i m f k w h = f k w h
limits_step (Release serial) s i m f k w h = f k w h
limits_step (Fetched serial l text) s i m f k w h = limit-grows s (effect (Fetched serial l text) s) (step-grows (Fetched serial l text) s i m) k w (f k w h)
limits_step (Looked serial d look) s i m f k w h = limit-grows s (effect (Looked serial d look) s) (step-grows (Looked serial d look) s i m) k w (f k w h)
limits_step (Finished serial j item limit o) s i m f k w h = finish-limits s serial j item limit o i m f k w h
limits_step (Late serial news) s i m f k w h = f k w h
limits_step (Cycled j) s i m f k w h = limit-grows s (effect (Cycled j) s) (step-grows (Cycled j) s i m) k w (f k w h)

limits_true : (root : Term) (es : List Event) → Lawful root es → LimitsTrue (after_all root es)
limits_true root [] h = λ k w e. none-some refl e
limits_true root (e ∷ es) h = limits_step e (after_all root es) (lawful-keeps root es h.0) h.1 (limits_true root es h.0)

pub limits_are_licensed : LimitsAreLicensed
limits_are_licensed root es k w h e = limits_true root es h k w e

-- ---- what stays

pub in_flight_unrecorded : InFlightUnrecorded
in_flight_unrecorded root es n t h f = (lawful-keeps root es h).fresh n t f

pub outcomes_stay : OutcomesStay
outcomes_stay root es e k o h q = (step-grows e (after_all root es) (lawful-keeps root es h.0) h.1).knows k o q

pub root_step : (e : Event) (s : State) → (effect e s).root ≡ s.root
root_step (Claim w t) s = refl
root_step (Release n) s = refl
root_step (Fetched n l t) s = refl
root_step (Looked n d look) s = refl
root_step (Finished n k i limit o) s = refl
root_step (Late n news) s = refl
root_step (Cycled k) s = refl

pub decided_same : (more : Ask) (v w : Walked Term) → Grown more v w → IsDecided v → w ≡ v
decided_same more (Ready x) w g d = g
decided_same more (Fails b) w g d = g
decided_same more (Turns j) w g d = g
decided_same more (Needs y) w g d = absurd d

pub root_stays : RootStays
root_stays root es e h d =
    let s = after_all root es in
    let s' = effect e s in
    let g = step-grows e s (lawful-keeps root es h.0) h.1 in
    ap (λ x. walk None (outcome_of s') x) (root_step e s)
    ∙ decided_same (outcome_of s') (root_walk s) (walk None (outcome_of s') s.root) (walk-grown None (outcome_of s) (outcome_of s') g.knows s.root) d
