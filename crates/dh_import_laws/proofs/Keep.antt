-- Every step keeps the log of justified outcomes, and that what is in flight is unrecorded and in flight once.
use Rattle.std.specs.Prelude.{◌≡◌, ◌⊎◌, ℕ, zero, suc, Bool, true, false, if◌then◌else◌, List, [], ◌∷◌, length, Option, Some, None, refl}
use Rattle.std.proofs.Common.{ap, sym, ◌∙◌, subst, inl, inr}
use Rattle.dh_syntax.specs.declared.locations.Digest.{Digest}
use Rattle.dh_syntax.specs.declared.locations.Key.{Key}
use Rattle.dh_syntax.specs.declared.locations.Loc.{Loc}
use Rattle.dh_syntax.specs.Expressions.Numbers.{eq}
use Rattle.dh_syntax.specs.Expressions.Tree.{Term}
use Rattle.dh_syntax.proofs.Numbers.{eq-itself, eq-true}
use Rattle.dh_syntax.proofs.SameTree.{Tells, locs_tell, digests_tell}
use Rattle.dh_import_laws.specs.ImportLaws.{IsUnrecorded}
use Rattle.dh_syntax.specs.Imports.Keys.{key_eq}
use Rattle.dh_imports.specs.LastStep.{Code, last_step}
use Rattle.dh_imports.specs.Machine.{Task, Fetch, Look, Finish, State, outcome_of, stage_of, TaskOf, looks, fetches, finishes, InFlight, IsOpen, Blocks, Ring, closes, goes, LeastOfLoop, IsDone, Event, Claim, Release, Fetched, Looked, Finished, Late, Cycled, May, without, landed, with_text, with_look, with_limit, effect, after_all, Lawful}
use Rattle.dh_imports.specs.declared.outcomes.Why.{Why}
use Rattle.dh_imports.specs.Outcomes.{Outcome, Loop}
use Rattle.dh_imports.specs.Records.{lookup, Record, Noted, Seen, limit_at}
use Rattle.dh_imports.specs.Resolver.{TextOf, LookOf, Stage, Waits, stage, unless_limit, ended}
use Rattle.dh_imports.specs.Walk.{Ask}
use Rattle.dh_laws.proofs.KeyOrder.{bool-case, true_false, none-some, some-equal, key_eq-true, key_eq-itself}
use Rattle.dh_import_laws.proofs.Grow.{Longer, longer-itself, OnWait, StageGrown, stage-grown, StageTold, stage-told, ended-grown, ended-limit}
use Rattle.dh_import_laws.proofs.Calm.{Outcomes, at, at-same, at-grown}
use Rattle.dh_import_laws.proofs.Sound.{Log, start, fin, cyc}
use Rattle.dh_import_laws.proofs.Plans.{unknown-told, wanted-undecided}

-- ---- lists with names

module _ {A B : Type 0} {same : A → A → Bool} (t : Tells same) where
  pub named-same : (ps : List (A × B)) (a x : A) (b : B) → same a x ≡ true → lookup same ((a, b) ∷ ps) x ≡ Some b
  named-same ps a x b h = ap (λ c. if c then Some b else lookup same ps x) h

  pub named-other : (ps : List (A × B)) (a x : A) (b : B) → same a x ≡ false → lookup same ((a, b) ∷ ps) x ≡ lookup same ps x
  named-other ps a x b h = ap (λ c. if c then Some b else lookup same ps x) h

  -- what is named anew
  pub named-grown : (ps : List (A × B)) (a : A) (b : B) → lookup same ps a ≡ None → (x : A) (c : B) → lookup same ps x ≡ Some c → lookup same ((a, b) ∷ ps) x ≡ Some c
  named-grown ps a b e x c h = go (bool-case (same a x))
    where
      go : (same a x ≡ true) ⊎ (same a x ≡ false) → lookup same ((a, b) ∷ ps) x ≡ Some c
      go (inl y) = none-some e (subst (λ z. lookup same ps z ≡ Some c) (sym (t.equal a x y)) h)
      go (inr n) = named-other ps a x b n ∙ h

-- ---- the log under a longer record

-- the keys that have an outcome have the same limits
abbrev SameLimits : Record → Record → Outcomes → Type 0
SameLimits r r' l = (k : Key) (o : Outcome) → at l k ≡ Some o → limit_at r k ≡ limit_at r' k

waits-grown : (r r' : Record) → Longer r r' → (ask : Ask) (x y : Key) → stage r ask x ≡ Waits y → stage r' ask x ≡ Waits y
waits-grown r r' g ask x y e =
    let n : ask y ≡ None = subst (λ s. StageTold r ask x s) e (stage-told r ask x) in
    let h : StageGrown ask (Waits y) (stage r' ask x) = subst (λ s. StageGrown ask s (stage r' ask x)) e (stage-grown r r' g ask ask (λ k o q. q) x) in
    subst (λ a. OnWait y (stage r' ask x) a) n h

ring-grown : (r r' : Record) → Longer r r' → (ask : Ask) (j x : Key) → Ring (Blocks r ask) j x → Ring (Blocks r' ask) j x
ring-grown r r' g ask j x closes = closes
ring-grown r r' g ask j x (goes {y = y} b i q) = goes (b.0, waits-grown r r' g ask x y b.1) i (ring-grown r r' g ask j y q)

log-grown : (r r' : Record) → Longer r r' → {l : Outcomes} → Log r l → SameLimits r r' l → Log r' l
log-grown r r' g start s = start
log-grown r r' g (fin {l = l} {k = k} {o = o} log e n h) s =
    fin (log-grown r r' g log (λ x p q. s x p (at-grown l k o e x p q))) e n
    (sym (ended-limit r r' n k (stage r' (at l) k) (s k o (at-same l k k o (key_eq-itself k))))
    ∙ ended-grown r n k (at l) (stage r (at l) k) (stage r' (at l) k) o (stage-grown r r' g (at l) (at l) (λ x p q. q) k) h)
log-grown r r' g (cyc {l = l} {k = k} log (y, b, ring)) s =
    cyc (log-grown r r' g log (λ x p q. s x p (at-grown l k (Loop k) b.0 x p q)))
    (y, (b.0, waits-grown r r' g (at l) k y b.1), ring-grown r r' g (at l) k y ring)

-- ---- flights

pub task-unrecorded : (s : State) (t : Task) → TaskOf s t → IsUnrecorded s t
task-unrecorded s (Look d) (looks {k = k} w e) = (unknown-told s.recorded (outcome_of s) k (LookOf d) e).1
task-unrecorded s (Fetch l) (fetches {k = k} w e) = (unknown-told s.recorded (outcome_of s) k (TextOf l) e).2
task-unrecorded s (Finish k) (finishes w d) = wanted-undecided w

eq-false : (a b : ℕ) → eq a b ≡ false → ¬ (a ≡ b)
eq-false a b h p = true_false (subst (λ x. eq a x ≡ true) p (eq-itself a)) h

Kept : ℕ → ℕ → Task → List (ℕ × Task) → Type 0
Kept n m t fs = (lookup eq fs m ≡ Some t) × (eq n m ≡ false)

kept_cons : (n m a : ℕ) (b t : Task) (fs : List (ℕ × Task)) → eq a n ≡ false → (lookup eq (without n fs) m ≡ Some t → Kept n m t fs)
    → lookup eq ((a, b) ∷ without n fs) m ≡ Some t → Kept n m t ((a, b) ∷ fs)
unfolding Kept
kept_cons n m a b t fs h f q = go (bool-case (eq a m))
  where
    differs : eq a m ≡ true → (eq n m ≡ true) ⊎ (eq n m ≡ false) → eq n m ≡ false
    differs e (inr x) = x
    differs e (inl x) = absurd (eq-false a n h (eq-true a m e ∙ sym (eq-true n m x)))

    go : (eq a m ≡ true) ⊎ (eq a m ≡ false) → (lookup eq ((a, b) ∷ fs) m ≡ Some t) × (eq n m ≡ false)
    go (inl e) =
        (ap (λ c. if c then Some b else lookup eq fs m) e ∙ sym (ap (λ c. if c then Some b else lookup eq (without n fs) m) e) ∙ q, differs e (bool-case (eq n m)))
    go (inr e) =
        let k = f (sym (ap (λ c. if c then Some b else lookup eq (without n fs) m) e) ∙ q) in
        (ap (λ c. if c then Some b else lookup eq fs m) e ∙ k.0, k.1)

kept_skip : (n m a : ℕ) (b t : Task) (fs : List (ℕ × Task)) → eq a n ≡ true → Kept n m t fs → Kept n m t ((a, b) ∷ fs)
unfolding Kept
kept_skip n m a b t fs h (p, q) =
    let e : eq a m ≡ false = subst (λ x. eq x m ≡ false) (sym (eq-true a n h)) q in
    (ap (λ c. if c then Some b else lookup eq fs m) e ∙ p, q)

kept : (n m : ℕ) (t : Task) (fs : List (ℕ × Task)) → lookup eq (without n fs) m ≡ Some t → Kept n m t fs
kept n m t [] h = none-some refl h
kept n m t (f ∷ fs) h = go (bool-case (eq f.0 n)) (λ q. kept n m t fs q)
  where
    go : (eq f.0 n ≡ true) ⊎ (eq f.0 n ≡ false) → (lookup eq (without n fs) m ≡ Some t → Kept n m t fs) → Kept n m t (f ∷ fs)
    go (inl e) k = kept_skip n m f.0 f.1 t fs e (k (subst (λ c. lookup eq (if c then without n fs else f ∷ without n fs) m ≡ Some t) e h))
    go (inr e) k = kept_cons n m f.0 f.1 t fs e k (subst (λ c. lookup eq (if c then without n fs else f ∷ without n fs) m ≡ Some t) e h)

-- what is still in flight was in flight
pub flew : (n m : ℕ) (t : Task) (fs : List (ℕ × Task)) → lookup eq (without n fs) m ≡ Some t → lookup eq fs m ≡ Some t
unfolding Kept
flew n m t fs h = (kept n m t fs h).0

pub record Inv (s : State) : Type 0 where
  pub log : Log s.recorded s.outcomes
  pub fresh : (n : ℕ) (t : Task) → InFlight s n t → IsUnrecorded s t
  pub once : (m n : ℕ) (t : Task) → InFlight s m t → InFlight s n t → m ≡ n

module _ (s : State) (i : Inv s) (serial : ℕ) where
  landed-fresh : (n : ℕ) (t : Task) → InFlight (landed serial s) n t → IsUnrecorded s t
  unfolding Kept
  landed-fresh n t h = i.fresh n t (kept serial n t s.flights h).0

  landed-once : (m n : ℕ) (t : Task) → InFlight (landed serial s) m t → InFlight (landed serial s) n t → m ≡ n
  unfolding Kept
  landed-once m n t h k = i.once m n t (kept serial m t s.flights h).0 (kept serial n t s.flights k).0

  -- the task that landed is in flight no more
  landed-other : (n : ℕ) (t : Task) → InFlight s serial t → ¬ InFlight (landed serial s) n t
  unfolding Kept
  landed-other n t h k = let q = kept serial n t s.flights k in eq-false serial n q.1 (i.once serial n t h q.0)

claim-keeps : (s : State) (worker : ℕ) (t : Task) → Inv s → IsOpen s t → Inv (effect (Claim worker t) s)
claim-keeps s worker t i o = record { log = i.log; fresh = λ n u h. new n u h (bool-case (eq here n)); once = λ m n u h k. one m n u h k (bool-case (eq here m)) (bool-case (eq here n)) }
  where
    here : ℕ
    here = suc (length s.drawn)

    look_there : (n : ℕ) (b : Bool) → eq (suc (length s.drawn)) n ≡ b → (u : Task) → lookup eq ((suc (length s.drawn), t) ∷ s.flights) n ≡ Some u → (if b then Some t else lookup eq s.flights n) ≡ Some u
    look_there n b e u h = subst (λ c. (if c then Some t else lookup eq s.flights n) ≡ Some u) e h

    new : (n : ℕ) (u : Task) → InFlight (effect (Claim worker t) s) n u → (eq (suc (length s.drawn)) n ≡ true) ⊎ (eq (suc (length s.drawn)) n ≡ false) → IsUnrecorded s u
    new n u h (inl e) = subst (IsUnrecorded s) (some-equal (look_there n true e u h)) (task-unrecorded s t o.due)
    new n u h (inr e) = i.fresh n u (look_there n false e u h)

    one : (m n : ℕ) (u : Task) → InFlight (effect (Claim worker t) s) m u → InFlight (effect (Claim worker t) s) n u
        → (eq (suc (length s.drawn)) m ≡ true) ⊎ (eq (suc (length s.drawn)) m ≡ false) → (eq (suc (length s.drawn)) n ≡ true) ⊎ (eq (suc (length s.drawn)) n ≡ false) → m ≡ n
    one m n u h k (inl e) (inl f) = sym (eq-true (suc (length s.drawn)) m e) ∙ eq-true (suc (length s.drawn)) n f
    one m n u h k (inl e) (inr f) = absurd (o.free n (subst (λ x. InFlight s n x) (sym (some-equal (look_there m true e u h))) (look_there n false f u k)))
    one m n u h k (inr e) (inl f) = absurd (o.free m (subst (λ x. InFlight s m x) (sym (some-equal (look_there n true f u k))) (look_there m false e u h)))
    one m n u h k (inr e) (inr f) = i.once m n u (look_there m false e u h) (look_there n false f u k)

release-keeps : (s : State) (serial : ℕ) → Inv s → Inv (landed serial s)
release-keeps s serial i = record { log = i.log; fresh = landed-fresh s i serial; once = landed-once s i serial }

-- a name that is not this one
unnamed : {A B : Type 0} {same : A → A → Bool} → Tells same → (ps : List (A × B)) (a x : A) (b : B) → ¬ (a ≡ x) → lookup same ps x ≡ None → lookup same ((a, b) ∷ ps) x ≡ None
unnamed {same = same} t ps a x b n h = go (bool-case (same a x))
  where
    go : (same a x ≡ true) ⊎ (same a x ≡ false) → lookup same ((a, b) ∷ ps) x ≡ None
    go (inl e) = absurd (n (t.equal a x e))
    go (inr e) = named-other t ps a x b e ∙ h

pub keys_tell : Tells key_eq
keys_tell = record { itself = key_eq-itself; equal = key_eq-true }

fetched-keeps : (s : State) (serial : ℕ) (l : Loc) (text : Noted) → Inv s → InFlight s serial (Fetch l) → Inv (effect (Fetched serial l text) s)
fetched-keeps s serial l text i f = record {
  log = log-grown s.recorded (with_text s.recorded l text) longer i.log (λ k o h. refl);
  fresh = fresh;
  once = landed-once s i serial;
}
  where
    longer : Longer s.recorded (with_text s.recorded l text)
    longer = record { texts = named-grown locs_tell s.recorded.texts l text (i.fresh serial (Fetch l) f); looks = λ d look h. h }

    fresh : (n : ℕ) (t : Task) → InFlight (landed serial s) n t → IsUnrecorded (effect (Fetched serial l text) s) t
    fresh n (Fetch m) h =
        unnamed locs_tell s.recorded.texts l m text
        (λ p. landed-other s i serial n (Fetch m) (subst (λ x. InFlight s serial (Fetch x)) p f) h) (landed-fresh s i serial n (Fetch m) h)
    fresh n (Look d) h = landed-fresh s i serial n (Look d) h
    fresh n (Finish k) h = landed-fresh s i serial n (Finish k) h

looked-keeps : (s : State) (serial : ℕ) (d : Digest) (look : Seen) → Inv s → InFlight s serial (Look d) → Inv (effect (Looked serial d look) s)
looked-keeps s serial d look i f = record {
  log = log-grown s.recorded (with_look s.recorded d look) longer i.log (λ k o h. refl);
  fresh = fresh;
  once = landed-once s i serial;
}
  where
    longer : Longer s.recorded (with_look s.recorded d look)
    longer = record { texts = λ l text h. h; looks = named-grown digests_tell s.recorded.looks d look (i.fresh serial (Look d) f) }

    fresh : (n : ℕ) (t : Task) → InFlight (landed serial s) n t → IsUnrecorded (effect (Looked serial d look) s) t
    fresh n (Look e) h =
        unnamed digests_tell s.recorded.looks d e look
        (λ p. landed-other s i serial n (Look e) (subst (λ x. InFlight s serial (Look x)) p f) h) (landed-fresh s i serial n (Look e) h)
    fresh n (Fetch l) h = landed-fresh s i serial n (Fetch l) h
    fresh n (Finish k) h = landed-fresh s i serial n (Finish k) h

-- ---- a finish

pub limits_longer : (r : Record) (k : Key) (limit : Option Why) → Longer r (with_limit r k limit)
limits_longer r k None = longer-itself r
limits_longer r k (Some w) = record { texts = λ l t h. h; looks = λ d s h. h }

limits-same : (r : Record) (l : Outcomes) (k : Key) (limit : Option Why) → at l k ≡ None → SameLimits r (with_limit r k limit) l
limits-same r l k None e x o h = refl
limits-same r l k (Some w) e x o h = go (bool-case (key_eq k x))
  where
    go : (key_eq k x ≡ true) ⊎ (key_eq k x ≡ false) → limit_at r x ≡ limit_at (with_limit r k (Some w)) x
    go (inl t) = none-some e (subst (λ z. at l z ≡ Some o) (sym (key_eq-true k x t)) h)
    go (inr t) = sym (named-other keys_tell r.limits k x w t)

done-log : (s : State) (k : Key) (i : Stage) (limit : Option Why) (o : Outcome) → Log s.recorded s.outcomes → outcome_of s k ≡ None → stage_of s k ≡ i → IsDone s k i limit o
    → Log (with_limit s.recorded k limit) ((k, o) ∷ s.outcomes)
done-log s k i None o log e g (n, h) = fin log e n (subst (λ x. ended s.recorded n k x ≡ Some o) (sym g) h)
done-log s k i (Some w) o log e g (x, allow, p, licensed, q) =
    fin (log-grown s.recorded r' (limits_longer s.recorded k (Some w)) log (limits-same s.recorded s.outcomes k (Some w) e)) e zero limited
  where
    r' : Record
    r' = with_limit s.recorded k (Some w)

    limited : ended (with_limit s.recorded k (Some w)) zero k (stage (with_limit s.recorded k (Some w)) (at s.outcomes) k) ≡ Some o
    limited =
        ap (λ z. ended (with_limit s.recorded k (Some w)) zero k z) (g ∙ p)
        ∙ ap (λ z. unless_limit k z (last_step zero k (Code x allow))) (named-same keys_tell s.recorded.limits k k w (key_eq-itself k))
        ∙ ap (λ z. Some z) (sym q)

finished-keeps : (s : State) (serial : ℕ) (k : Key) (item : Stage) (limit : Option Why) (o : Outcome) → Inv s → InFlight s serial (Finish k) → stage_of s k ≡ item → IsDone s k item limit o
    → Inv (effect (Finished serial k item limit o) s)
finished-keeps s serial k item limit o i f g d = record {
  log = done-log s k item limit o i.log (i.fresh serial (Finish k) f) g d;
  fresh = λ n t h. fresh limit n t h;
  once = landed-once s i serial;
}
  where
    fresh : (w : Option Why) (n : ℕ) (t : Task) → InFlight (landed serial s) n t → IsUnrecorded (effect (Finished serial k item w o) s) t
    fresh w n (Finish j) h =
        unnamed keys_tell s.outcomes k j o
        (λ p. landed-other s i serial n (Finish j) (subst (λ x. InFlight s serial (Finish x)) p f) h) (landed-fresh s i serial n (Finish j) h)
    fresh None n (Fetch l) h = landed-fresh s i serial n (Fetch l) h
    fresh (Some w) n (Fetch l) h = landed-fresh s i serial n (Fetch l) h
    fresh None n (Look d) h = landed-fresh s i serial n (Look d) h
    fresh (Some w) n (Look d) h = landed-fresh s i serial n (Look d) h

pub nothing_flies : {P : Type 0} (fs : List (ℕ × Task)) (n : ℕ) (t : Task) → fs ≡ [] → lookup eq fs n ≡ Some t → P
nothing_flies fs n t e h = none-some refl (subst (λ x. lookup eq x n ≡ Some t) e h)

cycled-keeps : (s : State) (k : Key) → Inv s → s.flights ≡ [] → LeastOfLoop s.recorded (outcome_of s) k → Inv (effect (Cycled k) s)
cycled-keeps s k i e loop = record {
  log = cyc i.log loop;
  fresh = λ n t h. nothing_flies s.flights n t e h;
  once = λ m n t h g. nothing_flies s.flights m t e h;
}

pub step-keeps : (e : Event) (s : State) → Inv s → May e s → Inv (effect e s)
step-keeps (Claim worker t) s i m = claim-keeps s worker t i m
step-keeps (Release serial) s i m = release-keeps s serial i
step-keeps (Fetched serial l text) s i m = fetched-keeps s serial l text i m.0
step-keeps (Looked serial d look) s i m = looked-keeps s serial d look i m.0
step-keeps (Finished serial k item limit o) s i m = finished-keeps s serial k item limit o i m.0.0 m.0.1 m.1
step-keeps (Late serial news) s i m = i
step-keeps (Cycled k) s i m = cycled-keeps s k i m.0 m.2

pub lawful-keeps : (root : Term) (es : List Event) → Lawful root es → Inv (after_all root es)
lawful-keeps root [] h = record { log = start; fresh = λ n t h. none-some refl h; once = λ m n t h g. none-some refl h }
lawful-keeps root (e ∷ es) h = step-keeps e (after_all root es) (lawful-keeps root es h.0) h.1
