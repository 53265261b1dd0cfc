-- A recorded look, and what each recorded step leaves as it was.
use Rattle.std.specs.Prelude.{◌≡◌, ◌+◌, ℕ, Bool, true, false, if◌then◌else◌, cond, count_by, List, ◌∷◌, Option, Some, None, IsSome, MatchOption, refl}
use Rattle.std.proofs.Common.{ap, sym, ◌∙◌, subst, arith, add-zero}
use Rattle.std.proofs.lemmas.List.Sums.{sum_by-cons}
use Rattle.dh_syntax.specs.declared.locations.Digest.{Digest}
use Rattle.dh_syntax.specs.declared.locations.Loc.{Loc}
use Rattle.dh_syntax.specs.Expressions.Tree.{Term}
use Rattle.dh_imports.specs.Machine as machine
use Rattle.dh_imports.specs.Machine.{Task, State, Event, News, InFlight, May, effect, after_all, root_walk, without}
use Rattle.dh_imports.specs.Records as found
use Rattle.dh_imports.specs.Replay.{Replays, Step, has_too_many, root_end, end_of, too_many}
use Rattle.dh_imports.specs.Walk.{Walked, Ready, Fails, Turns, Needs}
use Rattle.dh_import_laws.specs.ImportLaws.{IsDecided}
use Rattle.dh_import_laws.proofs.Counts.{too_many_stay}
use Rattle.dh_import_laws.proofs.Facts.{root_stays}
use Rattle.dh_import_laws.proofs.Laws.{in_flight_once}
use Rattle.dh_table.specs.Calls.{landing, Records, StaysDecided, failures}
use Rattle.dh_record.specs.Brought.{has_failed, is_failed, brings_failure}
use Rattle.dh_table.specs.Shown.{Shown}
use Rattle.dh_table.specs.States.{state_of, IsReplayed}
use Rattle.dh_table.proofs.RootEnds.{ends_too_many}

-- ---- a look

pub looked_state : (s : State) (fs : List (ℕ × Task)) (ls : List (Digest × found.Seen)) (serial : ℕ) (d : Digest) (look : found.Seen)
    → fs ≡ without serial s.flights → ls ≡ (d, look) ∷ s.recorded.looks → record s { flights = fs; recorded = record s.recorded { looks = ls } } ≡ effect (machine.Looked serial d look) s
looked_state s fs ls serial d look p q = λ i. record s { flights = p i; recorded = record s.recorded { looks = q i } }

-- ---- a decided root

some_decided : (w : Walked Term) → IsSome (end_of w) → IsDecided w
some_decided (Ready e) h = tt
some_decided (Fails b) h = tt
some_decided (Turns j) h = tt
some_decided (Needs k) h = let e : ⊥ = cc in absurd e

ends_anyway : (b : Bool) (w : Walked Term) → IsSome (end_of w) → IsSome (if b then Some too_many else end_of w)
ends_anyway true w h = refl
ends_anyway false w h = h

pub stays_decided : (root : Term) (drawn : List Task) (news : List News) (history : List Step) (s t : State) (e : Event) → Replays root drawn news history s → May e s → t ≡ effect e s → IsSome (root_end s) → IsSome (root_end t)
stays_decided root drawn news history s t e r may p h = subst (λ x. IsSome (root_end x)) (sym p) (go (has_too_many s) refl h)
  where
    lawful : May e (after_all root r.events)
    lawful = subst (May e) (sym r.state_is) may

    walk_same : IsDecided (root_walk s) → root_walk (effect e s) ≡ root_walk s
    walk_same d =
        ap (λ x. root_walk (effect e x)) (sym r.state_is)
        ∙ root_stays root r.events e (r.lawful, lawful) (subst (λ x. IsDecided (root_walk x)) (sym r.state_is) d)
        ∙ ap root_walk r.state_is

    go : (b : Bool) → has_too_many s ≡ b → IsSome (if b then Some too_many else end_of (root_walk s)) → IsSome (root_end (effect e s))
    go true q k = ends_too_many (effect e s) (too_many_stay e s q)
    go false q k =
        ends_anyway (has_too_many (effect e s)) (root_walk (effect e s))
        (subst (λ w. IsSome (end_of w)) (sym (walk_same (some_decided (root_walk s) k))) k)

-- news that is recorded or handed back
pub landed_decided : {N : Type 0} (P : N → Type 0) (serial : ℕ) (news : News) (old new : Shown) (o : Option N) → IsReplayed old → MatchOption o (Records serial news old new) (λ n. P n × (new ≡ old)) → StaysDecided old new
landed_decided P serial news old new None r h = stays_decided _ _ _ _ (state_of old) (state_of new) (landing serial news) r h.may h.state_is
landed_decided P serial news old new (Some n) r h = λ d. subst (λ (x : Shown). IsSome (root_end (state_of x))) (sym h.1) d

-- ---- failures

abbrev texts_failed : State → ℕ
texts_failed s = count_by (λ (t : Loc × found.Noted). has_failed t.1) s.recorded.texts

abbrev looks_failed : State → ℕ
looks_failed s = count_by (λ (x : Digest × found.Seen). is_failed x.1) s.recorded.looks

more_texts : (b : Bool) (m n : ℕ) → (cond b 1 0 + m) + n ≡ (m + n) + (if b then 1 else 0)
more_texts true m n = omega arith
more_texts false m n = omega arith

more_looks : (b : Bool) (m n : ℕ) → m + (cond b 1 0 + n) ≡ (m + n) + (if b then 1 else 0)
more_looks true m n = omega arith
more_looks false m n = omega arith

pub kept_failures : (serial : ℕ) (news : News) (s : State) → failures (effect (landing serial news) s) ≡ failures s + (if brings_failure news then 1 else 0)
kept_failures serial (machine.fetched l text) s =
    ap (λ n. n + looks_failed s) (sum_by-cons (λ (t : Loc × found.Noted). cond (has_failed t.1) 1 0) (l, text) s.recorded.texts)
    ∙ more_texts (has_failed text) (texts_failed s) (looks_failed s)
kept_failures serial (machine.looked d look) s =
    ap (λ n. texts_failed s + n) (sum_by-cons (λ (x : Digest × found.Seen). cond (is_failed x.1) 1 0) (d, look) s.recorded.looks)
    ∙ more_looks (is_failed look) (texts_failed s) (looks_failed s)
kept_failures serial (machine.finished k i None o) s = sym (add-zero (failures s))
kept_failures serial (machine.finished k i (Some w) o) s = sym (add-zero (failures s))

-- ---- one serial for a task

pub one_serial : (root : Term) (drawn : List Task) (news : List News) (history : List Step) (s : State) (m n : ℕ) (t : Task) → Replays root drawn news history s → InFlight s m t → InFlight s n t → m ≡ n
one_serial root drawn news history s m n t r f g =
    in_flight_once root r.events m n t r.lawful (subst (λ x. InFlight x m t) (sym r.state_is) f) (subst (λ x. InFlight x n t) (sym r.state_is) g)
