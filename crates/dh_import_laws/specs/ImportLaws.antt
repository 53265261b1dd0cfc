-- Laws of the resolver and of the table.
use Rattle.std.specs.Prelude.{◌≡◌, ◌⊎◌, ℕ, suc, true, List, [], ◌∷◌, Option, Some, None}
use Rattle.dh_syntax.specs.declared.faults.TypeFault.TheVariants as type
use Rattle.dh_syntax.specs.declared.locations.Digest.{Digest}
use Rattle.dh_syntax.specs.declared.locations.Key.{Key}
use Rattle.dh_syntax.specs.declared.locations.Loc.{Loc}
use Rattle.dh_syntax.specs.declared.locations.Mode.TheVariants as modes
use Rattle.dh_syntax.specs.Typing.Inference.{Has}
use Rattle.dh_syntax.specs.Normalising.Named.{names}
use Rattle.dh_syntax.specs.Typing.NamedTyping.{Infers, IsIll}
use Rattle.dh_syntax.specs.Normalising.Normal.{HasNormalForm}
use Rattle.dh_syntax.specs.Expressions.Tree.{Term}
use Rattle.dh_syntax.specs.Imports.Keys.{bare, key_le}
use Rattle.dh_imports.specs.LastStep.{Code, own, last_step}
use Rattle.dh_imports.specs.Machine.{IsAmong, Task, Fetch, Look, Finish, State, outcome_of, stage_of, root_walk, leads_to, Wanted, IsDue, IsOpen, InFlight, Event, Claim, Cycled, May, effect, after_all, Lawful}
use Rattle.dh_imports.specs.declared.outcomes.Origin.TheVariants as origins
use Rattle.dh_imports.specs.declared.outcomes.Why.TheVariants as whys
use Rattle.dh_imports.specs.declared.outcomes.Why.{Why}
use Rattle.dh_imports.specs.Outcomes.{Outcome, Good}
use Rattle.dh_imports.specs.Records as found
use Rattle.dh_imports.specs.Records.{Record, Noted, Seen, text_at, look_at, limit_at, IsParsed, IsGood, IsLimitOf}
use Rattle.dh_imports.specs.Replay.{has_too_many}
use Rattle.dh_imports.specs.Resolver.{Has, resolve, Resolves, ResolvesRoot, unfetched}
use Rattle.dh_imports.specs.Keeps.{Visited, AreKeeps}
use Rattle.dh_imports.specs.Walk.{Ask, walk, Walked, Ready, Turns, Needs}

-- ---- the order of keys

-- of two keys one comes before the other, or they are equal
abbrev pub KeysTotal : Type 0
KeysTotal = (j k : Key) → (key_le j k ≡ true) ⊎ (key_le k j ≡ true)

-- a key that comes before one that comes before a third comes before that
abbrev pub KeysTransitive : Type 0
KeysTransitive = (i j k : Key) → key_le i j ≡ true → key_le j k ≡ true → key_le i k ≡ true

-- keys that come before each other are equal
abbrev pub KeysAntisymmetric : Type 0
KeysAntisymmetric = (j k : Key) → key_le j k ≡ true → key_le k j ≡ true → j ≡ k

-- ---- the resolver

-- the resolver gives a key one outcome
abbrev pub OneOutcome : Type 0
OneOutcome = (r : Record) (k : Key) (o p : Outcome) → Resolves r k o → Resolves r k p → o ≡ p

-- more to spend changes no outcome
abbrev pub MoreToSpend : Type 0
MoreToSpend = (r : Record) (n : ℕ) (ancestors : List Key) (k : Key) (o : Outcome) → resolve r n ancestors k ≡ Some o → resolve r (suc n) ancestors k ≡ Some o

-- the second record has each text and each look of the first, and the same limits
pub record HasMore (r r' : Record) : Type 0 where
  pub texts : (l : Loc) (t : Noted) → text_at r l ≡ Some t → text_at r' l ≡ Some t
  pub looks : (d : Digest) (s : Seen) → look_at r d ≡ Some s → look_at r' d ≡ Some s
  pub limits : (k : Key) → limit_at r k ≡ limit_at r' k

-- more texts and looks change no outcome
abbrev pub MoreRecorded : Type 0
MoreRecorded = (r r' : Record) → HasMore r r' → (k : Key) (o : Outcome) → Resolves r k o → Resolves r' k o

-- the code e of a key comes to this outcome by the rules of typing and normalising, whatever the units
pub data ComesOf (k : Key) (e : Term) (allow : Option (List ℕ)) : Outcome → Type 0 where
  normal : {f : Term} (units : ℕ) (t : Term) (left : ℕ) → Infers [] units e (Has t left) → HasNormalForm names e f → ComesOf k e allow (Good f (origins.Fetched allow))
  ill : {path : List ℕ} {number : ℕ} → IsIll [] e path number
      → ComesOf k e allow (own k (whys.Typing (type.Ill (record { path = path; rule = number }))))

-- The last step of code is by these rules.
abbrev pub CodeComesOf : Type 0
CodeComesOf = (n : ℕ) (k : Key) (e : Term) (allow : Option (List ℕ)) (o : Outcome) → last_step n k (Code e allow) ≡ Some o → ComesOf k e allow o

-- What these rules give the last step gives, where there is enough to spend.
abbrev pub CodeComes : Type 0
CodeComes = (k : Key) (e : Term) (allow : Option (List ℕ)) (o : Outcome) → ComesOf k e allow o → (n : ℕ) × (last_step n k (Code e allow) ≡ Some o)

-- So by these rules code comes to one outcome.
abbrev pub OneOutcomeOfCode : Type 0
OneOutcomeOfCode = (k : Key) (e : Term) (allow : Option (List ℕ)) (o p : Outcome) → ComesOf k e allow o → ComesOf k e allow p → o ≡ p

-- ---- the table

-- After every history each outcome is the resolver's over the record of the state.
abbrev pub OutcomesAreResolved : Type 0
OutcomesAreResolved =
    (root : Term) (es : List Event) (k : Key) (o : Outcome) → Lawful root es
    → outcome_of (after_all root es) k ≡ Some o → Resolves (after_all root es).recorded k o

-- a walk comes to an end, and needs no further key
abbrev pub IsDecided : {X : Type 0} → Walked X → Type 0
IsDecided (Needs y) = ⊥
IsDecided _ = Unit {0}

-- So is the end of the root, once it is decided.
abbrev pub RootIsResolved : Type 0
RootIsResolved =
    (root : Term) (es : List Event) → Lawful root es → IsDecided (root_walk (after_all root es))
    → ResolvesRoot (after_all root es).recorded root (root_walk (after_all root es))

-- Where nothing is in flight, no task is open and the root is undecided, a loop can be marked; then the root is decided
-- by it, or a task is open.
abbrev pub GoesOn : Type 0
GoesOn =
    (s : State) (y : Key) → s.flights ≡ [] → ((t : Task) → ¬ IsOpen s t) → root_walk s ≡ Needs y
    → (j : Key) × May (Cycled j) s × ((root_walk (effect (Cycled j) s) ≡ Turns j) ⊎ ((t : Task) × IsOpen (effect (Cycled j) s) t))

-- Each claim of a fetch names the location of a wanted key that is not frozen, is not read as a location, and is at no
-- location that is never fetched.
abbrev pub FetchesAreWanted : Type 0
FetchesAreWanted =
    (s : State) (worker : ℕ) (l : Loc) → May (Claim worker (Fetch l)) s
    → (k : Key) × Wanted s k × (k.loc ≡ l) × (k.digest ≡ None) × (¬ (k.mode ≡ modes.Location)) × (unfetched k.loc ≡ None) × (text_at s.recorded l ≡ None)

-- Through a frozen key only the key without its digest is wanted, and only where its look is recorded and is no good entry.
abbrev pub FrozenLeadAfterLooks : Type 0
FrozenLeadAfterLooks =
    (s : State) (j : Key) (d : Digest) (k : Key) → j.digest ≡ Some d → IsAmong k (leads_to s j)
    → (k ≡ bare j) × (look : Seen) × (look_at s.recorded d ≡ Some look) × ((bytes : List ℕ) (e : Term) → ¬ (look ≡ found.Good bytes e))

-- A task is in flight under one serial at most.
abbrev pub InFlightOnce : Type 0
InFlightOnce =
    (root : Term) (es : List Event) (m n : ℕ) (t : Task) → Lawful root es
    → InFlight (after_all root es) m t → InFlight (after_all root es) n t → m ≡ n

-- What is in flight is not recorded.
abbrev pub IsUnrecorded : State → Task → Type 0
IsUnrecorded s (Fetch l) = text_at s.recorded l ≡ None
IsUnrecorded s (Look d) = look_at s.recorded d ≡ None
IsUnrecorded s (Finish k) = outcome_of s k ≡ None

-- what is in flight is not recorded yet
abbrev pub InFlightUnrecorded : Type 0
InFlightUnrecorded =
    (root : Term) (es : List Event) (n : ℕ) (t : Task) → Lawful root es
    → InFlight (after_all root es) n t → IsUnrecorded (after_all root es) t

-- The last step of a key whose finish is in flight is due.
abbrev pub InFlightDue : Type 0
InFlightDue =
    (root : Term) (es : List Event) (n : ℕ) (k : Key) → Lawful root es
    → InFlight (after_all root es) n (Finish k) → IsDue (stage_of (after_all root es) k)

-- A step changes no outcome, and no end of the root.
abbrev pub OutcomesStay : Type 0
OutcomesStay =
    (root : Term) (es : List Event) (e : Event) (k : Key) (o : Outcome) → Lawful root (e ∷ es)
    → outcome_of (after_all root es) k ≡ Some o → outcome_of (after_all root (e ∷ es)) k ≡ Some o

-- what the root comes to stays as it is, once it is decided
abbrev pub RootStays : Type 0
RootStays =
    (root : Term) (es : List Event) (e : Event) → Lawful root (e ∷ es) → IsDecided (root_walk (after_all root es))
    → root_walk (after_all root (e ∷ es)) ≡ root_walk (after_all root es)

-- Keys that are too many stay so.
abbrev pub TooManyStay : Type 0
TooManyStay = (e : Event) (s : State) → has_too_many s ≡ true → has_too_many (effect e s) ≡ true

-- Where the root is ready, the keys that are visited by the table's outcomes are those that the resolver visits, and the
-- outcomes of these are the same.
abbrev pub VisitsAreResolved : Type 0
VisitsAreResolved =
    (root : Term) (es : List Event) (v : Term) → Lawful root es → walk None (outcome_of (after_all root es)) root ≡ Ready v
    → (n : ℕ) × (walk None (resolve (after_all root es).recorded n []) root ≡ Ready v)
    × ((k : Key) → Visited (after_all root es).recorded (outcome_of (after_all root es)) root k
    → Visited (after_all root es).recorded (resolve (after_all root es).recorded n []) root k
    × (outcome_of (after_all root es) k ≡ resolve (after_all root es).recorded n [] k))
    × ((k : Key) → Visited (after_all root es).recorded (resolve (after_all root es).recorded n []) root k
    → Visited (after_all root es).recorded (outcome_of (after_all root es)) root k)

-- A run keeps one list of cache entries.
abbrev pub OneListOfKeeps : Type 0
OneListOfKeeps =
    (r : Record) (ask : Ask) (root : Term) (kept others : List (Digest × List ℕ))
    → AreKeeps r ask root kept → AreKeeps r ask root others → kept ≡ others

-- ---- what a record says is true

-- what a text is recorded to parse to is what it parses to
abbrev pub TextsAreParsed : Type 0
TextsAreParsed =
    (root : Term) (es : List Event) (l : Loc) (t : Noted) → Lawful root es
    → text_at (after_all root es).recorded l ≡ Some t → IsParsed t

-- each recorded look is good: where it has an entry, that is one of its digest
abbrev pub EntriesAreGood : Type 0
EntriesAreGood =
    (root : Term) (es : List Event) (d : Digest) (look : Seen) → Lawful root es
    → look_at (after_all root es).recorded d ≡ Some look → IsGood d look

-- a limit is licensed for the code of its key, and decides it
abbrev pub LimitsAreLicensed : Type 0
LimitsAreLicensed =
    (root : Term) (es : List Event) (k : Key) (w : Why) → Lawful root es → limit_at (after_all root es).recorded k ≡ Some w
    → (e : Term) × (allow : Option (List ℕ)) × (stage_of (after_all root es) k ≡ Has (Code e allow)) × IsLimitOf e w
    × (outcome_of (after_all root es) k ≡ Some (own k w))
