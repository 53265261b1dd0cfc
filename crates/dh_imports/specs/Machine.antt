-- The table that workers share: its tasks, its steps, and the state that a history leaves.
use Rattle.std.specs.Prelude.{◌≡◌, ◌⊎◌, ℕ, suc, true, if◌then◌else◌, List, [], ◌∷◌, length, Option, Some, None, is_none}
use Rattle.dh_syntax.specs.declared.locations.Digest.{Digest}
use Rattle.dh_syntax.specs.declared.locations.Key.{Key}
use Rattle.dh_syntax.specs.declared.locations.Loc.{Loc}
use Rattle.dh_syntax.specs.Expressions.Numbers.{eq}
use Rattle.dh_syntax.specs.Expressions.Tree.{Term}
use Rattle.dh_syntax.specs.Imports.Keys.{key_eq, key_le}
use Rattle.dh_imports.specs.LastStep.{Code, own}
use Rattle.dh_imports.specs.declared.outcomes.Why.{Why}
use Rattle.dh_imports.specs.Outcomes.{Outcome, Loop}
use Rattle.dh_imports.specs.Records.{lookup, Record, Noted, Seen, nothing_recorded, IsParsed, IsGood, IsLimitOf}
use Rattle.dh_imports.specs.Resolver.{TextOf, LookOf, Plan, Unknown, Now, Walks, Asks, plan, Stage, Lacks, Has, Meets, Waits, stage, ended}
use Rattle.dh_imports.specs.Walk.{Ask, Walked, walk, wants}

-- ---- tasks

-- the tasks of workers: to fetch the text of a location, to look up a digest, or to finish a key
pub data Task : Type 0 where
  Fetch : Loc → Task
  Look : Digest → Task
  Finish : Key → Task

-- the list has this element
abbrev pub IsAmong : {A : Type 0} → A → List A → Type 0
IsAmong a [] = ⊥
IsAmong a (b ∷ bs) = (b ≡ a) ⊎ IsAmong a bs

-- the state of the table: the root, what was recorded, the outcomes, the tasks in flight, and the tasks drawn so far
pub record State : Type 0 where
  pub root : Term
  pub recorded : Record
  -- the latest first
  pub outcomes : List (Key × Outcome)
  -- the serials in flight, each with its task
  pub flights : List (ℕ × Task)
  -- the task of each serial drawn so far, the latest first
  pub drawn : List Task

-- the state at the start: nothing is recorded and no task is drawn
abbrev pub opening : Term → State
opening root = record { root = root; recorded = nothing_recorded; outcomes = []; flights = []; drawn = [] }

-- the outcome of a key in a state, where it has one
abbrev pub outcome_of : State → Ask
outcome_of s k = lookup key_eq s.outcomes k

-- the stage of a key in a state
abbrev pub stage_of : State → Key → Stage
stage_of s k = stage s.recorded (outcome_of s) k

-- the walk of the root in a state
abbrev pub root_walk : State → Walked Term
root_walk s = walk None (outcome_of s) s.root

-- what an undecided key leads to: the key without its digest, or the wants of its walk
abbrev pub leads_by : Ask → Key → Plan → List Key
leads_by ask k (Unknown p) = []
leads_by ask k (Now i) = []
leads_by ask k (Walks e allow) = wants (Some k) ask e
leads_by ask k (Asks j) = if is_none (ask j) then j ∷ [] else []

-- the keys that an undecided key leads to in a state
abbrev pub leads_to : State → Key → List Key
leads_to s k = leads_by (outcome_of s) k (plan s.recorded k)

-- the undecided keys that the root wants, and those to which these lead
pub data Wanted (s : State) : Key → Type 0 where
  by_root : {k : Key} → IsAmong k (wants None (outcome_of s) s.root) → Wanted s k
  by_key : {j k : Key} → Wanted s j → IsAmong k (leads_to s j) → Wanted s k

-- the last step of a key is due
abbrev pub IsDue : Stage → Type 0
IsDue (Lacks p) = ⊥
IsDue (Has i) = Unit {0}
IsDue (Meets j) = Unit {0}
IsDue (Waits y) = ⊥

-- the task of a wanted key that has no blocking key
pub data TaskOf (s : State) : Task → Type 0 where
  looks : {k : Key} {d : Digest} → Wanted s k → stage_of s k ≡ Lacks (LookOf d) → TaskOf s (Look d)
  fetches : {k : Key} {l : Loc} → Wanted s k → stage_of s k ≡ Lacks (TextOf l) → TaskOf s (Fetch l)
  finishes : {k : Key} → Wanted s k → IsDue (stage_of s k) → TaskOf s (Finish k)

-- a task is in flight under this serial
abbrev pub InFlight : State → ℕ → Task → Type 0
InFlight s serial t = lookup eq s.flights serial ≡ Some t

-- a task is due and no worker has it in flight
pub record IsOpen (s : State) (t : Task) : Type 0 where
  pub due : TaskOf s t
  pub free : (serial : ℕ) → ¬ InFlight s serial t

-- ---- blocking keys

-- y is the blocking key of x, which is undecided
abbrev pub Blocks : Record → Ask → Key → Key → Type 0
Blocks r ask x y = (ask x ≡ None) × (stage r ask x ≡ Waits y)

-- along these steps from x one comes to j, and no key on the way comes before j
pub data Ring (To : Key → Key → Type 0) (j : Key) : Key → Type 0 where
  closes : Ring To j j
  goes : {x y : Key} → To x y → key_le j x ≡ true → Ring To j y → Ring To j x

-- j is the least key of a loop along blocking keys
abbrev pub LeastOfLoop : Record → Ask → Key → Type 0
LeastOfLoop r ask j = (y : Key) × Blocks r ask j y × Ring (Blocks r ask) j y

-- ---- steps

-- what a worker brings. A finish names the key with its item and its outcome; the limit is the one that was met, if any.
pub data News : Type 0 where
  fetched : Loc → Noted → News
  looked : Digest → Seen → News
  finished : Key → Stage → Option Why → Outcome → News

-- a step with what it brings
pub data Event : Type 0 where
  Claim : ℕ → Task → Event
  Release : ℕ → Event
  Fetched : ℕ → Loc → Noted → Event
  Looked : ℕ → Digest → Seen → Event
  Finished : ℕ → Key → Stage → Option Why → Outcome → Event
  Late : ℕ → News → Event
  Cycled : Key → Event

-- the news is of a task that is in flight under this serial, a finish with the key's own item
abbrev pub IsInTime : State → ℕ → News → Type 0
IsInTime s serial (fetched l text) = InFlight s serial (Fetch l)
IsInTime s serial (looked d look) = InFlight s serial (Look d)
IsInTime s serial (finished k i limit o) = InFlight s serial (Finish k) × (stage_of s k ≡ i)

-- the outcome is that of the last step, or a limit that is licensed for the key's code
abbrev pub IsDone : State → Key → Stage → Option Why → Outcome → Type 0
IsDone s k i None o = (n : ℕ) × (ended s.recorded n k i ≡ Some o)
IsDone s k i (Some w) o = (e : Term) × (allow : Option (List ℕ)) × (i ≡ Has (Code e allow)) × IsLimitOf e w × (o ≡ own k w)

-- the condition of a step
abbrev pub May : Event → State → Type 0
May (Claim worker t) s = IsOpen s t
May (Release serial) s = (t : Task) × InFlight s serial t
May (Fetched serial l text) s = IsInTime s serial (fetched l text) × IsParsed text
May (Looked serial d look) s = IsInTime s serial (looked d look) × IsGood d look
May (Finished serial k i limit o) s = IsInTime s serial (finished k i limit o) × IsDone s k i limit o
May (Late serial news) s = ¬ IsInTime s serial news
May (Cycled k) s = (s.flights ≡ []) × ((t : Task) → ¬ IsOpen s t) × LeastOfLoop s.recorded (outcome_of s) k

-- the tasks in flight but for that of this serial
abbrev pub without : ℕ → List (ℕ × Task) → List (ℕ × Task)
without serial [] = []
without serial (f ∷ fs) = if eq f.0 serial then without serial fs else f ∷ without serial fs

-- the state where the task of this serial is no longer in flight
abbrev pub landed : ℕ → State → State
landed serial s = record s { flights = without serial s.flights }

-- the record with one more text at a location
abbrev pub with_text : Record → Loc → Noted → Record
with_text r l text = record r { texts = (l, text) ∷ r.texts }

-- the record with one more look at a digest
abbrev pub with_look : Record → Digest → Seen → Record
with_look r d look = record r { looks = (d, look) ∷ r.looks }

-- the record with one more limit, if there is one
abbrev pub with_limit : Record → Key → Option Why → Record
with_limit r k None = r
with_limit r k (Some w) = record r { limits = (k, w) ∷ r.limits }

-- the state with one more outcome of a key
abbrev pub with_outcome : State → Key → Outcome → State
with_outcome s k o = record s { outcomes = (k, o) ∷ s.outcomes }

-- the state after a step
abbrev pub effect : Event → State → State
effect (Claim worker t) s = record s { flights = (suc (length s.drawn), t) ∷ s.flights; drawn = t ∷ s.drawn }
effect (Release serial) s = landed serial s
effect (Fetched serial l text) s = record (landed serial s) { recorded = with_text s.recorded l text }
effect (Looked serial d look) s = record (landed serial s) { recorded = with_look s.recorded d look }
effect (Finished serial k i limit o) s = with_outcome (record (landed serial s) { recorded = with_limit s.recorded k limit }) k o
effect (Late serial news) s = s
effect (Cycled k) s = with_outcome s k (Loop k)

-- ---- histories, the latest step first

-- the state after these steps, the latest first, from a root
abbrev pub after_all : Term → List Event → State
after_all root [] = opening root
after_all root (e ∷ es) = effect e (after_all root es)

-- the condition of every step held
abbrev pub Lawful : Term → List Event → Type 0
Lawful root [] = Unit {0}
Lawful root (e ∷ es) = Lawful root es × May e (after_all root es)
