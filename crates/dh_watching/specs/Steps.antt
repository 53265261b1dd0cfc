-- One order of a script, and many: what they do to what is watched, and what they write.
use Rattle.std.specs.Prelude.{◌≡◌, ◌≤◌, ◌+◌, ℕ, List, [], ◌∷◌, ◌++◌, length, Option, Some, None}
use Rattle.dh_command.specs.declared.statuses.Status.{Status}
use Rattle.dh_command.specs.declared.statuses.Status.TheVariants as status
use Rattle.dh_imports.specs.Machine.{IsAmong}
use Rattle.dh_ports.specs.Counts.{Rose}
use Rattle.dh_script_laws.specs.Answering.{AreAmong, IsAnswered, IsRefused, Refusal, Failed, TooMany, Memory}
use Rattle.dh_script_laws.specs.Scripts.{ask_line, first_fault, refused_line, refusal_status}
use Rattle.dh_syntax.specs.declared.locations.Loc.{Loc}
use Rattle.dh_watch_laws.specs.Contents.{Now, IsEdited}
use Rattle.dh_watch_laws.specs.Counting.{AreOnce}
use Rattle.dh_watch_laws.specs.Editing.{edited}
use Rattle.dh_watch_laws.specs.ScriptLines.{Order, Set, Drop, Ask}
use Rattle.dh_watching.specs.declared.watches.Line.{Line}
use Rattle.dh_watching.specs.declared.watches.WatchFault.{WatchFault}
use Rattle.dh_watching.specs.declared.watches.WatchFault.TheVariants as faults

-- why an ask is refused, by the fault of the watcher
abbrev pub refusal_of : WatchFault → Refusal
refusal_of faults.Failed = Failed
refusal_of faults.TooMany = TooMany
refusal_of faults.Memory = Memory

-- the contents are told, and these are they
abbrev pub IsTold : Option Now → Now → Type 0
IsTold told now = told ≡ Some now

-- a change of a location to these bytes, or to none: told contents stay told, and the text of that location alone is forgotten
pub record IsChange (told : Option Now) (kept : List Loc) (l : Loc) (bytes : Option (List ℕ)) (told' : Option Now) (kept' : List Loc) : Type 0 where
  pub put : (now : Now) → IsTold told now → (now' : Now) × IsTold told' now' × IsEdited now l bytes now'
  pub keeps : AreAmong (edited l kept) kept'
  pub forgets : AreAmong kept' (edited l kept)

-- the line of an ask
abbrev pub IsAnswer : Option Now → List Loc → Loc → List Loc → Line → Type 0
IsAnswer told kept l kept' line = (now : Now) → IsTold told now → IsAnswered now kept kept' l line.text line.status line.asked

-- the refusal of an ask
abbrev pub IsRefusal : Option Now → List Loc → Loc → List Loc → WatchFault → Type 0
IsRefusal told kept l kept' f = (now : Now) → IsTold told now → IsRefused now kept kept' l (refusal_of f)

-- By these counts no more texts were asked for than one of each of these locations, and one: each is kept now, and was not before.
pub record AsksOneMore (before after : List Loc) (asked asked' : ℕ) : Type 0 where
  pub locs : List Loc
  pub once : AreOnce locs
  pub fresh : (l : Loc) → IsAmong l locs → ¬ IsAmong l before
  pub kept : AreAmong locs after
  pub most : asked' ≤ asked + length locs + 1

-- what is watched: the contents, where they are told, the locations whose texts are kept, how many texts were asked for, and how many
-- calls have failed
pub record State : Type 0 where
  pub told : Option Now
  pub kept : List Loc
  pub asked : ℕ
  pub faults : ℕ

-- a state of what is watched, with these contents, kept locations, count of asked texts and count of failed calls
abbrev pub state : Option Now → List Loc → ℕ → ℕ → State
state told kept asked faults = record { told = told; kept = kept; asked = asked; faults = faults }

-- all is as it was, but for the count of calls that have failed
abbrev pub IsUnchanged : State → State → Type 0
IsUnchanged a b = (b.told ≡ a.told) × (b.kept ≡ a.kept) × (b.asked ≡ a.asked)

-- One order was followed: these bytes were written, with this status, and the ask was refused so, if it was. An edit asks for no text, and
-- an ask for no more than its line tells, or, where it was refused, for no more than its new texts and one.
pub data Follows (a b : State) : Order → List ℕ → Status → List Refusal → Type 0 where
  sets : (l : Loc) (bytes : List ℕ) → IsChange a.told a.kept l (Some bytes) b.told b.kept → b.asked ≡ a.asked → a.faults ≤ b.faults
      → Follows a b (Set l bytes) [] status.Ok []
  drops : (l : Loc) → IsChange a.told a.kept l None b.told b.kept → b.asked ≡ a.asked → a.faults ≤ b.faults → Follows a b (Drop l) [] status.Ok []
  answers : (l : Loc) (line : Line) → IsAnswer a.told a.kept l b.kept line → b.told ≡ a.told → b.asked ≤ a.asked + line.asked → a.faults ≤ b.faults
      → Follows a b (Ask l) (ask_line l line.text line.asked) line.status []
  refuses : (l : Loc) (f : WatchFault) → IsRefusal a.told a.kept l b.kept f → b.told ≡ a.told → AsksOneMore a.kept b.kept a.asked b.asked
      → a.faults ≤ b.faults → (f ≡ faults.Failed → Rose a.faults b.faults) → Follows a b (Ask l) (refused_line l (refusal_of f)) (refusal_status (refusal_of f)) (refusal_of f ∷ [])

-- Orders were followed, one after the other.
pub data Goes (a : State) : State → List Order → List ℕ → Status → List Refusal → Type 0 where
  stays : Goes a a [] [] status.Ok []
  goes_on : {b c : State} {orders : List Order} {o : Order} {out line : List ℕ} {s t : Status} {refused more : List Refusal}
      → Goes a b orders out s refused → Follows b c o line t more → Goes a c (orders ++ o ∷ []) (out ++ line) (first_fault s t) (refused ++ more)

-- an order that changes a location
abbrev pub IsEdit : Order → Type 0
IsEdit (Set l bytes) = Unit {0}
IsEdit (Drop l) = Unit {0}
IsEdit (Ask l) = ⊥
