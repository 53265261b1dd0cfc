-- What a script of edits and asks writes.
use Rattle.std.specs.Prelude.{◌≡◌, ◌≤◌, ℕ, Bool, true, false, List, [], ◌∷◌, ◌++◌, codes}
use Rattle.std.specs.Fmt.{decimal}
use Rattle.dh_syntax.specs.declared.locations.Loc.{Loc}
use Rattle.dh_syntax.specs.Imports.Locations.{loc_text}
use Rattle.dh_command.specs.declared.statuses.Status.{Status}
use Rattle.dh_command.specs.declared.statuses.Status.TheVariants as status
use Rattle.dh_command.specs.Lines.{memory_line}
use Rattle.dh_imports.specs.declared.outcomes.Why.TheVariants as why
use Rattle.dh_imports.specs.ImportFaults.{why_line}
use Rattle.dh_watch_laws.specs.Contents.{Now, dropped, set}
use Rattle.dh_watch_laws.specs.Editing.{edited}
use Rattle.dh_watch_laws.specs.Overflowing.{Overflows}
use Rattle.dh_watch_laws.specs.ScriptLines.{Order, Set, Drop, Ask, IsScript}
use Rattle.dh_watch_laws.specs.VisitCounts.{AreFew}
use Rattle.dh_script_laws.specs.Answering.{Refusal, Failed, TooMany, Memory}
use Rattle.dh_script_laws.specs.Asks.{root_key, IsAsked}

-- the line of an ask of this location: the line of its root, and how many locations were fetched for it
abbrev pub ask_line : Loc → List ℕ → ℕ → List ℕ
ask_line l line n = loc_text l ++ (codes ": " ++ (line ++ (codes " (asked " ++ (decimal n ++ codes ")\n"))))

-- the status of the first ask that is not good
abbrev pub first_fault : Status → Status → Status
first_fault status.Ok s = s
first_fault s _ = s

-- what these orders write over the contents, where these locations were asked since they were edited, and the status
pub data Watched : Now → List Loc → List Order → List ℕ → Status → Type 0 where
  ends : {now : Now} {asked : List Loc} → Watched now asked [] [] status.Ok
  sets : {now : Now} {asked : List Loc} {l : Loc} {bytes out : List ℕ} {rest : List Order} {s : Status}
      → Watched (set l bytes now) (edited l asked) rest out s → Watched now asked (Set l bytes ∷ rest) out s
  drops : {now : Now} {asked : List Loc} {l : Loc} {out : List ℕ} {rest : List Order} {s : Status}
      → Watched (dropped l now) (edited l asked) rest out s → Watched now asked (Drop l ∷ rest) out s
  asks : {now : Now} {asked new : List Loc} {l : Loc} {line out : List ℕ} {rest : List Order} {s s' : Status} {n : ℕ}
      → IsAsked now asked l line s n new → Watched now (new ++ asked) rest out s' → Watched now asked (Ask l ∷ rest) (ask_line l line n ++ out) (first_fault s s')

-- what a script writes, from contents that are empty
pub data ScriptWrites (bytes : List ℕ) (out : List ℕ) (st : Status) : Type 0 where
  writes : (orders : List Order) → IsScript bytes orders → Watched [] [] orders out st → ScriptWrites bytes out st

-- ---- where asks are refused

-- the text that tells why an ask is refused
abbrev pub refusal_text : Refusal → List ℕ
refusal_text Failed = why_line why.Failed
refusal_text TooMany = why_line why.TooMany
refusal_text Memory = memory_line

-- the status of an ask that is refused
abbrev pub refusal_status : Refusal → Status
refusal_status Failed = status.Desk
refusal_status TooMany = status.Limit
refusal_status Memory = status.Memory

-- the line of an ask that is refused has no count
abbrev pub refused_line : Loc → Refusal → List ℕ
refused_line l f = loc_text l ++ (codes ": " ++ (refusal_text f ++ codes "\n"))

-- the resolver visits too many keys, where that is why
abbrev pub IsGrounded : Now → Loc → Refusal → Type 0
IsGrounded now l TooMany = Overflows now (root_key l)
IsGrounded now l Failed = Unit {0}
IsGrounded now l Memory = Unit {0}

-- What these orders write where asks may be refused, in this order: each other line is as without them, but for the count, which is at
-- most that; it is exact as long as none was refused. No ask that has a line visits more keys than are allowed.
pub data Tried : Now → List Loc → Bool → List Order → List ℕ → Status → List Refusal → Type 0 where
  ends : {now : Now} {asked : List Loc} {exact : Bool} → Tried now asked exact [] [] status.Ok []
  sets : {now : Now} {asked : List Loc} {exact : Bool} {l : Loc} {bytes out : List ℕ} {rest : List Order} {s : Status} {refused : List Refusal}
      → Tried (set l bytes now) (edited l asked) exact rest out s refused → Tried now asked exact (Set l bytes ∷ rest) out s refused
  drops : {now : Now} {asked : List Loc} {exact : Bool} {l : Loc} {out : List ℕ} {rest : List Order} {s : Status} {refused : List Refusal}
      → Tried (dropped l now) (edited l asked) exact rest out s refused → Tried now asked exact (Drop l ∷ rest) out s refused
  asks : {now : Now} {asked new : List Loc} {exact : Bool} {l : Loc} {line out : List ℕ} {rest : List Order} {s s' : Status} {n most : ℕ} {refused : List Refusal}
      → (a : IsAsked now asked l line s most new) → AreFew a.recorded a.units (root_key l) → n ≤ most → (exact ≡ true → n ≡ most) → Tried now (new ++ asked) exact rest out s' refused
      → Tried now asked exact (Ask l ∷ rest) (ask_line l line n ++ out) (first_fault s s') refused
  refuses : {now : Now} {asked : List Loc} {exact : Bool} {l : Loc} {out : List ℕ} {rest : List Order} {s : Status} {refused : List Refusal} (f : Refusal)
      → IsGrounded now l f → Tried now asked false rest out s refused
      → Tried now asked exact (Ask l ∷ rest) (refused_line l f ++ out) (first_fault (refusal_status f) s) (f ∷ refused)

-- Where none is refused, that is what the script writes.
abbrev pub TriedIsWatched : Type 0
TriedIsWatched =
    (now : Now) (asked : List Loc) (orders : List Order) (out : List ℕ) (s : Status) → Tried now asked true orders out s [] → Watched now asked orders out s
