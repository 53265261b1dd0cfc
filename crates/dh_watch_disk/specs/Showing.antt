-- What is shown of locations that are asked, and again after looks at the files that were fetched for them.
use Rattle.std.specs.Prelude.{◌≡◌, ◌+◌, ◌||◌, ℕ, Bool, true, false, if◌then◌else◌, List, [], ◌∷◌, ◌++◌, Option, Some, None, length, slice_get}
use Rattle.std.specs.Str.{bytes_eq}
use Rattle.dh_command.specs.declared.statuses.Status.{Status}
use Rattle.dh_command.specs.declared.statuses.Status.TheVariants as status
use Rattle.dh_script_laws.specs.Answering.{Refusal}
use Rattle.dh_script_laws.specs.Scripts.{ask_line, first_fault, refused_line, refusal_status, refusal_text}
use Rattle.dh_syntax.specs.declared.locations.Loc.{Loc}
use Rattle.dh_watch_laws.specs.ScriptLines.{Ask, Drop}
use Rattle.dh_watching.specs.declared.watches.WatchFault.TheVariants as faults
use Rattle.dh_watching.specs.Steps.{Follows, State, refusal_of}
use Rattle.dh_watch_disk.specs.declared.told.Told.{Told}
use Rattle.dh_watch_disk.specs.declared.told.Told.TheVariants as tolds

-- ---- what is told of a location

-- the text, without a count
abbrev pub told_text : Told → List ℕ
told_text (tolds.Line line) = line.text
told_text (tolds.Refused f) = refusal_text (refusal_of f)

-- the status of an ask by what is told of its location
abbrev pub told_status : Told → Status
told_status (tolds.Line line) = line.status
told_status (tolds.Refused f) = refusal_status (refusal_of f)

-- the line that tells of a location: with its count of locations, or why the ask was refused
abbrev pub told_line : Loc → Told → List ℕ
told_line l (tolds.Line line) = ask_line l line.text line.asked
told_line l (tolds.Refused f) = refused_line l (refusal_of f)

-- the line is shown, unless the same text was told before
abbrev pub shown : Loc → Option Told → Told → List ℕ
shown l None t = told_line l t
shown l (Some before) t = if bytes_eq (told_text before) (told_text t) then [] else told_line l t

-- the status of the first location of which no digest is told
abbrev pub status_of : List Told → Status
status_of [] = status.Ok
status_of (t ∷ ts) = first_fault (told_status t) (status_of ts)

-- another ask may tell something else though no file is another: it was refused since a device failed, or for want of memory
abbrev pub is_open : Told → Bool
is_open (tolds.Line line) = false
is_open (tolds.Refused faults.Failed) = true
is_open (tolds.Refused faults.TooMany) = false
is_open (tolds.Refused faults.Memory) = true

-- whether another ask of one of these locations may tell something else though no file is another
abbrev pub are_open : List Told → Bool
are_open [] = false
are_open (t ∷ ts) = is_open t || are_open ts

-- ---- asks and edits

-- the refusal of an ask, where it was refused
abbrev pub told_refusals : Told → List Refusal
told_refusals (tolds.Line line) = []
told_refusals (tolds.Refused f) = refusal_of f ∷ []

-- a location was asked, and this was told
abbrev pub IsTold : State → State → Loc → Told → Type 0
IsTold a b l t = Follows a b (Ask l) (told_line l t) (told_status t) (told_refusals t)

-- The first so many of some locations were asked, each in turn, and this was told of them; of the same locations this was told before, and
-- these bytes were shown.
pub data Asks (locs : List Loc) (before : List Told) (a : State) : ℕ → State → List Told → List ℕ → Type 0 where
  begins : Asks locs before a 0 a [] []
  goes_on : {n : ℕ} {b c : State} {now : List Told} {out : List ℕ} (l : Loc) (t : Told) → Asks locs before a n b now out
      → slice_get locs n ≡ Some l → IsTold b c l t → Asks locs before a (n + 1) c (now ++ t ∷ []) (out ++ shown l (slice_get before n) t)

-- texts were forgotten, each in turn
pub data Edits (a : State) : State → Type 0 where
  unedited : Edits a a
  edited : {b c : State} (l : Loc) → Edits a b → Follows b c (Drop l) [] status.Ok [] → Edits a c

-- ---- looks

-- All locations were asked, and then so many looks were made at the files. This was told of them last, and these bytes were shown.
pub data Shows (locs : List Loc) (a : State) : ℕ → State → List Told → List ℕ → Type 0 where
  all_asked : {b : State} {now : List Told} {out : List ℕ} → Asks locs [] a (length locs) b now out → Shows locs a 0 b now out
  -- no file was another, and no ask is to be made again
  rested : {n : ℕ} {b : State} {now : List Told} {out : List ℕ} → Shows locs a n b now out → are_open now ≡ false → Shows locs a (n + 1) b now out
  -- all locations were asked again
  asked_again : {n : ℕ} {b c d : State} {now next : List Told} {out more : List ℕ} → Shows locs a n b now out → Edits b c
      → Asks locs now c (length locs) d next more → Shows locs a (n + 1) d next (out ++ more)

-- the same, but that the last time not all of them were asked
pub data ShowsPart (locs : List Loc) (a : State) : State → List ℕ → Type 0 where
  part_asked : {k : ℕ} {b : State} {now : List Told} {out : List ℕ} → Asks locs [] a k b now out → ShowsPart locs a b out
  part_asked_again : {n k : ℕ} {b c d : State} {now next : List Told} {out more : List ℕ} → Shows locs a n b now out → Edits b c
      → Asks locs now c k d next more → ShowsPart locs a d (out ++ more)
