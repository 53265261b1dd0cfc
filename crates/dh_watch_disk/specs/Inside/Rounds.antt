-- One ask, one round of asks, and what comes of many.
use Rattle.std.specs.Prelude.{◌≡◌, ◌⊎◌, ◌≤◌, ◌+◌, ℕ, Bool, true, false, List, [], ◌∷◌, ◌++◌, Option, Result, Ok, Err, length}
use Rattle.dh_command.specs.declared.statuses.Status.{Status}
use Rattle.dh_command.specs.declared.statuses.Status.TheVariants as status
use Rattle.dh_command.specs.Lines.{write_line}
use Rattle.dh_command.specs.Responses.{line, misused, without_memory}
use Rattle.dh_ports.specs.Counts.{Rose}
use Rattle.dh_ports.specs.declared.desks.DeskError.{DeskError}
use Rattle.dh_ports.specs.declared.desks.DeskError.TheVariants as errors
use Rattle.dh_script_laws.specs.Answering.{Failed, Memory}
use Rattle.dh_script_laws.specs.Scripts.{refusal_status, refusal_text}
use Rattle.dh_streams.specs.Streams.{Gains, Output, Stops, Tries}
use Rattle.dh_syntax.specs.declared.locations.Loc.{Loc}
use Rattle.dh_watch_laws.specs.ScriptLines.{SpellsLoc}
use Rattle.dh_streams.specs.Deliveries.{Delivers}
use Rattle.dh_watching.specs.Runs.{EndsWith}
use Rattle.dh_watching.specs.Steps.{State}
use Rattle.dh_watch_disk.specs.declared.told.Told.{Told}
use Rattle.dh_watch_disk.specs.declared.told.Halt.{Halt}
use Rattle.dh_watch_disk.specs.declared.told.Halt.TheVariants as halts
use Rattle.dh_watch_disk.specs.declared.words.WordFault.{WordFault}
use Rattle.dh_watch_disk.specs.declared.words.WordFault.TheVariants as words
use Rattle.dh_watch_disk.specs.FilesRuns.{Pausing, PassesAll}
use Rattle.dh_watch_disk.specs.Showing.{Asks, Edits, IsTold, Shows, ShowsPart, are_open, shown}
use Rattle.dh_watch_disk.specs.Words.{AreLocated, IsMisused}

-- what was written up to a halt: all of it, or a first part
abbrev pub UpTo : Halt → Output → List ℕ → Type 0
UpTo halts.Cut out bytes = Stops out bytes
UpTo halts.Failed out bytes = Gains out bytes
UpTo halts.Memory out bytes = Gains out bytes

-- what became of a state at a halt
abbrev pub Halting : State → State → Halt → Type 0
Halting a b halts.Cut = b ≡ a
Halting a b halts.Failed = (a.faults ≤ b.faults) × Rose a.faults b.faults
Halting a b halts.Memory = a.faults ≤ b.faults

-- one location was asked
abbrev pub AfterAsk : State → State → Loc → Option Told → Output → Result Told Halt → Type 0
AfterAsk a b l before out (Ok t) = IsTold a b l t × Gains out (shown l before t)
AfterAsk a b l before out (Err halts.Cut) = (t : Told) × IsTold a b l t × Stops out (shown l before t)
AfterAsk a b l before out (Err halts.Failed) = ⊥
AfterAsk a b l before out (Err halts.Memory) = ⊥

-- all locations were asked
pub record HasAsked (locs : List Loc) (before : List Told) (a b : State) (n : ℕ) (out : Output) (now : List Told) : Type 0 where
  pub bytes : List ℕ
  pub asks : Asks locs before a n b now bytes
  pub gains : Gains out bytes

-- some of them were
pub record HasHalted (locs : List Loc) (before : List Told) (a b : State) (out : Output) (halt : Halt) : Type 0 where
  pub n : ℕ
  pub last : State
  pub now : List Told
  pub bytes : List ℕ
  pub asks : Asks locs before a n last now bytes
  pub writes : UpTo halt out bytes
  pub halting : Halting last b halt

-- the same after edits
abbrev pub HasStopped : List Loc → List Told → State → State → Output → Halt → Type 0
HasStopped locs before a b out halt = (c : State) × Edits a c × HasHalted locs before c b out halt

-- texts were forgotten, up to one that was not
pub record IsRefusedEdit (a b : State) (halt : Halt) : Type 0 where
  pub last : State
  pub edits : Edits a last
  pub halting : Halting last b halt
  pub uncut : ¬ (halt ≡ halts.Cut)

-- why an edit was refused
abbrev pub halt_of : DeskError → Halt
halt_of errors.Failed = halts.Failed
halt_of errors.Memory = halts.Memory

-- texts were forgotten, or some were, up to one whose forgetting was refused
abbrev pub AfterEdit : {A : Type 0} → State → State → Result A Halt → Type 0
AfterEdit a b (Ok x) = Edits a b
AfterEdit a b (Err halt) = IsRefusedEdit a b halt

-- files were looked at: the texts of those that are others were forgotten, or there are none
abbrev pub AfterLook : State → State → Result Bool Halt → Type 0
AfterLook a b (Ok true) = Edits a b
AfterLook a b (Ok false) = b ≡ a
AfterLook a b (Err halt) = IsRefusedEdit a b halt

-- files were looked at, and then the locations were asked if need be
pub data HasLooked (locs : List Loc) (before : List Told) (a b : State) (out : Output) (now : List Told) : Type 0 where
  rests : b ≡ a → are_open before ≡ false → now ≡ before → Gains out [] → HasLooked locs before a b out now
  asks : (c : State) → Edits a c → HasAsked locs before c b (length locs) out now → HasLooked locs before a b out now

-- locations were followed over so many looks
pub record HasShown (locs : List Loc) (a : State) (looks : ℕ) (b : State) (out : Output) (now : List Told) : Type 0 where
  pub bytes : List ℕ
  pub shows : Shows locs a looks b now bytes
  pub gains : Gains out bytes

-- the same to the last look
pub record HasShownAll (locs : List Loc) (a b : State) (p : Pausing) (out : Output) (now : List Told) : Type 0 where
  pub looks : ℕ
  pub shown : HasShown locs a looks b out now
  pub passes : PassesAll p looks

-- the same up to a halt
pub record HasShownPart (locs : List Loc) (a b : State) (out : Output) (halt : Halt) : Type 0 where
  pub last : State
  pub bytes : List ℕ
  pub shows : ShowsPart locs a last bytes
  pub writes : UpTo halt out bytes
  pub halting : Halting last b halt

-- how a run ends that came no further
abbrev pub EndsSo : Halt → Output → Status → Type 0
EndsSo halts.Cut err s = Tries err (line write_line) × (s ≡ status.Write)
EndsSo halts.Failed err s = EndsWith (refusal_text Failed) (refusal_status Failed) err s
EndsSo halts.Memory err s = EndsWith (refusal_text Memory) (refusal_status Memory) err s

-- ---- words

-- which word is wrong was told, or that memory was wanting for that
abbrev pub ToldWord : ℕ → Output → Output → Status → Type 0
ToldWord n out err s = Delivers (misused n) out err s ⊎ Delivers without_memory out err s

-- the word of this number spells no location
abbrev pub IsWrongWord : List ℕ → ℕ → WordFault → Type 0
IsWrongWord w number words.Memory = Unit {0}
IsWrongWord w number (words.Word n) = (n ≡ number) × ((l : Loc) → ¬ SpellsLoc w l)

-- the first of these words that spells no location, by its number, where theirs begin at 2
abbrev pub IsWrong : List (List ℕ) → WordFault → Type 0
IsWrong ws words.Memory = Unit {0}
IsWrong ws (words.Word n) =
    (before : List (List ℕ)) × (after : List (List ℕ)) × (w : List ℕ) × (ls : List Loc) × (ws ≡ before ++ w ∷ after) × AreLocated before ls
    × ((l : Loc) → ¬ SpellsLoc w l) × (n ≡ length before + 2)

-- the word that is wrong, where the first is not looked at
abbrev pub IsMisusedBy : List (List ℕ) → WordFault → Type 0
IsMisusedBy ws words.Memory = Unit {0}
IsMisusedBy ws (words.Word n) = IsMisused ws n
