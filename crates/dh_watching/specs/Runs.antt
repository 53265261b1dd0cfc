-- What one run of a script does: to its input, to what is watched, and to its two outputs.
use Rattle.std.specs.Prelude.{◌≡◌, ◌⊎◌, ◌≤◌, ◌+◌, ◌^◌, ◌-◌, ℕ, true, List, [], ◌∷◌, ◌++◌, Some, codes}
use Rattle.dh_command.specs.declared.statuses.Status.{Status}
use Rattle.dh_command.specs.declared.statuses.Status.TheVariants as status
use Rattle.dh_command.specs.Lines.{write_line}
use Rattle.dh_command.specs.Responses.{Response, line, unread, without_memory, fault}
use Rattle.dh_ports.specs.Counts.{Rose}
use Rattle.dh_script.specs.declared.faults.ScriptFault.{ScriptFault}
use Rattle.dh_script.specs.declared.faults.ScriptFault.TheVariants as faults
use Rattle.dh_script.specs.Faults.{IsRefused, fault_line}
use Rattle.dh_script_laws.specs.Answering.{Refusal, Failed, TooMany, Memory}
use Rattle.dh_script_laws.specs.Scripts.{Tried, refusal_status, refusal_text}
use Rattle.dh_streams.specs.Deliveries.{Delivers}
use Rattle.dh_streams.specs.Streams.{Gains, Input, IsLeft, IsTaken, Output, Stops, Tries}
use Rattle.dh_watch_laws.specs.ScriptLines.{IsScript, Order}
use Rattle.dh_watching.specs.Steps.{Goes, IsEdit, IsUnchanged, State}

-- ---- runs that are refused before the first order

-- the status of a run whose text is no script
abbrev pub fault_status : ScriptFault → Status
fault_status faults.TooLarge = status.Text
fault_status (faults.NotUtf8 at) = status.Text
fault_status (faults.Line n) = status.Usage
fault_status faults.Memory = status.Memory

-- The refusals come in this order: a word, an input that cannot be read, a text that is no script. Memory may be wanting at any place.
pub data Refuses (words : List (List ℕ)) (input : Input) (w : Response) : Type 0 where
  has_words : ¬ (words ≡ []) → IsLeft input → w ≡ fault (codes "usage: word 1") status.Usage → Refuses words input w
  cannot_read : words ≡ [] → Rose input.faults_before input.faults_after → w ≡ unread → Refuses words input w
  no_script : (text : List ℕ) (f : ScriptFault) → words ≡ [] → IsTaken text input → IsRefused text f → w ≡ fault (fault_line f) (fault_status f) → Refuses words input w
  lacks_memory : words ≡ [] → w ≡ without_memory → Refuses words input w

-- ---- the orders

-- how many asks were refused since a device failed
abbrev pub failures : List Refusal → ℕ
failures [] = 0
failures (Failed ∷ fs) = failures fs + 1
failures (TooMany ∷ fs) = failures fs
failures (Memory ∷ fs) = failures fs

-- a count rose by at least so many, or stands at its last value
abbrev pub RoseBy : ℕ → ℕ → ℕ → Type 0
RoseBy n before after = (n + before ≤ after) ⊎ (2 ^ 64 - 1 ≤ after)

-- These orders were followed, one after the other: each asked for no more texts than its line tells, or its refusal leaves, and one. From
-- contents that are told and empty, with nothing kept, this is what they write where asks may be refused; and so many calls have failed as
-- refusals tell.
pub record Does (a b : State) (orders : List Order) (out : List ℕ) (s : Status) : Type 0 where
  pub refused : List Refusal
  pub goes : Goes a b orders out s refused
  pub tried : a.told ≡ Some [] → a.kept ≡ [] → Tried [] [] true orders out s refused
  pub counted : RoseBy (failures refused) a.faults b.faults

-- A last line on standard error ends a run with this status; or it was not written whole.
abbrev pub EndsWith : List ℕ → Status → Output → Status → Type 0
EndsWith text t err s = (Gains err (line text) × (s ≡ t)) ⊎ (Stops err (line text) × (s ≡ status.Write))

-- How following the orders of a script ends.
pub data Ends (orders : List Order) (a b : State) (out err : Output) (s : Status) : Type 0 where
  -- all were followed
  through : (told : List ℕ) → Does a b orders told s → Gains out told → Gains err [] → Ends orders a b out err s
  -- a change was refused, after what stands before it was written, and left all as it was
  refused : (before after : List Order) (o : Order) (c : State) (told : List ℕ) (t : Status) (f : Refusal) → orders ≡ before ++ o ∷ after → IsEdit o
      → Does a c before told t → (f ≡ Failed) ⊎ (f ≡ Memory) → IsUnchanged c b → c.faults ≤ b.faults → (f ≡ Failed → Rose c.faults b.faults)
      → Gains out told → EndsWith (refusal_text f) (refusal_status f) err s → Ends orders a b out err s
  -- a line was not written whole
  cut : (before after : List Order) (told : List ℕ) (t : Status) → orders ≡ before ++ after → Does a b before told t → Stops out told
      → Tries err (line write_line) → s ≡ status.Write → Ends orders a b out err s

-- One run: refused before the first order, with what is watched left as it was; or the script was read, and its orders were followed.
pub data Runs (words : List (List ℕ)) (input : Input) (a b : State) (out err : Output) (s : Status) : Type 0 where
  refuses : (w : Response) → Refuses words input w → b ≡ a → Delivers w out err s → Runs words input a b out err s
  follows : (text : List ℕ) (orders : List Order) → words ≡ [] → IsTaken text input → IsScript text orders → Ends orders a b out err s → Runs words input a b out err s
