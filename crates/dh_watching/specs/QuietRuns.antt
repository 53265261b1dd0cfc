-- Runs in which no device fails.
use Rattle.std.specs.Prelude.{◌≡◌, ◌⊎◌, ◌-◌, ◌^◌, ◌<◌, ℕ, true, List, [], Some}
use Rattle.dh_command.specs.declared.statuses.Status.{Status}
use Rattle.dh_command.specs.declared.statuses.Status.TheVariants as status
use Rattle.dh_command.specs.Responses.{line}
use Rattle.dh_imports.specs.Machine.{IsAmong}
use Rattle.dh_ports.specs.Counts.{Rose}
use Rattle.dh_script.specs.declared.faults.ScriptFault.{ScriptFault}
use Rattle.dh_script.specs.Faults.{IsRefused, fault_line}
use Rattle.dh_script_laws.specs.Answering.{Refusal, Failed}
use Rattle.dh_script_laws.specs.Scripts.{Tried}
use Rattle.dh_streams.specs.Streams.{Gains, Input, IsTaken, Output}
use Rattle.dh_watch_laws.specs.ScriptLines.{IsScript, Order}
use Rattle.dh_watching.specs.Runs.{Runs, fault_status}
use Rattle.dh_watching.specs.Steps.{State}

-- no call of a device fails, and the count of the files can tell it
pub record AreQuiet (input : Input) (a b : State) (out err : Output) : Type 0 where
  pub reads : ¬ Rose input.faults_before input.faults_after
  pub files : b.faults ≡ a.faults
  pub counts : a.faults < 2 ^ 64 - 1
  pub writes : ¬ Rose out.faults_before out.faults_after
  pub tells : ¬ Rose err.faults_before err.faults_after

-- What is written of a text: what its orders write, with no ask refused since a device failed; or why it is no script.
pub data Writes (text : List ℕ) (out err : Output) (s : Status) : Type 0 where
  orders : (os : List Order) (told : List ℕ) (refused : List Refusal) → IsScript text os → Tried [] [] true os told s refused
      → ((f : Refusal) → IsAmong f refused → ¬ (f ≡ Failed)) → Gains out told → Gains err [] → Writes text out err s
  fault : (f : ScriptFault) → IsRefused text f → Gains out [] → Gains err (line (fault_line f)) → s ≡ fault_status f → Writes text out err s

-- A run without words, from contents that are told and empty, with nothing kept, in which no device fails, writes what its script writes;
-- unless memory is wanting before an order, or for a change.
abbrev pub QuietRuns : Type 0
QuietRuns =
    (input : Input) (a b : State) (out err : Output) (s : Status) → Runs [] input a b out err s → a.told ≡ Some [] → a.kept ≡ [] → AreQuiet input a b out err
    → (s ≡ status.Memory) ⊎ ((text : List ℕ) × IsTaken text input × Writes text out err s)
