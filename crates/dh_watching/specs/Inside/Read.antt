-- What becomes of a script that was read.
use Rattle.std.specs.Prelude.{◌≡◌, ◌⊎◌, ℕ, List, [], Option, Some, None}
use Rattle.dh_command.specs.declared.statuses.Status.{Status}
use Rattle.dh_command.specs.declared.statuses.Status.TheVariants as status
use Rattle.dh_command.specs.Lines.{write_line}
use Rattle.dh_command.specs.Responses.{line, fault, without_memory}
use Rattle.dh_ports.specs.declared.desks.DeskError.{DeskError}
use Rattle.dh_ports.specs.declared.desks.DeskError.TheVariants as errors
use Rattle.dh_script.specs.declared.faults.ScriptFault.{ScriptFault}
use Rattle.dh_script.specs.Faults.{IsRefused, fault_line}
use Rattle.dh_script_laws.specs.Answering.{Refusal, Failed, Memory}
use Rattle.dh_script_laws.specs.Scripts.{refusal_status, refusal_text}
use Rattle.dh_streams.specs.Streams.{Gains, Output, Tries}
use Rattle.dh_watch_laws.specs.ScriptLines.{IsScript, Order}
use Rattle.dh_watching.specs.declared.following.Gone.{Gone}
use Rattle.dh_watching.specs.declared.following.Halt.{Halt}
use Rattle.dh_watching.specs.declared.following.Halt.TheVariants as halts
use Rattle.dh_streams.specs.Deliveries.{Delivers}
use Rattle.dh_watching.specs.Runs.{Ends, EndsWith, fault_status}
use Rattle.dh_watching.specs.Steps.{State}

-- why a change was refused
abbrev pub refusal_of_desk : DeskError → Refusal
refusal_of_desk errors.Failed = Failed
refusal_of_desk errors.Memory = Memory

-- why bytes are no script was told, or that memory was wanting for that
abbrev pub ToldFault : ScriptFault → Output → Output → Status → Type 0
ToldFault f out err s = Delivers (fault (fault_line f) (fault_status f)) out err s ⊎ Delivers without_memory out err s

-- how a run ends after its orders were gone through so far
abbrev pub IsEndedBy : Status → Option Halt → Output → Status → Type 0
IsEndedBy t None err s = Gains err [] × (s ≡ t)
IsEndedBy t (Some halts.Cut) err s = Tries err (line write_line) × (s ≡ status.Write)
IsEndedBy t (Some (halts.Refused e)) err s = EndsWith (refusal_text (refusal_of_desk e)) (refusal_status (refusal_of_desk e)) err s

-- a run whose orders came to this result ends with this error output and status
abbrev pub IsEnded : Gone → Output → Status → Type 0
IsEnded g err s = IsEndedBy g.status g.halt err s

-- orders were followed, or memory was wanting before the first
abbrev pub FollowsOrders : List Order → State → State → Output → Output → Status → Type 0
FollowsOrders orders a b out err s = Ends orders a b out err s ⊎ ((b ≡ a) × Delivers without_memory out err s)

-- a text was read and its orders were followed; or it is no script; or memory was wanting before the first order
pub data FollowsText (text : List ℕ) (a b : State) (out err : Output) (s : Status) : Type 0 where
  ends : (orders : List Order) → IsScript text orders → Ends orders a b out err s → FollowsText text a b out err s
  no_script : (f : ScriptFault) → IsRefused text f → b ≡ a → Delivers (fault (fault_line f) (fault_status f)) out err s → FollowsText text a b out err s
  lacks : b ≡ a → Delivers without_memory out err s → FollowsText text a b out err s
