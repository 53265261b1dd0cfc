-- The state of the machine that a table is in.
use Rattle.std.specs.Prelude.{◌≡◌, IsSome, ℕ, List, map, reverse}
use Rattle.dh_syntax.specs.Expressions.Bridge.{term}
use Rattle.dh_imports.specs.Machine as machine
use Rattle.dh_imports.specs.Machine.{Task, State}
use Rattle.dh_imports.specs.Records.{Record}
use Rattle.dh_imports.specs.Replay as replay
use Rattle.dh_table.specs.declared.steps.Flight.{Flight}
use Rattle.dh_table.specs.declared.steps.Job.{Job}
use Rattle.dh_record.specs.declared.kinds.Kind.{Kind}
use Rattle.dh_record.specs.declared.kinds.Kind.TheVariants as kinds
use Rattle.dh_table.specs.declared.steps.Step.{Step}
use Rattle.dh_table.specs.declared.steps.Step.TheVariants as steps
use Rattle.dh_record.specs.declared.rows.recorded.Entrant.{Entrant}
use Rattle.dh_record.specs.declared.rows.recorded.Look.{Look}
use Rattle.dh_table.specs.Shown.{Shown}
use Rattle.dh_record.specs.Rows.{key_named, limit_of, look_of, outcome_of_number, task_by, text_of}
use Rattle.dh_record.specs.Brought.{news_of}

-- the task of a job, with the key of its number
abbrev pub task_of : List Entrant → Job → Task
task_of ks j = task_by j.kind (key_named ks j.key)

-- a look is of a key with a digest
abbrev pub IsFrozenLook : List Entrant → Job → Type 0
IsFrozenLook ks j = j.kind ≡ kinds.Look → IsSome (key_named ks j.key).digest

-- the serial of a flight, with its task
abbrev pub flight_of : List Entrant → Flight → ℕ × Task
flight_of ks f = (f.serial, task_of ks f.job)

-- the texts, looks and limits that a table has recorded, the last first
abbrev pub record_of : Shown → Record
record_of t = record { texts = reverse (map text_of t.texts); looks = reverse (map look_of t.looks); limits = reverse (map (limit_of t.keys) t.limited) }

-- the state of the machine
abbrev pub state_of : Shown → State
state_of t = record {
  root = term t.root.expr;
  recorded = record_of t;
  outcomes = reverse (map (outcome_of_number t.keys) t.decided);
  flights = reverse (map (flight_of t.keys) t.flights);
  drawn = reverse (map (task_of t.keys) t.drawn);
}

-- the kind of a task, as the machine's history has it
abbrev pub kind_by : Kind → replay.Kind
kind_by kinds.Fetch = replay.fetching
kind_by kinds.Look = replay.looking
kind_by kinds.Finish = replay.finishing

-- a step as the machine's history has it
abbrev pub step_by : List Entrant → Step → replay.Step
step_by ks (steps.Claim w k n) = replay.Claim w (kind_by k) n
step_by ks (steps.Release n) = replay.Release n
step_by ks (steps.Fetched n) = replay.Fetched n
step_by ks (steps.Looked n) = replay.Looked n
step_by ks (steps.Finished n) = replay.Finished n
step_by ks (steps.Late n) = replay.Late n
step_by ks (steps.Cycled k) = replay.Cycled (key_named ks k)

-- the table's history leads to its state
abbrev pub IsReplayed : Shown → Type 0
IsReplayed t = replay.Replays (term t.root.expr) (state_of t).drawn (map news_of t.refused) (map (step_by t.keys) t.history) (state_of t)
