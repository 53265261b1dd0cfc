-- What is recorded of what workers bring.
use Rattle.std.specs.Prelude.{◌≡◌, ◌<◌, ℕ, List, length, map, reverse, Some}
use Rattle.dh_syntax.specs.Expressions.Numbers.{eq}
use Rattle.dh_imports.specs.Machine as machine
use Rattle.dh_imports.specs.Machine.{InFlight, State, Task, stage_of}
use Rattle.dh_imports.specs.Records.{lookup}
use Rattle.dh_table.specs.declared.steps.flights.Name.{Name}
use Rattle.dh_table.specs.declared.steps.flights.Name.TheVariants as names
use Rattle.dh_record.specs.declared.items.Item.{Item}
use Rattle.dh_table.specs.declared.steps.Flight.{Flight}
use Rattle.dh_record.specs.declared.rows.recorded.Entrant.{Entrant}
use Rattle.dh_record.specs.Items.{stage_of_item}
use Rattle.dh_record.specs.Rows.{key_named}
use Rattle.dh_table.specs.States.{task_of, flight_of}

-- ---- flights

-- the task that a name tells
abbrev pub task_named : Name → Task
task_named (names.Fetch l) = machine.Fetch l.now
task_named (names.Look d) = machine.Look d.now
task_named (names.Finish k) = machine.Finish k.now

-- the task is in flight under this serial alone
pub record IsOnly (s : State) (t : Task) (n : ℕ) : Type 0 where
  pub flies : InFlight s n t
  pub only : (m : ℕ) → InFlight s m t → m ≡ n

-- the flight is of this task, and the last one of its serial
pub record IsFlightOf (keys : List Entrant) (flights : List Flight) (t : Task) (f : Flight) : Type 0 where
  pub own : task_of keys f.job ≡ t
  pub last : lookup eq (reverse (map (flight_of keys) flights)) f.serial ≡ Some t

-- ---- finishes

-- the finish of a key on this item is in flight under this serial
abbrev pub IsFinish : State → Item → ℕ → Type 0
IsFinish s i serial = InFlight s serial (machine.Finish i.key) × (stage_of s i.key ≡ stage_of_item i)

-- the flight is that of the finish of a key on this item
pub record IsOwnFinish (keys : List Entrant) (s : State) (i : Item) (f : Flight) : Type 0 where
  pub only : IsOnly s (machine.Finish i.key) f.serial
  pub stage_is : stage_of s i.key ≡ stage_of_item i
  pub named : key_named keys f.job.key ≡ i.key
  pub inside : f.job.key < length keys
