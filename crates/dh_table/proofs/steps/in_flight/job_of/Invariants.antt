use Rattle.std.proofs.Common.{◌≡◌, List, take, ℕ, ◌<◌}
use Rattle.std.specs.Prelude.{map, reverse, All, Contains, IfSome}
use Rattle.std.specs.Option.{option_map}
use Rattle.dh_syntax.specs.Expressions.Numbers.{eq}
use Rattle.dh_imports.specs.Records.{lookup}
use Rattle.dh_table.specs.declared.steps.Flight.{Flight}
use Rattle.dh_table.specs.declared.steps.Job.{Job}
use Rattle.dh_record.specs.declared.rows.recorded.Entrant.{Entrant}
use Rattle.dh_table.specs.States.{flight_of, task_of}
use Rattle.dh_table.proofs.steps.in_flight.job_of.Given as goal

abbrev pub invariant-loop-flight : goal.invariant-loop-flight
invariant-loop-flight l = record {
  task : (keys : List Entrant) → option_map (task_of keys) l.found ≡ lookup eq (reverse (map (flight_of keys) (take l.flight-index l.flights))) l.serial;
  inside : (n : ℕ) → All (λ (f : Flight). f.job.key < n) l.flights → IfSome l.found (λ (j : Job). j.key < n);
  among : IfSome l.found (λ (j : Job). (f : Flight) × Contains l.flights f × (f.job ≡ j));
}
