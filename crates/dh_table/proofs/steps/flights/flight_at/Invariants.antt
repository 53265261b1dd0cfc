use Rattle.std.proofs.Common.{ℕ, ◌<◌, get_or}
use Rattle.dh_table.specs.declared.steps.Flight.{Flight}
use Rattle.dh_table.specs.Inside.Recording.{task_named, IsFlightOf}
use Rattle.dh_table.proofs.steps.flights.flight_at.Given as goal

abbrev pub invariant-loop-flight : goal.invariant-loop-flight
invariant-loop-flight l = (i : ℕ) → i < l.flight-index → (d : Flight) → ¬ IsFlightOf l.keys l.flights (task_named l.name) (get_or l.flights i d)
