use Rattle.std.proofs.Common.{ℕ, ◌<◌, get_or}
use Rattle.dh_table.specs.declared.steps.Flight.{Flight}
use Rattle.dh_table.specs.Inside.Searching.{IsLastOf}
use Rattle.dh_table.proofs.steps.in_flight.flies.Given as goal

abbrev pub invariant-loop-flight : goal.invariant-loop-flight
invariant-loop-flight l = (i : ℕ) → i < l.flight-index → (d : Flight) → ¬ IsLastOf l.keys l.flights l.job (get_or l.flights i d)
