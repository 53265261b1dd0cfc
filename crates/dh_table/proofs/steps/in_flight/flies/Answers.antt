use Rattle.std.proofs.Common.{length}
use Rattle.dh_table.specs.declared.steps.Flight.{Flight}
use Rattle.dh_record.specs.declared.kinds.Kind.TheVariants as kinds
use Rattle.dh_table.proofs.Tasks.{flies_nowhere}
use Rattle.dh_table.proofs.steps.in_flight.flies.Goals as goal

pub is_same_task-requires-in-Some-clause-left : goal.is_same_task-requires-in-Some-clause-left
is_same_task-requires-in-Some-clause-left c = c.in-Some.ensures.inside (length c.args.keys.now) c.requires.named

-- what stands past the end
abbrev nothing : Flight
nothing = record { serial = 0; job = record { kind = kinds.Fetch; key = 0 } }

pub returns : goal.returns
returns c = flies_nowhere c.args.keys.now c.args.flights.now c.args.job c.loop-flight.flight-index nothing c.loop-flight-test.false c.loop-flight.invariant
