use Rattle.std.proofs.Common.{ap, sym, ◌∙◌, length, ℕ, get_or}
use Rattle.std.specs.Option.{option_map}
use Rattle.dh_table.specs.States.{task_of}
use borrow.Author.Count.{below_more}
use Rattle.dh_table.specs.declared.steps.Flight.{Flight}
use Rattle.dh_record.specs.declared.kinds.Kind.TheVariants as kinds
use Rattle.dh_table.specs.Inside.Recording.{task_named, IsFlightOf}
use Rattle.dh_table.proofs.Tasks.{flight_nowhere, not_own, not_last, not_there}
use Rattle.dh_table.proofs.steps.flights.flight_at.Goals as goal
use Rattle.dh_table.proofs.steps.flights.flight_at.Goals.{then-is_task+in-Some+else-is_task-2, then-is_task+in_default, else-is_task}

pub is_task-requires-in-Some : goal.is_task-requires-in-Some
is_task-requires-in-Some c = c.in-Some.ensures.inside (length c.args.keys.now) c.requires.named

-- what stands past the end
abbrev nothing : Flight
nothing = record { serial = 0; job = record { kind = kinds.Fetch; key = 0 } }

pub returns-clause-flies : goal.returns-clause-flies
returns-clause-flies c = flight_nowhere c.args.keys.now c.args.flights.now (task_named c.args.name) c.loop-flight.flight-index nothing c.loop-flight-test.false c.loop-flight.invariant

pub returns-then-is_task-2-clause-inside : goal.returns-then-is_task-2-clause-inside
returns-then-is_task-2-clause-inside c = c.in-Some.ensures.inside (length c.args.keys.now) c.requires.named

pub loop-flight-preserved : goal.loop-flight-preserved
loop-flight-preserved c =
    let keys = c.args.keys.now in
    let fs = c.args.flights.now in
    let t = task_named c.args.name in
    let i = c.loop-flight.flight-index in
    let l = c.loop-flight-test.true in
    let past = below_more (λ (j : ℕ). (d : Flight) → ¬ IsFlightOf keys fs t (get_or fs j d)) i c.loop-flight.invariant in
    elim c.if-is_task.branch [
      | then-is_task+in-Some+else-is_task-2 w ↦ past (λ d. not_last keys fs t i d nothing l w.in-Some.job w.is_task-in-Some.result w.is_task-in-Some.ensures w.if-is_task-2.false (w.in-Some.ensures.task keys))
      | then-is_task+in_default w ↦ past (λ d. not_there keys fs t i d nothing l (ap (option_map (task_of keys)) (sym w.in_default.is) ∙ w.job_of.ensures.task keys))
      | else-is_task w ↦ past (λ d. not_own keys fs t i d nothing l c.is_task.result c.is_task.ensures w.if-is_task.false)
    ]
