use Rattle.std.proofs.Common.{rules, ◌≡◌, refl, get_or, sym, ap, ◌∙◌, ◌<◌, subst as along}
use Rattle.std.specs.Prelude.{Option, IfSome, Contains}
use Rattle.std.specs.Option.{option_map}
use Rattle.std.proofs.lemmas.List.Elements.{All-get_or, Contains-get_or}
use Rattle.dh_table.specs.States.{task_of}
use Rattle.dh_table.specs.declared.steps.Flight.{Flight}
use Rattle.dh_table.specs.declared.steps.Job.{Job}
use Rattle.dh_record.specs.declared.kinds.Kind.TheVariants as kinds
use Rattle.dh_table.proofs.Logs.{flight_found, flight_passed}
use Rattle.dh_table.proofs.steps.in_flight.job_of.Goals as goal
use Rattle.dh_table.proofs.steps.in_flight.job_of.Goals.{then-flight-serial, else-flight-serial}

-- what stands past the end
abbrev nothing : Flight
nothing = record { serial = 0; job = record { kind = kinds.Fetch; key = 0 } }

pub loop-flight-preserved : goal.loop-flight-preserved
loop-flight-preserved c =
    let fs = c.args.flights.now in
    let i = c.loop-flight.flight-index in
    elim c.if-flight-serial.branch [
      | then-flight-serial w ↦ record {
        task = λ keys. ap (option_map (task_of keys)) w.found-is ∙ flight_found keys fs i c.args.serial nothing c.loop-flight-test.true w.if-flight-serial.true;
        inside =
            λ n h. along (λ (o : Option Job). IfSome o (λ (j : Job). j.key < n)) (sym w.found-is) (All-get_or (λ (f : Flight). f.job.key < n) fs i nothing c.loop-flight-test.true h);
        among = along (λ (o : Option Job). IfSome o (λ (j : Job). (f : Flight) × Contains fs f × (f.job ≡ j))) (sym w.found-is) (get_or fs i nothing, Contains-get_or fs i nothing c.loop-flight-test.true, refl);
      }
      | else-flight-serial w ↦ record {
        task =
            λ keys. ap (option_map (task_of keys)) w.found-is ∙ flight_passed keys fs i c.args.serial nothing c.loop-flight.found c.loop-flight-test.true (search rules) (c.loop-flight.invariant.task keys);
        inside = λ n h. along (λ (o : Option Job). IfSome o (λ (j : Job). j.key < n)) (sym w.found-is) (c.loop-flight.invariant.inside n h);
        among = along (λ (o : Option Job). IfSome o (λ (j : Job). (f : Flight) × Contains fs f × (f.job ≡ j))) (sym w.found-is) c.loop-flight.invariant.among;
      }
    ]
