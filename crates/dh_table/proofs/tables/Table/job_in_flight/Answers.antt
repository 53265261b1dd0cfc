use Rattle.std.proofs.Common.{◌≡◌, ap, sym, ◌∙◌, None, subst as along}
use Rattle.std.specs.Prelude.{map, reverse}
use Rattle.std.specs.Option.{option_map}
use Rattle.std.proofs.lemmas.List.Elements.{All-contains}
use Rattle.dh_laws.proofs.KeyOrder.{none-some}
use Rattle.dh_syntax.specs.Expressions.Numbers.{eq}
use Rattle.dh_imports.specs.Machine.{Task, InFlight}
use Rattle.dh_imports.specs.Records.{lookup}
use Rattle.dh_table.specs.declared.steps.Flight.{Flight}
use Rattle.dh_table.specs.Shown.{Shown}
use Rattle.dh_table.specs.States.{IsFrozenLook, flight_of, state_of, task_of}
use Rattle.dh_table.specs.Tables.{view_of}
use Rattle.dh_table.proofs.tables.Table.job_in_flight.Goals as goal

pub unreachable-requires : goal.unreachable-requires
unreachable-requires g c =
    let t = c.self.inside in
    let v = view_of {W = g.row.W.Denot} t in
    let flies = along (λ (x : Shown). (y : Task) × InFlight (state_of x) c.args.serial y) (sym c.self.view_is) c.requires in
    let none : None ≡ lookup eq (reverse (map (flight_of t.keys) t.flights.items)) c.args.serial =
    ap (option_map (task_of t.keys)) (sym c.in_default.is) ∙ (rw c.as_slice.ensures.value at c.job_of.ensures.task) t.keys in
    none-some (sym none) flies.1

pub returns-clause-flies : goal.returns-clause-flies
returns-clause-flies g c =
    along (λ (x : Shown). InFlight (state_of x) c.args.serial (task_of x.keys c.in-Some.job)) c.self.view_is
    (sym ((rw c.as_slice.ensures.value at c.in-Some.ensures.task) c.self.inside.keys))

pub returns-clause-frozen : goal.returns-clause-frozen
returns-clause-frozen g c =
    let t = c.self.inside in
    let f = (rw c.as_slice.ensures.value at c.in-Some.ensures.among) in
    along (λ (x : Shown). IsFrozenLook x.keys c.in-Some.job) c.self.view_is
    (along (IsFrozenLook t.keys) f.2 (All-contains (λ (x : Flight). IsFrozenLook t.keys x.job) t.flights.items f.0 c.self.invariant.fit.looks f.1))
