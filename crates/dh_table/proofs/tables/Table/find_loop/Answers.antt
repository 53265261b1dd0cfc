use Rattle.std.proofs.Common.{refl, sym, subst as along}
use Rattle.std.specs.Prelude.{◌≡◌}
use Rattle.dh_imports.specs.Machine.{State, root_walk}
use Rattle.dh_imports.specs.Walk.{Needs}
use Rattle.dh_import_laws.proofs.Progress.{root_wanted}
use Rattle.dh_table.specs.Inside.Searching.{IsLoop, IsStuck, Stands}
use Rattle.dh_table.specs.Shown.{Shown}
use Rattle.dh_record.specs.Rows.{key_named}
use Rattle.dh_table.specs.States.{state_of}
use Rattle.dh_table.proofs.tables.Table.find_loop.Goals as goal

pub least_of_loop-requires-clause-stuck : goal.least_of_loop-requires-clause-stuck
least_of_loop-requires-clause-stuck g c =
    let t = c.self.inside in
    let s : State = state_of c.args.self.now in
    let base : Stands t.keys t.texts.items t.looks.items t.flights.items s =
    along (λ v. Stands t.keys t.texts.items t.looks.items t.flights.items (state_of v)) c.self.view_is (record { texts_are = refl; looks_are = refl; asks = c.self.invariant.asks; flights_are = refl }) in
    let needs : root_walk s ≡ Needs (key_named t.keys c.args.first) = along (λ (v : Shown). root_walk s ≡ Needs (key_named v.keys c.args.first)) (sym c.self.view_is) c.requires.needs in
    let stuck : IsStuck t.keys t.texts.items t.looks.items s (key_named t.keys c.args.first) = record {
      stands = record { texts_are = base.texts_are; looks_are = base.looks_are; asks = base.asks; flights_are = c.requires.idle };
      none = c.requires.none;
      wanted = root_wanted s (key_named t.keys c.args.first) needs;
    } in
    (s, rw (c.of.ensures, c.of-2.ensures, c.as_slice.ensures.value, c.as_slice-2.ensures.value) stuck)

pub returns-clause-found : goal.returns-clause-found
returns-clause-found g c =
    let t = c.self.inside in
    let s : State = state_of c.args.self.now in
    let base : Stands t.keys t.texts.items t.looks.items t.flights.items s =
    along (λ v. Stands t.keys t.texts.items t.looks.items t.flights.items (state_of v)) c.self.view_is (record { texts_are = refl; looks_are = refl; asks = c.self.invariant.asks; flights_are = refl }) in
    let needs : root_walk s ≡ Needs (key_named t.keys c.args.first) = along (λ (v : Shown). root_walk s ≡ Needs (key_named v.keys c.args.first)) (sym c.self.view_is) c.requires.needs in
    let stuck : IsStuck t.keys t.texts.items t.looks.items s (key_named t.keys c.args.first) = record {
      stands = record { texts_are = base.texts_are; looks_are = base.looks_are; asks = base.asks; flights_are = c.requires.idle };
      none = c.requires.none;
      wanted = root_wanted s (key_named t.keys c.args.first) needs;
    } in
    along (λ (v : Shown). IsLoop s (key_named v.keys c.least_of_loop.result)) c.self.view_is
    ((rw (c.of.ensures, c.of-2.ensures, c.as_slice.ensures.value, c.as_slice-2.ensures.value) at c.least_of_loop.ensures.least) s stuck needs)
