use Rattle.std.proofs.Common.{rules, ◌≡◌, ◌<◌, length, refl, ap, sym, ◌∙◌, append-nil, vec_len, vec_capacity, subst as along}
use Rattle.std.specs.Prelude.{map, filter, All}
use Rattle.std.proofs.lemmas.Fn.{filter_same}
use Rattle.dh_imports.specs.Machine as machine
use Rattle.dh_imports.specs.Machine.{Task, InFlight}
use Rattle.dh_table.specs.declared.steps.Flight.{Flight}
use Rattle.dh_table.specs.declared.steps.Step.TheVariants as steps
use Rattle.dh_table.specs.States.{state_of, step_by}
use Rattle.dh_record.specs.Brought.{news_of}
use Rattle.dh_table.specs.Tables.{IsStepNamed, view_of}
use Rattle.dh_table.proofs.Fitting.{fit_filtered}
use Rattle.dh_table.proofs.Histories.{further}
use Rattle.dh_table.proofs.Known.{known_flights}
use Rattle.dh_record.proofs.Latest.{mapped}
use Rattle.dh_table.proofs.Logs.{others, fewer_flights, room_lands}
use Rattle.dh_table.proofs.Stepping.{flights-with, filtered-flights, all-filter, all-push}
use Rattle.dh_table.proofs.tables.Table.land.Goals as goal

pub invariant_of-self : goal.invariant_of-self
invariant_of-self g c =
    let t = c.self.inside in
    let keys = t.keys in
    let left : c.retain.new.self.items ≡ filter (others c.args.serial) t.flights.items = filter_same _ (others c.args.serial) _ (λ x b f r. search rules) _ _ c.retain.ensures.filtered in
    let flies = along (λ v. (x : Task) × InFlight (state_of v) c.args.serial x) (sym c.self.view_is) c.requires in
    let shorter = fewer_flights keys t.flights.items _ c.args.serial flies.0 left flies.1 in
    let fewer : vec_len c.retain.new.self < vec_len t.flights = search rules in
    let next = view_of (record t { flights = c.retain.new.self; history = c.put.new.v }) in
    record {
      replays =
          further _ _ _ _ _ c.self.invariant.replays (machine.Release c.args.serial) (along (λ v. (x : Task) × InFlight (state_of v) c.args.serial x) (sym c.self.view_is) c.requires)
          (state_of next) _ _
          (flights-with (state_of next) _ (filtered-flights keys c.args.serial t.flights.items _ left))
          (sym (append-nil (map news_of t.refused.items)))
          (mapped (step_by keys) t.history.items _ (steps.Release c.args.serial) c.put.ensures.items);
      flights_named = along (λ fs. All (λ (f : Flight). f.job.key < length t.keys) fs) (sym left) (all-filter (λ (f : Flight). f.job.key < length t.keys) (others c.args.serial) t.flights.items c.self.invariant.flights_named);
      drawn_named = c.self.invariant.drawn_named;
      decided_named = c.self.invariant.decided_named;
      limited_named = c.self.invariant.limited_named;
      history_named = all-push (IsStepNamed (length t.keys)) t.history.items _ (steps.Release c.args.serial) c.put.ensures.items c.self.invariant.history_named tt;
      owned = c.self.invariant.owned;
      asks = c.self.invariant.asks;
      known = c.self.invariant.known;
      fit = fit_filtered t.keys (others c.args.serial) t.flights.items _ left c.self.invariant.fit;
      scratch = c.self.invariant.scratch;
      explored = λ h. known_flights (state_of (view_of t)) (state_of next) refl refl refl keys _ _ (c.self.invariant.explored h);
      texts_told = c.self.invariant.texts_told;
      looks_shelved = c.self.invariant.looks_shelved;
      text_order = c.self.invariant.text_order;
      look_order = c.self.invariant.look_order;
      room =
          room_lands (vec_len t.flights) _ (vec_capacity t.flights) _ (vec_len t.drawn) _ (vec_len t.history) _ (vec_capacity t.history) _ (vec_len t.refused) _ _ fewer c.self.invariant.room c.retain.ensures.capacity c.put.ensures.len c.put.ensures.room;
    }

pub returns-clause-state : goal.returns-clause-state
returns-clause-state g c =
    let t = c.self.inside in
    let keys = t.keys in
    let left : c.retain.new.self.items ≡ filter (others c.args.serial) t.flights.items = filter_same _ (others c.args.serial) _ (λ x b f r. search rules) _ _ c.retain.ensures.filtered in
    let next = view_of (record t { flights = c.retain.new.self; history = c.put.new.v }) in
    flights-with (state_of next) _ (filtered-flights keys c.args.serial t.flights.items _ left) ∙ ap (λ v. machine.effect (machine.Release c.args.serial) (state_of v)) c.self.view_is
