use Rattle.std.proofs.Common.{rules, ◌≡◌, ◌<◌, ◌++◌, ◌∷◌, [], length, refl, ap, sym, ◌∙◌, append-nil, arith, vec_len, vec_capacity, subst as along}
use Rattle.std.specs.Prelude.{List, map, filter, reverse, All, None}
use Rattle.std.proofs.lemmas.Fn.{filter_same}
use Rattle.std.proofs.lemmas.Grind.{common_steps}
use Rattle.dh_imports.specs.Machine as machine
use Rattle.dh_imports.specs.Machine.{InFlight, IsInTime, May}
use Rattle.dh_table.specs.declared.steps.Flight.{Flight}
use Rattle.dh_table.specs.declared.steps.Step.TheVariants as steps
use Rattle.dh_record.specs.declared.rows.recorded.Look.{Look}
use Rattle.dh_record.specs.Brought.{IsShelved, news_of}
use Rattle.dh_record.specs.Sorting.{IsRanked, rank_of_look}
use Rattle.dh_table.specs.Shown.{Shown}
use Rattle.dh_record.specs.Rows.{look_of, seen_by}
use Rattle.dh_table.specs.States.{state_of, step_by}
use Rattle.dh_table.specs.Tables.{IsStepNamed, view_of}
use Rattle.dh_table.proofs.Fitting.{fit_filtered}
use Rattle.dh_table.proofs.Histories.{further}
use Rattle.dh_table.proofs.Known.{known_still, step_grows}
use Rattle.dh_table.proofs.Landing.{looked_state}
use Rattle.dh_record.proofs.Latest.{latest, mapped}
use Rattle.dh_table.proofs.Logs.{others, fewer_flights, room_lands}
use Rattle.dh_table.proofs.Unrecorded.{look_unrecorded}
use Rattle.dh_record.proofs.Recorded.{order_grown}
use Rattle.dh_table.proofs.Stepping.{filtered-flights, all-filter, all-push}
use Rattle.dh_table.proofs.tables.Table.land_look.Goals as goal

pub invariant_of-self-2 : goal.invariant_of-self-2
invariant_of-self-2 g c =
    let t = c.self.inside in
    let v = view_of {W = g.row.W.Denot} t in
    let keys = t.keys in
    let inv = c.self.invariant in
    let serial = c.args.serial in
    let digest = c.args.digest in
    let look = seen_by c.args.look in
    let left : c.retain.new.self.items ≡ filter (others serial) t.flights.items = filter_same _ (others serial) _ (λ x b f r. search rules) _ _ c.retain.ensures.filtered in
    let flies : InFlight (state_of v) serial (machine.Look digest) = along (λ (x : Shown). InFlight (state_of x) serial (machine.Look digest)) (sym c.self.view_is) c.requires.in_time in
    let shorter = fewer_flights keys t.flights.items _ serial (machine.Look digest) left flies in
    let fewer : vec_len c.retain.new.self < vec_len t.flights = search rules in
    let next = view_of {W = g.row.W.Denot} (record t { looks = c.put.new.v; flights = c.retain.new.self; history = c.put-2.new.v }) in
    let recorded = ap (λ ls. reverse (map look_of ls)) c.put.ensures.items ∙ latest look_of c.next_number.new.rows.items (record { digest = digest; look = c.args.look }) ∙ ap (λ ls. (digest, look) ∷ reverse (map look_of ls)) c.next_number.ensures.items in
    let state_is : state_of next ≡ machine.effect (machine.Looked serial digest look) (state_of v) = looked_state (state_of v) _ _ serial digest look (filtered-flights keys serial t.flights.items _ left) recorded in
    record {
      replays =
          further _ _ _ _ _ inv.replays (machine.Looked serial digest look) (flies, c.tell_good.ensures) (state_of next) _ _ state_is
          (sym (append-nil (map news_of t.refused.items)))
          (mapped (step_by keys) t.history.items _ (steps.Looked serial) c.put-2.ensures.items);
      flights_named = along (λ fs. All (λ (f : Flight). f.job.key < length t.keys) fs) (sym left) (all-filter (λ (f : Flight). f.job.key < length t.keys) (others serial) t.flights.items inv.flights_named);
      drawn_named = inv.drawn_named;
      decided_named = inv.decided_named;
      limited_named = inv.limited_named;
      history_named = all-push (IsStepNamed (length t.keys)) t.history.items _ (steps.Looked serial) c.put-2.ensures.items inv.history_named tt;
      owned = inv.owned;
      asks = inv.asks;
      known = inv.known;
      fit = fit_filtered keys (others serial) t.flights.items _ left inv.fit;
      scratch = inv.scratch;
      explored = λ h. known_still (state_of v) (state_of next) (step_grows _ _ _ _ (state_of v) (state_of next) (machine.Looked serial digest look) inv.replays (flies, c.tell_good.ensures) state_is) refl refl keys _ _ (inv.explored h);
      texts_told = inv.texts_told;
      looks_shelved =
          all-push (λ (l : Look). IsShelved l.digest (g.W.World.shelved l.digest) l.look) t.looks.items _ (record { digest = digest; look = c.args.look })
          (c.put.ensures.items ∙ ap (λ ls. ls ++ record { digest = digest; look = c.args.look } ∷ []) c.next_number.ensures.items) inv.looks_shelved c.requires.shelved;
      text_order = inv.text_order;
      look_order =
          order_grown rank_of_look c.as_slice.result.now c.next_number.new.rows.items c.put.new.v.items (record { digest = digest; look = c.args.look }) c.insert.new.self.numbers.items c.as_slice.ensures.value c.put.ensures.items c.insert.ensures;
      room =
          room_lands (vec_len t.flights) _ (vec_capacity t.flights) _ (vec_len t.drawn) _ (vec_len t.history) _ (vec_capacity t.history) _ (vec_len t.refused) _ _ fewer inv.room c.retain.ensures.capacity c.put-2.ensures.len c.put-2.ensures.room;
    }

pub returns-clause-lands : goal.returns-clause-lands
returns-clause-lands g c =
    let t = c.self.inside in
    let v = view_of {W = g.row.W.Denot} t in
    let serial = c.args.serial in
    let digest = c.args.digest in
    let look = seen_by c.args.look in
    let left : c.retain.new.self.items ≡ filter (others serial) t.flights.items = filter_same _ (others serial) _ (λ x b f r. search rules) _ _ c.retain.ensures.filtered in
    let recorded = ap (λ ls. reverse (map look_of ls)) c.put.ensures.items ∙ latest look_of c.next_number.new.rows.items (record { digest = digest; look = c.args.look }) ∙ ap (λ ls. (digest, look) ∷ reverse (map look_of ls)) c.next_number.ensures.items in
    record {
      may = (c.requires.in_time, c.tell_good.ensures);
      state_is =
          looked_state (state_of v) _ _ serial digest look (filtered-flights t.keys serial t.flights.items _ left) recorded
          ∙ ap (λ (x : Shown). machine.effect (machine.Looked serial digest look) (state_of x)) c.self.view_is;
      adds = record {
        history_is = c.put-2.ensures.items ∙ ap (λ (x : Shown). x.history ++ steps.Looked serial ∷ []) c.self.view_is;
        spare_falls = grind (arith, common_steps);
      };
    }

pub insert-requires-clause-new : goal.insert-requires-clause-new
insert-requires-clause-new g c =
    let t = c.self.inside in
    let v = view_of {W = g.row.W.Denot} t in
    let d = c.args.digest in
    let flies : InFlight (state_of v) c.args.serial (machine.Look d) = along (λ (x : Shown). InFlight (state_of x) c.args.serial (machine.Look d)) (sym c.self.view_is) c.requires.in_time in
    along (λ (ls : List Look). IsRanked (map rank_of_look ls) (d.0 ∷ []) None) (sym (c.as_slice.ensures.value ∙ c.next_number.ensures.items))
    (look_unrecorded v c.args.serial d c.self.invariant.replays flies)
