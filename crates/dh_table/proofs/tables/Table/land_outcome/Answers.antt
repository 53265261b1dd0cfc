use Rattle.std.proofs.Common.{rules, ◌≡◌, ◌<◌, ◌++◌, ◌∷◌, [], length, refl, ap, sym, ◌∙◌, append-nil, vec_len, vec_capacity, subst as along}
use Rattle.std.specs.Prelude.{ℕ, ◌≤◌, ◌+◌, if◌then◌else◌, map, filter, true, All, None}
use Rattle.std.proofs.lemmas.Fn.{filter_same}
use Rattle.dh_syntax.specs.declared.locations.Key.{Key}
use Rattle.dh_syntax.specs.Expressions.Bridge.{term}
use Rattle.dh_imports.specs.Machine as machine
use Rattle.dh_imports.specs.Machine.{InFlight, IsDone, IsInTime, May, outcome_of}
use Rattle.dh_imports.specs.Outcomes.{plain}
use Rattle.dh_imports.specs.Records.{limit_at}
use Rattle.dh_demand.specs.Results.{ask_of}
use Rattle.dh_record.specs.declared.news.News.TheVariants as news
use Rattle.dh_table.specs.declared.steps.Flight.{Flight}
use Rattle.dh_table.specs.declared.steps.Job.{Job}
use Rattle.dh_table.specs.declared.steps.Step.TheVariants as steps
use Rattle.dh_record.specs.Entering.{decided_at}
use Rattle.dh_table.specs.Inside.Searching.{HasRoom, IsExploredBy, is_open_value}
use Rattle.dh_record.specs.Items.{stage_of_item}
use Rattle.dh_table.specs.Shown.{Shown}
use Rattle.dh_table.specs.States.{IsReplayed, state_of, step_by}
use Rattle.dh_record.specs.Brought.{limit_by, news_of}
use Rattle.dh_record.specs.Rows.{rows_of, key_named}
use Rattle.dh_table.specs.Tables.{AreFit, IsKnown, IsOwned, IsStepNamed, IsRoomy, view_of}
use Rattle.dh_table.proofs.Deciding.{finished_state, finished_history, decided_known, decided_owned, asks_after, no_limit}
use Rattle.dh_record.proofs.Decided.{decided_length}
use Rattle.dh_table.proofs.Finishing.{undecided_flight, is_done, all_push_if, room_falls, room_left}
use Rattle.dh_table.proofs.Fitting.{fit_decided, fit_filtered}
use Rattle.dh_table.proofs.Histories.{further}
use Rattle.dh_table.proofs.Landing.{stays_decided}
use Rattle.dh_table.proofs.Logs.{others, fewer_flights}
use Rattle.dh_table.proofs.Staying.{known_decided}
use Rattle.dh_table.proofs.Stepping.{filtered-flights, all-filter, all-push}
use Rattle.dh_table.proofs.tables.Table.land_outcome.Goals as goal

pub invariant_of-self : goal.invariant_of-self
invariant_of-self g c =
    let t = c.self.inside in
    let v = view_of {W = g.row.W.Denot} t in
    let s = state_of v in
    let keys = t.keys in
    let n = c.args.n in
    let serial = c.args.serial in
    let done = c.args.done in
    let i = done.item in
    let o = done.outcome in
    let inv = c.self.invariant in
    let inside : n < length keys = along (λ (x : Shown). n < length x.keys) (sym c.self.view_is) c.requires.inside in
    let named : key_named keys n ≡ i.key = along (λ (x : Shown). key_named x.keys n ≡ i.key) (sym c.self.view_is) c.requires.named in
    let in_time : IsInTime s serial (news_of (news.Finished done)) = along (λ (x : Shown). IsInTime (state_of x) serial (news_of (news.Finished done))) (sym c.self.view_is) c.requires.in_time in
    let undecided : outcome_of s (key_named keys n) ≡ None = ap (outcome_of s) named ∙ undecided_flight _ _ _ _ s serial i.key inv.replays in_time.0 in
    let unlimited = no_limit (term t.root.expr) s (key_named keys n) inv.replays.events inv.replays.lawful inv.replays.state_is undecided in
    let d = inv.known.distinct in
    let keys_is : c.decide.new.self ≡ decided_at keys n o = c.decide.ensures ∙ ap (decided_at keys n) c.into_outcome.ensures in
    let limits : c.put_if.new.v.items ≡ (if done.limited then t.limited.items ++ n ∷ [] else t.limited.items) = c.put_if.ensures.items ∙ ap (λ b. if b then t.limited.items ++ n ∷ [] else t.limited.items) c.is_limit-limited.ensures in
    let left : c.retain.new.self.items ≡ filter (others serial) t.flights.items = filter_same _ (others serial) _ (λ x b f r. search rules) _ _ c.retain.ensures.filtered in
    let shorter = fewer_flights keys t.flights.items _ serial (machine.Finish i.key) left in_time.0 in
    let fewer : vec_len c.retain.new.self < vec_len t.flights = search rules in
    let next = view_of {W = g.row.W.Denot} (record t { keys = c.decide.new.self; decided = c.put.new.v; limited = c.put_if.new.v; flights = c.retain.new.self; history = c.put-2.new.v; scratch = record t.scratch { explored = c.free.new.self } }) in
    let e = machine.Finished serial i.key (stage_of_item i) (limit_by done.limited o) (plain o) in
    let state_is : state_of next ≡ machine.effect e s =
    finished_state v n o inside d undecided unlimited next done.limited _ refl keys_is refl refl c.put.ensures.items limits (filtered-flights keys serial t.flights.items _ left) refl
    ∙ ap (λ (k : Key). machine.effect (machine.Finished serial k (stage_of_item i) (limit_by done.limited o) (plain o)) s) named in
    let sizes = decided_length keys n o c.decide.new.self keys_is in
    let needed : length t.flights.items + 1 ≤ v.spare = along (λ (x : Shown). length x.flights + 1 ≤ x.spare) (sym c.self.view_is) c.requires.room in
    let room : vec_len t.flights + 1 ≤ v.spare = search rules in
    let explored = c.free.new.self in
    let roomy : HasRoom (length keys) explored = c.free.ensures.room (length keys) inv.scratch.explored in
    let may : May e s = (in_time, is_done s i o done.limited (ap (λ k. limit_at s.recorded k) (sym named) ∙ unlimited) c.by_last_step.ensures) in
    let of_key : Key → machine.Event = λ k. machine.Finished serial k (stage_of_item i) (limit_by done.limited o) (plain o) in
    let opens : explored.known ≡ true → is_open_value (key_named keys n).loc o ≡ true = λ h. search rules in
    record {
      replays =
          further _ _ _ _ _ inv.replays e may (state_of next) _ _ state_is (sym (append-nil (map news_of t.refused.items)))
          (ap (λ es. map (step_by es) c.put-2.new.v.items) keys_is ∙ finished_history v n o inside d undecided unlimited t.history.items c.put-2.new.v.items serial c.put-2.ensures.items);
      flights_named = along (λ m. All (λ (f : Flight). f.job.key < m) c.retain.new.self.items) (sym sizes) (along (λ fs. All (λ (f : Flight). f.job.key < length keys) fs) (sym left) (all-filter (λ (f : Flight). f.job.key < length keys) (others serial) t.flights.items inv.flights_named));
      drawn_named = along (λ m. All (λ (j : Job). j.key < m) t.drawn.items) (sym sizes) inv.drawn_named;
      decided_named = along (λ m. All (λ (x : ℕ). x < m) c.put.new.v.items) (sym sizes) (all-push (λ (x : ℕ). x < length keys) t.decided.items c.put.new.v.items n c.put.ensures.items inv.decided_named inside);
      limited_named = along (λ m. All (λ (x : ℕ). x < m) c.put_if.new.v.items) (sym sizes) (all_push_if (λ (x : ℕ). x < length keys) t.limited.items c.put_if.new.v.items n done.limited limits inv.limited_named inside);
      history_named = along (λ m. All (IsStepNamed m) c.put-2.new.v.items) (sym sizes) (all-push (IsStepNamed (length keys)) t.history.items _ (steps.Finished serial) c.put-2.ensures.items inv.history_named tt);
      owned = along (λ es. All IsOwned es) (sym keys_is) (decided_owned keys n o inside d inv.owned);
      asks = ap outcome_of state_is ∙ ap (λ (k : Key). outcome_of (machine.effect (machine.Finished serial k (stage_of_item i) (limit_by done.limited o) (plain o)) s)) (sym named) ∙ asks_after s keys n o inside d inv.asks ∙ ap (λ es. ask_of (rows_of es)) (sym keys_is);
      known = along (λ es. IsKnown t.root es t.texts.items) (sym keys_is) (decided_known keys n o inside d t.root t.texts.items inv.known);
      fit = along (λ es. AreFit es c.retain.new.self.items) (sym keys_is) (fit_decided keys n o c.retain.new.self.items inside d c.by_value.ensures (fit_filtered keys (others serial) t.flights.items c.retain.new.self.items left inv.fit));
      scratch = along (λ m. IsRoomy m (record t.scratch { explored = explored })) (sym sizes) (record { explored = roomy; seen = inv.scratch.seen; trail = inv.scratch.trail });
      explored =
          λ h.
          along (λ es. IsExploredBy (state_of next) es explored) (sym keys_is)
          (known_decided _ _ _ _ s (state_of next) serial (stage_of_item i) (limit_by done.limited o) keys n o inside d inv.replays
          (along (λ (k : Key). May (of_key k) s) (sym named) may) (state_is ∙ ap (λ (k : Key). machine.effect (of_key k) s) (sym named)) undecided (opens h) t.scratch.explored explored c.free.ensures.poured (inv.explored (c.free.ensures.known h)));
      texts_told = inv.texts_told;
      looks_shelved = inv.looks_shelved;
      text_order = inv.text_order;
      look_order = inv.look_order;
      room = room_left (vec_len t.flights) (vec_len c.retain.new.self) v.spare next.spare fewer room (room_falls (vec_len t.flights) (vec_len c.retain.new.self) (vec_capacity t.flights) (vec_capacity c.retain.new.self) (vec_len t.drawn) (vec_capacity t.drawn) (vec_len t.history) (vec_len c.put-2.new.v) (vec_capacity t.history) (vec_capacity c.put-2.new.v)
          (vec_len t.refused) (vec_capacity t.refused) (vec_len t.decided) (vec_len c.put.new.v) (vec_capacity t.decided) (vec_capacity c.put.new.v) (vec_len t.limited) (vec_len c.put_if.new.v) (vec_capacity t.limited) (vec_capacity c.put_if.new.v)
          fewer c.retain.ensures.capacity c.put-2.ensures.len c.put-2.ensures.room c.put.ensures.len c.put.ensures.room c.put_if.ensures.len c.put_if.ensures.room);
    }

pub returns-clause-lands : goal.returns-clause-lands
returns-clause-lands g c =
    let t = c.self.inside in
    let v = view_of {W = g.row.W.Denot} t in
    let s = state_of v in
    let keys = t.keys in
    let n = c.args.n in
    let serial = c.args.serial in
    let done = c.args.done in
    let i = done.item in
    let o = done.outcome in
    let inv = c.self.invariant in
    let inside : n < length keys = along (λ (x : Shown). n < length x.keys) (sym c.self.view_is) c.requires.inside in
    let named : key_named keys n ≡ i.key = along (λ (x : Shown). key_named x.keys n ≡ i.key) (sym c.self.view_is) c.requires.named in
    let in_time : IsInTime s serial (news_of (news.Finished done)) = along (λ (x : Shown). IsInTime (state_of x) serial (news_of (news.Finished done))) (sym c.self.view_is) c.requires.in_time in
    let undecided : outcome_of s (key_named keys n) ≡ None = ap (outcome_of s) named ∙ undecided_flight _ _ _ _ s serial i.key inv.replays in_time.0 in
    let unlimited = no_limit (term t.root.expr) s (key_named keys n) inv.replays.events inv.replays.lawful inv.replays.state_is undecided in
    let d = inv.known.distinct in
    let keys_is : c.decide.new.self ≡ decided_at keys n o = c.decide.ensures ∙ ap (decided_at keys n) c.into_outcome.ensures in
    let limits : c.put_if.new.v.items ≡ (if done.limited then t.limited.items ++ n ∷ [] else t.limited.items) = c.put_if.ensures.items ∙ ap (λ b. if b then t.limited.items ++ n ∷ [] else t.limited.items) c.is_limit-limited.ensures in
    let left : c.retain.new.self.items ≡ filter (others serial) t.flights.items = filter_same _ (others serial) _ (λ x b f r. search rules) _ _ c.retain.ensures.filtered in
    let shorter = fewer_flights keys t.flights.items _ serial (machine.Finish i.key) left in_time.0 in
    let fewer : vec_len c.retain.new.self < vec_len t.flights = search rules in
    let next = view_of {W = g.row.W.Denot} (record t { keys = c.decide.new.self; decided = c.put.new.v; limited = c.put_if.new.v; flights = c.retain.new.self; history = c.put-2.new.v; scratch = record t.scratch { explored = c.free.new.self } }) in
    let e = machine.Finished serial i.key (stage_of_item i) (limit_by done.limited o) (plain o) in
    let state_is : state_of next ≡ machine.effect e s =
    finished_state v n o inside d undecided unlimited next done.limited _ refl keys_is refl refl c.put.ensures.items limits (filtered-flights keys serial t.flights.items _ left) refl
    ∙ ap (λ (k : Key). machine.effect (machine.Finished serial k (stage_of_item i) (limit_by done.limited o) (plain o)) s) named in
    record {
      may = (c.requires.in_time, along (λ (x : Shown). IsDone (state_of x) i.key (stage_of_item i) (limit_by done.limited o) (plain o)) c.self.view_is (is_done s i o done.limited (ap (λ k. limit_at s.recorded k) (sym named) ∙ unlimited) c.by_last_step.ensures));
      state_is = state_is ∙ ap (λ (x : Shown). machine.effect e (state_of x)) c.self.view_is;
      adds = record {
        history_is = c.put-2.ensures.items ∙ ap (λ (x : Shown). x.history ++ steps.Finished serial ∷ []) c.self.view_is;
        spare_falls =
            along (λ (x : Shown). x.spare ≤ next.spare + 1) c.self.view_is
            (room_falls (vec_len t.flights) (vec_len c.retain.new.self) (vec_capacity t.flights) (vec_capacity c.retain.new.self) (vec_len t.drawn) (vec_capacity t.drawn) (vec_len t.history) (vec_len c.put-2.new.v) (vec_capacity t.history) (vec_capacity c.put-2.new.v)
            (vec_len t.refused) (vec_capacity t.refused) (vec_len t.decided) (vec_len c.put.new.v) (vec_capacity t.decided) (vec_capacity c.put.new.v) (vec_len t.limited) (vec_len c.put_if.new.v) (vec_capacity t.limited) (vec_capacity c.put_if.new.v)
            fewer c.retain.ensures.capacity c.put-2.ensures.len c.put-2.ensures.room c.put.ensures.len c.put.ensures.room c.put_if.ensures.len c.put_if.ensures.room);
      };
    }

pub returns-clause-decided : goal.returns-clause-decided
returns-clause-decided g c =
    let done = returns-clause-lands g c in
    stays_decided _ _ _ _ (state_of c.args.self.now) _ (machine.Finished c.args.serial c.args.done.item.key (stage_of_item c.args.done.item) (limit_by c.args.done.limited c.args.done.outcome) (plain c.args.done.outcome))
    (along IsReplayed c.self.view_is c.self.invariant.replays) done.may done.state_is
