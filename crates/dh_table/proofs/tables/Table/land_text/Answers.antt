use Rattle.std.proofs.Common.{rules, ◌≡◌, ◌<◌, ◌++◌, ◌∷◌, [], length, ap, sym, ◌∙◌, refl, append-nil, arith, vec_len, vec_capacity, subst as along}
use Rattle.std.specs.Prelude.{ℕ, List, map, filter, All, Option, Some, None, MatchOption}
use Rattle.std.proofs.lemmas.Fn.{filter_same}
use Rattle.std.proofs.lemmas.Grind.{common_steps}
use Rattle.dh_syntax.specs.Imports.Keys.{loc_rank}
use Rattle.dh_imports.specs.Machine as machine
use Rattle.dh_imports.specs.Machine.{InFlight}
use Rattle.dh_demand.specs.Results.{ask_of}
use Rattle.dh_record.specs.declared.news.News.{News}
use Rattle.dh_record.specs.declared.news.News.TheVariants as news
use Rattle.dh_table.specs.declared.steps.Flight.{Flight}
use Rattle.dh_table.specs.declared.steps.Job.{Job}
use Rattle.dh_table.specs.declared.steps.Step.TheVariants as steps
use Rattle.dh_table.specs.declared.tables.Table.TheInside.{Inside}
use Rattle.dh_record.specs.declared.rows.recorded.Text.{Text}
use Rattle.dh_record.specs.Brought.{AreTold, IsTold, imports_of, read_of, news_of}
use Rattle.dh_record.specs.Entering.{AreMore, AreEdges, entered_all, keys_in}
use Rattle.dh_table.specs.Inside.Searching.{Knows}
use Rattle.dh_record.specs.Sorting.{IsOrder, IsRanked, rank_of_text}
use Rattle.dh_table.specs.Shown.{Shown}
use Rattle.dh_table.specs.States.{IsReplayed, state_of}
use Rattle.dh_record.specs.Rows.{noted_by, parsed_by, rows_of}
use Rattle.dh_table.specs.Tables.{AreFit, IsGood, IsKnown, IsOwned, IsStepNamed, view_of}
use Rattle.dh_table.specs.Calls.{Records}
use Rattle.dh_table.proofs.Landing.{landed_decided}
use Rattle.dh_table.proofs.Fitting.{fit_filtered, fit_more}
use Rattle.dh_table.proofs.Histories.{further}
use Rattle.dh_table.proofs.Known.{step_grows}
use Rattle.dh_table.proofs.Logs.{others, fewer_flights, room_lands}
use Rattle.dh_record.proofs.Recorded.{order_grown}
use Rattle.dh_table.proofs.Unrecorded.{text_unrecorded}
use Rattle.dh_table.proofs.Staying.{known_alike, known_more as known_grown}
use Rattle.dh_table.proofs.Stepping.{filtered-flights, all-filter, all-push}
use Rattle.dh_table.proofs.TextLanding.{noted_same, is_parsed, is_read, keys_are_noted, steps_named, flights_named, jobs_named, numbers_named, owned_more, asks_more, known_more, fetched_state, fetched_history}
use Rattle.dh_table.proofs.tables.Table.land_text.Goals as goal
use Rattle.dh_table.proofs.tables.Table.land_text.Goals.{in-Ok, in-Err}

pub invariant_of-self : goal.invariant_of-self
invariant_of-self g c = elim c.match-room_for.branch [
  | in-Ok w ↦
      let t = c.self.inside in
      let v = view_of {W = g.row.W.Denot} t in
      let inv = c.self.invariant in
      let serial = c.args.serial in
      let l = c.args.loc in
      let got = c.args.got in
      let scan = c.args.scan in
      let es' = c.room_for.new.keys in
      let edges = w.in-Ok.edges in
      let m : AreMore t.keys (entered_all (keys_in t.keys) (imports_of scan)) es' = along (λ ks. AreMore t.keys (entered_all (keys_in t.keys) ks) es') c.imports_of.ensures w.in-Ok.ensures.entered in
      let text : Text = record { loc = l; got = got; read = read_of scan edges } in
      let ends : AreEdges (Some l) (rows_of es') (imports_of scan) edges = along (λ ks. AreEdges (Some l) (rows_of es') ks edges) c.imports_of.ensures w.in-Ok.ensures.edges in
      let texts : w.put.new.v.items ≡ t.texts.items ++ text ∷ [] =
      w.put.ensures.items ∙ (λ i. w.in-Ok.ensures.items i ++ record { loc = l; got = got; read = w.read_of-read.ensures i } ∷ []) in
      let left : w.retain.new.self.items ≡ filter (others serial) t.flights.items = filter_same _ (others serial) _ (λ x b f r. search rules) _ _ w.retain.ensures.filtered in
      let flies : InFlight (state_of v) serial (machine.Fetch l) = along (λ (x : Shown). InFlight (state_of x) serial (machine.Fetch l)) (sym c.self.view_is) c.requires.in_time in
      let shorter = fewer_flights t.keys t.flights.items _ serial (machine.Fetch l) left flies in
      let fewer : vec_len w.retain.new.self < vec_len t.flights = search rules in
      let left_named = along (λ fs. All (λ (f : Flight). f.job.key < length t.keys) fs) (sym left) (all-filter (λ (f : Flight). f.job.key < length t.keys) (others serial) t.flights.items inv.flights_named) in
      let next = view_of {W = g.row.W.Denot} (record t { keys = es'; texts = w.put.new.v; flights = w.retain.new.self; history = w.put-in-Ok.new.v; scratch = c.room_for.new.scratch }) in
      let noted = noted_by got (parsed_by scan) in
      let state_is =
      fetched_state v es' (entered_all (keys_in t.keys) (imports_of scan)) m serial text inv.flights_named inv.drawn_named inv.decided_named inv.limited_named next refl refl texts refl refl refl
      (filtered-flights t.keys serial t.flights.items _ left) left_named refl
      ∙ ap (λ x. machine.effect (machine.Fetched serial l x) (state_of v)) (noted_same got scan edges) in
      along (λ (x : Inside _). IsGood g.W.World.told g.W.World.shelved {W = g.row.W.Denot} x) (sym w.self-inside-is)
      (record {
        replays =
            further _ _ _ _ _ inv.replays (machine.Fetched serial l noted) (flies, is_parsed l got scan c.requires.scanned) (state_of next) _ _ state_is
            (sym (append-nil (map news_of t.refused.items)))
            (fetched_history v es' (entered_all (keys_in t.keys) (imports_of scan)) m serial text inv.flights_named inv.drawn_named inv.decided_named inv.limited_named t.history.items w.put-in-Ok.new.v.items inv.history_named w.put-in-Ok.ensures.items);
        flights_named = flights_named t.keys es' (entered_all (keys_in t.keys) (imports_of scan)) m w.retain.new.self.items left_named;
        drawn_named = jobs_named t.keys es' (entered_all (keys_in t.keys) (imports_of scan)) m t.drawn.items inv.drawn_named;
        decided_named = numbers_named t.keys es' (entered_all (keys_in t.keys) (imports_of scan)) m t.decided.items inv.decided_named;
        limited_named = numbers_named t.keys es' (entered_all (keys_in t.keys) (imports_of scan)) m t.limited.items inv.limited_named;
        history_named =
            all-push (IsStepNamed (length es')) t.history.items _ (steps.Fetched serial) w.put-in-Ok.ensures.items
            (steps_named t.keys es' (entered_all (keys_in t.keys) (imports_of scan)) m t.history.items inv.history_named) tt;
        owned = owned_more t.keys es' (entered_all (keys_in t.keys) (imports_of scan)) m inv.owned;
        asks = ap machine.outcome_of state_is ∙ asks_more t.keys es' (entered_all (keys_in t.keys) (imports_of scan)) m (state_of v) inv.asks;
        known =
            known_more t.root t.keys es' t.texts.items text (imports_of scan) m inv.known (keys_are_noted l got scan edges c.requires.scanned)
            (is_read (rows_of es') l got scan edges c.requires.scanned ends) w.in-Ok.ensures.few w.put.new.v.items texts;
        fit = fit_more t.keys (entered_all (keys_in t.keys) (imports_of scan)) es' m w.retain.new.self.items left_named (fit_filtered t.keys (others serial) t.flights.items _ left inv.fit);
        scratch = w.in-Ok.ensures.scratch;
        explored =
            known_grown t.keys es' (entered_all (keys_in t.keys) (imports_of scan)) m (state_of v) (state_of next) (step_grows _ _ _ _ (state_of v) (state_of next) (machine.Fetched serial l noted) inv.replays (flies, is_parsed l got scan c.requires.scanned) state_is) refl
            (ap machine.outcome_of state_is) t.scratch.explored c.room_for.new.scratch.explored c.room_for.ensures.known inv.explored;
        texts_told = all-push (λ (x : Text). IsTold (g.W.World.told x.loc) x.got) t.texts.items _ text texts inv.texts_told c.requires.told;
        looks_shelved = inv.looks_shelved;
        text_order =
            order_grown rank_of_text w.as_slice-rows.result.now c.room_for.new.texts.items w.put.new.v.items text w.insert.new.self.numbers.items w.as_slice-rows.ensures.value
            (w.put.ensures.items ∙ (λ i. c.room_for.new.texts.items ++ record { loc = l; got = got; read = w.read_of-read.ensures i } ∷ [])) w.insert.ensures;
        look_order = inv.look_order;
        room =
            room_lands (vec_len t.flights) _ (vec_capacity t.flights) _ (vec_len t.drawn) _ (vec_len t.history) _ (vec_capacity t.history) _ (vec_len t.refused) _ _ fewer inv.room w.retain.ensures.capacity w.put-in-Ok.ensures.len w.put-in-Ok.ensures.room;
      })
  | in-Err w ↦
      let t = c.self.inside in
      let inv = c.self.invariant in
      let keys_are : t.keys ≡ c.room_for.new.keys = sym w.in-Err.ensures.same in
      let texts_are : t.texts.items ≡ c.room_for.new.texts.items = sym w.in-Err.ensures.items in
      let as_before : view_of {W = g.row.W.Denot} t ≡ view_of {W = g.row.W.Denot} (record t { keys = c.room_for.new.keys; texts = c.room_for.new.texts; scratch = c.room_for.new.scratch }) =
      λ i. record (view_of {W = g.row.W.Denot} t) { keys = keys_are i; texts = texts_are i } in
      along (λ (x : Inside _). IsGood g.W.World.told g.W.World.shelved {W = g.row.W.Denot} x) (sym w.self-inside-is)
      (record {
        replays = along IsReplayed as_before inv.replays;
        flights_named = along (λ es. All (λ (f : Flight). f.job.key < length es) t.flights.items) keys_are inv.flights_named;
        drawn_named = along (λ es. All (λ (j : Job). j.key < length es) t.drawn.items) keys_are inv.drawn_named;
        decided_named = along (λ es. All (λ (n : ℕ). n < length es) t.decided.items) keys_are inv.decided_named;
        limited_named = along (λ es. All (λ (n : ℕ). n < length es) t.limited.items) keys_are inv.limited_named;
        history_named = along (λ es. All (IsStepNamed (length es)) t.history.items) keys_are inv.history_named;
        owned = along (λ es. All IsOwned es) keys_are inv.owned;
        asks = along (λ (x : Shown). machine.outcome_of (state_of x) ≡ ask_of (rows_of x.keys)) as_before inv.asks;
        known = along (λ (x : Shown). IsKnown t.root x.keys x.texts) as_before inv.known;
        fit = along (λ es. AreFit es t.flights.items) keys_are inv.fit;
        scratch = w.in-Err.ensures.scratch;
        explored = along (λ (x : Shown). Knows (state_of x) x.keys c.room_for.new.scratch.explored) as_before (known_alike (state_of (view_of {W = g.row.W.Denot} t)) t.keys t.scratch.explored c.room_for.new.scratch.explored c.room_for.ensures.known inv.explored);
        texts_told = along (λ (ts : List Text). AreTold g.W.World.told ts) texts_are inv.texts_told;
        looks_shelved = inv.looks_shelved;
        text_order = along (λ (ns : List ℕ). IsOrder (map rank_of_text c.room_for.new.texts.items) ns) (sym w.in-Err.ensures.numbers) (along (λ (ts : List Text). IsOrder (map rank_of_text ts) t.text_order.numbers.items) texts_are inv.text_order);
        look_order = inv.look_order;
        room = inv.room;
      })
]

pub returns-clause-lands : goal.returns-clause-lands
returns-clause-lands g c = elim c.match-room_for.branch [
  | in-Ok w ↦
      let t = c.self.inside in
      let v = view_of {W = g.row.W.Denot} t in
      let inv = c.self.invariant in
      let serial = c.args.serial in
      let l = c.args.loc in
      let got = c.args.got in
      let scan = c.args.scan in
      let es' = c.room_for.new.keys in
      let edges = w.in-Ok.edges in
      let m : AreMore t.keys (entered_all (keys_in t.keys) (imports_of scan)) es' = along (λ ks. AreMore t.keys (entered_all (keys_in t.keys) ks) es') c.imports_of.ensures w.in-Ok.ensures.entered in
      let text : Text = record { loc = l; got = got; read = read_of scan edges } in
      let texts : w.put.new.v.items ≡ t.texts.items ++ text ∷ [] =
      w.put.ensures.items ∙ (λ i. w.in-Ok.ensures.items i ++ record { loc = l; got = got; read = w.read_of-read.ensures i } ∷ []) in
      let left : w.retain.new.self.items ≡ filter (others serial) t.flights.items = filter_same _ (others serial) _ (λ x b f r. search rules) _ _ w.retain.ensures.filtered in
      let left_named = along (λ fs. All (λ (f : Flight). f.job.key < length t.keys) fs) (sym left) (all-filter (λ (f : Flight). f.job.key < length t.keys) (others serial) t.flights.items inv.flights_named) in
      let next = view_of {W = g.row.W.Denot} (record t { keys = es'; texts = w.put.new.v; flights = w.retain.new.self; history = w.put-in-Ok.new.v; scratch = c.room_for.new.scratch }) in
      let noted = noted_by got (parsed_by scan) in
      let state_is =
      fetched_state v es' (entered_all (keys_in t.keys) (imports_of scan)) m serial text inv.flights_named inv.drawn_named inv.decided_named inv.limited_named next refl refl texts refl refl refl
      (filtered-flights t.keys serial t.flights.items _ left) left_named refl
      ∙ ap (λ x. machine.effect (machine.Fetched serial l x) (state_of v)) (noted_same got scan edges) in
      let done : Records serial (machine.fetched l noted) c.args.self.now next = record {
        may = (c.requires.in_time, is_parsed l got scan c.requires.scanned);
        state_is = state_is ∙ ap (λ (x : Shown). machine.effect (machine.Fetched serial l noted) (state_of x)) c.self.view_is;
        adds = record {
          history_is = w.put-in-Ok.ensures.items ∙ ap (λ (x : Shown). x.history ++ steps.Fetched serial ∷ []) c.self.view_is;
          spare_falls = grind (arith, common_steps);
        };
      } in
      along (λ (o : Option News). MatchOption o (Records serial (machine.fetched l noted) c.args.self.now (view_of {W = g.row.W.Denot} c.match-room_for.self-inside)) (λ (n : News). (n ≡ news.Fetched l got scan) × (view_of {W = g.row.W.Denot} c.match-room_for.self-inside ≡ c.args.self.now))) (sym w.result-is)
      (along (λ (x : Inside _). Records serial (machine.fetched l noted) c.args.self.now (view_of {W = g.row.W.Denot} x)) (sym w.self-inside-is) done)
  | in-Err w ↦
      let t = c.self.inside in
      let l = c.args.loc in
      let got = c.args.got in
      let scan = c.args.scan in
      let noted = noted_by got (parsed_by scan) in
      let keys_are : c.room_for.new.keys ≡ t.keys = w.in-Err.ensures.same in
      let texts_are : c.room_for.new.texts.items ≡ t.texts.items = w.in-Err.ensures.items in
      let as_before : view_of {W = g.row.W.Denot} (record t { keys = c.room_for.new.keys; texts = c.room_for.new.texts; scratch = c.room_for.new.scratch }) ≡ view_of {W = g.row.W.Denot} t =
      λ i. record (view_of {W = g.row.W.Denot} t) { keys = keys_are i; texts = texts_are i } in
      along (λ (o : Option News). MatchOption o (Records c.args.serial (machine.fetched l noted) c.args.self.now (view_of {W = g.row.W.Denot} c.match-room_for.self-inside)) (λ (n : News). (n ≡ news.Fetched l got scan) × (view_of {W = g.row.W.Denot} c.match-room_for.self-inside ≡ c.args.self.now))) (sym w.result-is)
      (refl, along (λ (x : Inside _). view_of {W = g.row.W.Denot} x ≡ c.args.self.now) (sym w.self-inside-is) (as_before ∙ c.self.view_is))
]

pub returns-clause-decided : goal.returns-clause-decided
returns-clause-decided g c =
    landed_decided (λ (n : News). n ≡ news.Fetched c.args.loc c.args.got c.args.scan) c.args.serial (machine.fetched c.args.loc (noted_by c.args.got (parsed_by c.args.scan))) c.args.self.now
    (view_of {W = g.row.W.Denot} c.match-room_for.self-inside) c.match-room_for.result
    (along IsReplayed c.self.view_is c.self.invariant.replays) (returns-clause-lands g c)

pub insert-requires-clause-new : goal.insert-requires-clause-new
insert-requires-clause-new g c =
    let t = c.self.inside in
    let v = view_of {W = g.row.W.Denot} t in
    let l = c.args.loc in
    let flies : InFlight (state_of v) c.args.serial (machine.Fetch l) = along (λ (x : Shown). InFlight (state_of x) c.args.serial (machine.Fetch l)) (sym c.self.view_is) c.requires.in_time in
    along (λ (ts : List Text). IsRanked (map rank_of_text ts) (loc_rank l) None) (sym (c.as_slice-rows.ensures.value ∙ c.room_for.ensures.items))
    (text_unrecorded v c.args.serial l c.self.invariant.replays flies)
