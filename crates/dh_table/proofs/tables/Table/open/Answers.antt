use Rattle.std.proofs.Common.{ap, sym, ◌∙◌, subst as along, arith}
use Rattle.std.specs.Prelude.{ℕ, List, ◌<◌, [], None, Option, MatchOption, length, map}
use Rattle.std.proofs.lemmas.List.Elements.{All-nil, All-same}
use Rattle.std.proofs.lemmas.Bool.{false≢true}
use Rattle.std.proofs.lemmas.Grind.{common_steps}
use Rattle.dh_imports.specs.Machine.{outcome_of}
use Rattle.dh_syntax.specs.Expressions.Bridge.{term}
use Rattle.dh_imports.specs.Walk.{keys_of}
use Rattle.dh_syntax.specs.Limits.{most_keys}
use Rattle.dh_demand.specs.declared.scans.Edge.{Edge}
use Rattle.dh_demand.specs.declared.scans.Scan.{Scan}
use Rattle.dh_table.specs.declared.steps.Flight.{Flight}
use Rattle.dh_table.specs.declared.steps.Job.{Job}
use Rattle.dh_record.specs.declared.rows.recorded.Look.{Look}
use Rattle.dh_record.specs.declared.rows.recorded.Text.{Text}
use Rattle.dh_record.specs.Brought.{IsShelved, IsTold}
use Rattle.dh_record.specs.Entering.{AreEdges, AreFew, entered_all, keys_in}
use Rattle.dh_record.specs.Sorting.{IsOrder, rank_of_look, rank_of_text}
use Rattle.dh_record.specs.Rows.{rows_of}
use Rattle.dh_table.specs.Tables.{AreFit, IsKnown, IsStepNamed, view_of}
use Rattle.dh_table.proofs.Fitting.{fit_opened}
use Rattle.dh_table.proofs.Beginnings.{entered_as, all_new, all_owned, opened_known, opened_asks, opened_count, IsEmpty, empty_state, empty_replayed, above, not_above, entered_count, few_enough}
use Rattle.dh_table.proofs.tables.Table.open.Goals as goal

pub returns-in_default-clause-too_many : goal.returns-in_default-clause-too_many
returns-in_default-clause-too_many g c e =
    above _ _ ((λ i. length (entered_all (keys_in (c.new-keys.ensures i)) ((c.as_slice.ensures ∙ c.in_ok-imports.ensures) i))) ∙ entered_count (term c.args.root)) (along (λ (r : Option (List Edge)). MatchOption r (most_keys < length (entered_all (keys_in c.new-keys.result) c.as_slice.result.now)) (λ es. AreFew c.new-keys.result c.as_slice.result.now most_keys c.enter_few.new.keys es)) c.in_default.is c.in_ok-entered.ensures)

pub invariant_of-result : goal.invariant_of-result
invariant_of-result g c =
    let root : Scan = record { expr = c.args.root; edges = c.in-Some.edges } in
    let few : AreFew c.new-keys.result c.as_slice.result.now most_keys c.enter_few.new.keys c.in-Some.edges =
    along (λ (r : Option (List Edge)). MatchOption r (most_keys < length (entered_all (keys_in c.new-keys.result) c.as_slice.result.now)) (λ es. AreFew c.new-keys.result c.as_slice.result.now most_keys c.enter_few.new.keys es)) c.in-Some.is c.in_ok-entered.ensures in
    let keys = c.enter_few.new.keys in
    let m = entered_as _ _ (keys_of None (term c.args.root)) keys c.new-keys.ensures (c.as_slice.ensures ∙ c.in_ok-imports.ensures) few.entered_are in
    let edges = along (λ ks. AreEdges None (rows_of keys) ks c.in-Some.edges) (c.as_slice.ensures ∙ c.in_ok-imports.ensures) few.edges_are in
    let known : IsKnown root keys c.new.result.items = along (λ (ts : _). IsKnown root keys ts) (sym c.new.ensures.items) (opened_known root keys m (few_enough (length keys) few.few) edges) in
    let t =
    view_of {W = g.row.W.Denot} (record { root = root; keys = keys; texts = c.new.result; looks = c.new-2.result; text_order = c.new-3.result; look_order = c.new-4.result; decided = c.new-5.result; limited = c.new-6.result; flights = c.new-7.result; drawn = c.new-8.result; history = c.new-9.result; refused = c.new-10.result; scratch = c.in_ok-scratch.scratch; world = record {} }) in
    let empty : IsEmpty t = record {
      texts = c.new.ensures.items;
      looks = c.new-2.ensures.items;
      decided = c.new-5.ensures.items;
      limited = c.new-6.ensures.items;
      flights = c.new-7.ensures.items;
      drawn = c.new-8.ensures.items;
      history = c.new-9.ensures.items;
      refused = c.new-10.ensures.items;
    } in
    record {
      replays = empty_replayed t empty;
      flights_named = All-same (λ (f : Flight). f.job.key < length keys) c.new-7.result.items [] c.new-7.ensures.items (All-nil (λ (f : Flight). f.job.key < length keys));
      drawn_named = All-same (λ (j : Job). j.key < length keys) c.new-8.result.items [] c.new-8.ensures.items (All-nil (λ (j : Job). j.key < length keys));
      decided_named = All-same (λ (n : ℕ). n < length keys) c.new-5.result.items [] c.new-5.ensures.items (All-nil (λ (n : ℕ). n < length keys));
      limited_named = All-same (λ (n : ℕ). n < length keys) c.new-6.result.items [] c.new-6.ensures.items (All-nil (λ (n : ℕ). n < length keys));
      history_named = All-same (IsStepNamed (length keys)) c.new-9.result.items [] c.new-9.ensures.items (All-nil (IsStepNamed (length keys)));
      owned = all_owned root keys m;
      asks = ap outcome_of (empty_state t empty) ∙ opened_asks root keys m;
      known = known;
      fit = along (λ (fs : List Flight). AreFit keys fs) (sym c.new-7.ensures.items) (fit_opened keys (all_new root keys m));
      scratch = (rw c.len.ensures at c.in_ok-scratch.ensures.room);
      explored = λ h. absurd (false≢true (sym c.in_ok-scratch.ensures.unknown ∙ h));
      texts_told = All-same (λ (x : Text). IsTold (g.W.World.told x.loc) x.got) c.new.result.items [] c.new.ensures.items (All-nil (λ (x : Text). IsTold (g.W.World.told x.loc) x.got));
      looks_shelved = All-same (λ (l : Look). IsShelved l.digest (g.W.World.shelved l.digest) l.look) c.new-2.result.items [] c.new-2.ensures.items (All-nil (λ (l : Look). IsShelved l.digest (g.W.World.shelved l.digest) l.look));
      text_order = along (λ (ts : List Text). IsOrder (map rank_of_text ts) c.new-3.result.numbers.items) (sym c.new.ensures.items) c.new-3.ensures;
      look_order = along (λ (ls : List Look). IsOrder (map rank_of_look ls) c.new-4.result.numbers.items) (sym c.new-2.ensures.items) c.new-4.ensures;
      room = grind (arith, common_steps);
    }

pub returns-clause-few : goal.returns-clause-few
returns-clause-few g c =
    let root : Scan = record { expr = c.args.root; edges = c.in-Some.edges } in
    let few : AreFew c.new-keys.result c.as_slice.result.now most_keys c.enter_few.new.keys c.in-Some.edges =
    along (λ (r : Option (List Edge)). MatchOption r (most_keys < length (entered_all (keys_in c.new-keys.result) c.as_slice.result.now)) (λ es. AreFew c.new-keys.result c.as_slice.result.now most_keys c.enter_few.new.keys es)) c.in-Some.is c.in_ok-entered.ensures in
    let m = entered_as _ _ (keys_of None (term c.args.root)) c.enter_few.new.keys c.new-keys.ensures (c.as_slice.ensures ∙ c.in_ok-imports.ensures) few.entered_are in
    not_above _ _ (opened_count root c.enter_few.new.keys m) few.few
