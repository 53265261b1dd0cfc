use Rattle.std.proofs.Common.{◌≡◌, ◌<◌, refl, ap, sym, ◌∙◌, append-nil, arith, length, subst as along}
use Rattle.std.specs.Prelude.{ℕ, All, Some, None, map, slice_index_or}
use Rattle.std.proofs.lemmas.Bool.{false≢true}
use Rattle.std.proofs.lemmas.Grind.{common_steps}
use Rattle.std.proofs.lemmas.List.Elements.{All-get_or}
use Rattle.dh_imports.specs.declared.outcomes.Outcome as program
use Rattle.dh_imports.specs.declared.outcomes.Outcome.TheVariants.{Bad}
use Rattle.dh_imports.specs.declared.outcomes.Why.TheVariants.{Cycle}
use Rattle.dh_syntax.specs.Expressions.Bridge.{term}
use Rattle.dh_imports.specs.Machine as machine
use Rattle.dh_imports.specs.Machine.{May, outcome_of, with_outcome}
use Rattle.dh_imports.specs.Outcomes.{plain}
use Rattle.dh_demand.specs.Results.{ask_of}
use Rattle.dh_table.specs.declared.steps.Flight.{Flight}
use Rattle.dh_table.specs.declared.steps.Job.{Job}
use Rattle.dh_table.specs.declared.steps.Step.TheVariants as steps
use Rattle.dh_record.specs.Entering.{decided_at}
use Rattle.dh_table.specs.Shown.{Shown}
use Rattle.dh_record.specs.Rows.{nobody, rows_of, key_named}
use Rattle.dh_table.specs.States.{state_of, step_by}
use Rattle.dh_record.specs.Brought.{news_of}
use Rattle.dh_table.specs.Tables.{AreFit, IsKnown, IsOwned, IsStepNamed, IsRoomy, view_of}
use Rattle.dh_record.proofs.Decided.{undecided_at, decided_length}
use Rattle.dh_table.proofs.Deciding.{decided_state, decided_history, decided_known, decided_owned, asks_after, no_limit}
use Rattle.dh_table.proofs.Fitting.{fit_decided}
use Rattle.dh_table.proofs.Histories.{further}
use Rattle.dh_table.proofs.Stepping.{all-push}
use Rattle.dh_table.proofs.tables.Table.mark.Goals as goal

pub invariant_of-self : goal.invariant_of-self
invariant_of-self g c =
    let t = c.self.inside in
    let v = view_of {W = g.row.W.Denot} t in
    let keys = t.keys in
    let n = c.args.n in
    let k = key_named keys n in
    let inv = c.self.invariant in
    let may : May (machine.Cycled k) (state_of v) = along (λ (x : Shown). May (machine.Cycled (key_named x.keys n)) (state_of x)) (sym c.self.view_is) c.requires.may in
    let inside : n < length keys = along (λ (x : Shown). n < length x.keys) (sym c.self.view_is) c.requires.inside in
    let undecided : outcome_of (state_of v) k ≡ None = ((may.2).1).0 in
    let d = inv.known.distinct in
    let own : (slice_index_or keys n nobody).own ≡ Some k = All-get_or IsOwned keys n nobody inside inv.owned (undecided_at keys n inside d ((λ i. sym inv.asks i k) ∙ undecided)) in
    let o : program.Outcome = Bad (record { at = Some k; why = Cycle }) in
    let keys_is : c.mark.new.self ≡ decided_at keys n o = c.mark.ensures ∙ ap (λ a. decided_at keys n (Bad (record { at = a; why = Cycle }))) own in
    let unlimited = no_limit (term t.root.expr) (state_of v) k inv.replays.events inv.replays.lawful inv.replays.state_is undecided in
    let next = view_of {W = g.row.W.Denot} (record t { keys = c.mark.new.self; decided = c.put.new.v; history = c.put-2.new.v }) in
    let state_is : state_of next ≡ with_outcome (state_of v) k (plain o) = decided_state v n o inside d undecided unlimited next refl keys_is refl refl c.put.ensures.items refl refl refl in
    let sizes = decided_length keys n o c.mark.new.self keys_is in
    record {
      replays =
          further _ _ _ _ _ inv.replays (machine.Cycled k) may (state_of next) _ _ state_is (sym (append-nil (map news_of t.refused.items)))
          (ap (λ es. map (step_by es) c.put-2.new.v.items) keys_is ∙ decided_history v n o inside d undecided unlimited t.history.items c.put-2.new.v.items c.put-2.ensures.items);
      flights_named = along (λ m. All (λ (f : Flight). f.job.key < m) t.flights.items) (sym sizes) inv.flights_named;
      drawn_named = along (λ m. All (λ (j : Job). j.key < m) t.drawn.items) (sym sizes) inv.drawn_named;
      decided_named = along (λ m. All (λ (x : ℕ). x < m) c.put.new.v.items) (sym sizes) (all-push (λ (x : ℕ). x < length keys) t.decided.items c.put.new.v.items n c.put.ensures.items inv.decided_named inside);
      limited_named = along (λ m. All (λ (x : ℕ). x < m) t.limited.items) (sym sizes) inv.limited_named;
      history_named = along (λ m. All (IsStepNamed m) c.put-2.new.v.items) (sym sizes) (all-push (IsStepNamed (length keys)) t.history.items _ (steps.Cycled n) c.put-2.ensures.items inv.history_named inside);
      owned = along (λ es. All IsOwned es) (sym keys_is) (decided_owned keys n o inside d inv.owned);
      asks = ap outcome_of state_is ∙ asks_after (state_of v) keys n o inside d inv.asks ∙ ap (λ es. ask_of (rows_of es)) (sym keys_is);
      known = along (λ es. IsKnown t.root es t.texts.items) (sym keys_is) (decided_known keys n o inside d t.root t.texts.items inv.known);
      fit = along (λ es. AreFit es t.flights.items) (sym keys_is) (fit_decided keys n o t.flights.items inside d tt inv.fit);
      scratch = let r = along (λ m. IsRoomy m t.scratch) (sym sizes) inv.scratch in record { explored = record { marks = r.explored.marks; piles = r.explored.piles }; seen = r.seen; trail = r.trail };
      explored = λ h. absurd (false≢true h);
      texts_told = inv.texts_told;
      looks_shelved = inv.looks_shelved;
      text_order = inv.text_order;
      look_order = inv.look_order;
      room = grind (arith, common_steps);
    }

pub returns-clause-state : goal.returns-clause-state
returns-clause-state g c =
    let t = c.self.inside in
    let v = view_of {W = g.row.W.Denot} t in
    let keys = t.keys in
    let n = c.args.n in
    let k = key_named keys n in
    let inv = c.self.invariant in
    let may : May (machine.Cycled k) (state_of v) = along (λ (x : Shown). May (machine.Cycled (key_named x.keys n)) (state_of x)) (sym c.self.view_is) c.requires.may in
    let inside : n < length keys = along (λ (x : Shown). n < length x.keys) (sym c.self.view_is) c.requires.inside in
    let undecided : outcome_of (state_of v) k ≡ None = ((may.2).1).0 in
    let d = inv.known.distinct in
    let own : (slice_index_or keys n nobody).own ≡ Some k = All-get_or IsOwned keys n nobody inside inv.owned (undecided_at keys n inside d ((λ i. sym inv.asks i k) ∙ undecided)) in
    let o : program.Outcome = Bad (record { at = Some k; why = Cycle }) in
    let keys_is : c.mark.new.self ≡ decided_at keys n o = c.mark.ensures ∙ ap (λ a. decided_at keys n (Bad (record { at = a; why = Cycle }))) own in
    let unlimited = no_limit (term t.root.expr) (state_of v) k inv.replays.events inv.replays.lawful inv.replays.state_is undecided in
    let next = view_of {W = g.row.W.Denot} (record t { keys = c.mark.new.self; decided = c.put.new.v; history = c.put-2.new.v }) in
    decided_state v n o inside d undecided unlimited next refl keys_is refl refl c.put.ensures.items refl refl refl
    ∙ ap (λ (x : Shown). machine.effect (machine.Cycled (key_named x.keys n)) (state_of x)) c.self.view_is
