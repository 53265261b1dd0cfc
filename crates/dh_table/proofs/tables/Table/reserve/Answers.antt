use Rattle.std.proofs.Common.{◌≡◌, ◌<◌, arith, length, sym, subst as along}
use Rattle.std.specs.Prelude.{ℕ, List, All}
use Rattle.std.proofs.lemmas.Grind.{common_steps}
use Rattle.dh_imports.specs.Machine.{outcome_of}
use Rattle.dh_demand.specs.Results.{ask_of}
use Rattle.dh_table.specs.declared.steps.Flight.{Flight}
use Rattle.dh_table.specs.declared.steps.Job.{Job}
use Rattle.dh_table.specs.declared.steps.Step.{Step}
use Rattle.dh_table.specs.Inside.Searching.{Knows}
use Rattle.dh_table.specs.Shown.{Shown}
use Rattle.dh_table.specs.States.{IsReplayed, state_of}
use Rattle.dh_record.specs.Rows.{rows_of}
use Rattle.dh_table.specs.Tables.{AreFit, IsStepNamed, view_of}
use Rattle.dh_table.proofs.tables.Table.reserve.Goals as goal

pub invariant_of-self-2 : goal.invariant_of-self-2
invariant_of-self-2 g c =
    let t = c.self.inside in
    let v = view_of {W = g.row.W.Denot} t in
    let inv = c.self.invariant in
    let flights = sym c.reserve.ensures.items in
    let drawn = sym c.reserve-2.ensures.items in
    let history = sym c.reserve-3.ensures.items in
    let refused = sym c.reserve-4.ensures.items in
    let decided = sym c.reserve-5.ensures.items in
    let limited = sym c.reserve-6.ensures.items in
    let same : v ≡ record v { flights = c.reserve.new.self.items; drawn = c.reserve-2.new.self.items; history = c.reserve-3.new.self.items; refused = c.reserve-4.new.self.items; decided = c.reserve-5.new.self.items; limited = c.reserve-6.new.self.items } =
    λ i. record v { flights = flights i; drawn = drawn i; history = history i; refused = refused i; decided = decided i; limited = limited i } in
    record {
      replays = along IsReplayed same inv.replays;
      flights_named = along (λ (fs : List Flight). All (λ (f : Flight). f.job.key < length t.keys) fs) flights inv.flights_named;
      drawn_named = along (λ (js : List Job). All (λ (j : Job). j.key < length t.keys) js) drawn inv.drawn_named;
      decided_named = along (λ (ns : List ℕ). All (λ (n : ℕ). n < length t.keys) ns) decided inv.decided_named;
      limited_named = along (λ (ns : List ℕ). All (λ (n : ℕ). n < length t.keys) ns) limited inv.limited_named;
      history_named = along (λ (hs : List Step). All (IsStepNamed (length t.keys)) hs) history inv.history_named;
      owned = inv.owned;
      asks = along (λ (x : Shown). outcome_of (state_of x) ≡ ask_of (rows_of t.keys)) same inv.asks;
      known = inv.known;
      fit = along (λ (fs : List Flight). AreFit t.keys fs) flights inv.fit;
      scratch = inv.scratch;
      explored = along (λ (x : Shown). Knows (state_of x) t.keys t.scratch.explored) same inv.explored;
      texts_told = inv.texts_told;
      looks_shelved = inv.looks_shelved;
      text_order = inv.text_order;
      look_order = inv.look_order;
      room = grind (arith, common_steps);
    }
