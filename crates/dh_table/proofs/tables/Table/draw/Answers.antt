use Rattle.std.proofs.Common.{rules, ◌≡◌, ◌+◌, ◌<◌, suc, length, refl, sym, arith, append-nil, subst as along}
use Rattle.std.specs.Prelude.{map}
use Rattle.std.proofs.lemmas.Grind.{common_steps}
use Rattle.dh_imports.specs.Machine as machine
use Rattle.dh_imports.specs.Machine.{IsOpen}
use Rattle.dh_table.specs.declared.steps.Flight.{Flight}
use Rattle.dh_table.specs.declared.steps.Job.{Job}
use Rattle.dh_table.specs.States.{IsFrozenLook, state_of, task_of}
use Rattle.dh_record.specs.Brought.{news_of}
use Rattle.dh_table.specs.Tables.{IsStepNamed, view_of}
use Rattle.dh_table.proofs.Fitting.{fit_drawn}
use Rattle.dh_table.proofs.Histories.{further}
use Rattle.dh_table.proofs.Known.{known_flights}
use Rattle.dh_table.proofs.Stepping.{state-with, drawn-flights, drawn-jobs, drawn-history, all-push}
use Rattle.dh_table.proofs.tables.Table.draw.Goals as goal

pub invariant_of-self : goal.invariant_of-self
invariant_of-self g c =
    let t = c.self.inside in
    let old = view_of t in
    let keys = t.keys in
    let n : c.len.result + 1 ≡ suc (length t.drawn.items) = search rules in
    let named : c.args.job.key < length keys = search rules in
    let f : Flight = record { serial = c.len.result + 1; job = c.args.job } in
    let next = view_of (record t { flights = c.put-2.new.v; drawn = c.put.new.v; history = c.put-3.new.v }) in
    record {
      replays =
          further _ _ _ _ _ c.self.invariant.replays (machine.Claim c.args.worker (task_of keys c.args.job)) (along (λ v. IsOpen (state_of v) (task_of v.keys c.args.job)) (sym c.self.view_is) c.requires.open)
          (state_of next) _ _
          (state-with (state_of next) _ _ (drawn-flights keys t.flights.items _ t.drawn.items f c.put-2.ensures.items n) (drawn-jobs keys t.drawn.items _ c.args.job c.put.ensures.items))
          (sym (append-nil (map news_of t.refused.items)))
          (drawn-history keys t.history.items _ t.drawn.items c.args.worker (c.len.result + 1) c.args.job c.put-3.ensures.items n);
      flights_named = all-push (λ (f : Flight). f.job.key < length t.keys) t.flights.items _ f c.put-2.ensures.items c.self.invariant.flights_named (search rules);
      drawn_named = all-push (λ (j : Job). j.key < length t.keys) t.drawn.items _ _ c.put.ensures.items c.self.invariant.drawn_named (search rules);
      decided_named = c.self.invariant.decided_named;
      limited_named = c.self.invariant.limited_named;
      history_named = all-push (IsStepNamed (length t.keys)) t.history.items _ _ c.put-3.ensures.items c.self.invariant.history_named tt;
      owned = c.self.invariant.owned;
      asks = c.self.invariant.asks;
      known = c.self.invariant.known;
      fit = fit_drawn keys t.flights.items _ f c.put-2.ensures.items (along (λ v. IsFrozenLook v.keys c.args.job) (sym c.self.view_is) c.requires.frozen) c.self.invariant.fit;
      scratch = c.self.invariant.scratch;
      explored = λ h. known_flights (state_of old) (state_of next) refl refl refl keys _ _ (c.self.invariant.explored h);
      texts_told = c.self.invariant.texts_told;
      looks_shelved = c.self.invariant.looks_shelved;
      text_order = c.self.invariant.text_order;
      look_order = c.self.invariant.look_order;
      room = grind (arith, common_steps);
    }
