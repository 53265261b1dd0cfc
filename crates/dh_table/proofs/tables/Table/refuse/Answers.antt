use Rattle.std.proofs.Common.{sym, refl, arith, length, subst as along}
use Rattle.std.proofs.lemmas.Grind.{common_steps}
use Rattle.dh_imports.specs.Machine as machine
use Rattle.dh_imports.specs.Machine.{IsInTime}
use Rattle.dh_table.specs.States.{state_of, step_by}
use Rattle.dh_record.specs.Brought.{news_of}
use Rattle.dh_table.specs.Tables.{IsStepNamed, view_of}
use Rattle.dh_table.specs.declared.steps.Step.TheVariants as steps
use Rattle.dh_table.proofs.Histories.{further}
use Rattle.dh_record.proofs.Latest.{mapped}
use Rattle.dh_table.proofs.Stepping.{all-push}
use Rattle.dh_table.proofs.tables.Table.refuse.Goals as goal

pub invariant_of-self : goal.invariant_of-self
invariant_of-self g c =
    let t = c.self.inside in
    let keys = t.keys in
    let next = view_of (record t { history = c.put-2.new.v; refused = c.put.new.v }) in
    record {
      replays =
          further _ _ _ _ _ c.self.invariant.replays (machine.Late c.args.serial (news_of c.args.news))
          (along (λ v. ¬ IsInTime (state_of v) c.args.serial (news_of c.args.news)) (sym c.self.view_is) c.requires.late)
          (state_of next) _ _ refl
          (mapped news_of t.refused.items _ c.args.news c.put.ensures.items)
          (mapped (step_by keys) t.history.items _ (steps.Late c.args.serial) c.put-2.ensures.items);
      flights_named = c.self.invariant.flights_named;
      drawn_named = c.self.invariant.drawn_named;
      decided_named = c.self.invariant.decided_named;
      limited_named = c.self.invariant.limited_named;
      history_named = all-push (IsStepNamed (length t.keys)) t.history.items _ (steps.Late c.args.serial) c.put-2.ensures.items c.self.invariant.history_named tt;
      owned = c.self.invariant.owned;
      asks = c.self.invariant.asks;
      known = c.self.invariant.known;
      fit = c.self.invariant.fit;
      scratch = c.self.invariant.scratch;
      explored = c.self.invariant.explored;
      texts_told = c.self.invariant.texts_told;
      looks_shelved = c.self.invariant.looks_shelved;
      text_order = c.self.invariant.text_order;
      look_order = c.self.invariant.look_order;
      room = grind (arith, common_steps);
    }
