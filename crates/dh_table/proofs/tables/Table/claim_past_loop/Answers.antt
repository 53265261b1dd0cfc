use Rattle.std.proofs.Common.{ap, sym, ◌∙◌, subst as along}
use Rattle.std.specs.Prelude.{◌≡◌, [], ◌∷◌, Some, None, IsSome, length, suc}
use Rattle.std.proofs.lemmas.Bool.{false≢true}
use Rattle.dh_imports.specs.Machine as machine
use Rattle.dh_imports.specs.Machine.{State, May, effect}
use Rattle.dh_imports.specs.Replay.{root_end}
use Rattle.dh_table.specs.declared.steps.Step.TheVariants as steps
use Rattle.dh_table.specs.Calls.{Adds}
use Rattle.dh_table.specs.Inside.Searching.{IsJob}
use Rattle.dh_table.specs.Shown.{Shown}
use Rattle.dh_record.specs.Rows.{key_named}
use Rattle.dh_table.specs.States.{state_of, task_of}
use Rattle.dh_table.proofs.Claiming.{none_of, adds_joined, hands_out, claim_adds}
use Rattle.dh_table.proofs.tables.Table.claim_past_loop.Goals as goal

pub returns-then-is_over : goal.returns-then-is_over
returns-then-is_over g c =
    let old = c.args.self.now in
    let n = c.find_loop-key.result in
    let s : State = effect (machine.Cycled (key_named old.keys n)) (state_of old) in
    let marked : state_of c.mark.new.self ≡ s = c.mark.ensures.state ∙ ap (λ (x : Shown). effect (machine.Cycled (key_named x.keys n)) (state_of x)) c.find_loop-key.ensures.same in
    record {
      mark = Some n;
      may = (c.requires.undecided, c.find_loop-key.ensures.found.may);
      answers = record {
        decided = along (λ (x : State). IsSome (root_end x)) marked (c.is_over.ensures.0 c.if-is_over.true);
        state_is = marked;
      };
      adds = along (λ (x : Shown). Adds x c.mark.new.self (steps.Cycled n ∷ [])) c.find_loop-key.ensures.same c.mark.ensures.adds;
    }

pub returns : goal.returns
returns g c =
    let old = c.args.self.now in
    let n = c.find_loop-key.result in
    let mid = c.mark.new.self in
    let s : State = effect (machine.Cycled (key_named old.keys n)) (state_of old) in
    let marked : state_of mid ≡ s = c.mark.ensures.state ∙ ap (λ (x : Shown). effect (machine.Cycled (key_named x.keys n)) (state_of x)) c.find_loop-key.ensures.same in
    let undecided : root_end (state_of mid) ≡ None = none_of (root_end (state_of mid)) (λ i. false≢true (sym c.if-is_over.false ∙ c.is_over.ensures.1 i)) in
    let found : IsJob (state_of mid) mid.keys c.in-Some.job = c.in-Some.ensures.found in
    let serial : c.draw.result.serial ≡ suc (length mid.drawn) = c.draw.ensures.serial ∙ ap (λ (x : Shown). suc (length x.drawn)) c.in-Some.ensures.same in
    let kind = c.draw.ensures.kind in
    let state_is : state_of c.draw.new.self ≡ effect (machine.Claim c.args.worker (task_of mid.keys c.in-Some.job)) (state_of mid) =
    c.draw.ensures.state ∙ ap (λ (x : Shown). effect (machine.Claim c.args.worker (task_of x.keys c.in-Some.job)) (state_of x)) c.in-Some.ensures.same in
    let drawn : Adds mid c.draw.new.self (steps.Claim c.args.worker c.in-Some.job.kind (suc (length mid.drawn)) ∷ []) =
    along (λ (x : Shown). Adds x c.draw.new.self (steps.Claim c.args.worker c.in-Some.job.kind (suc (length x.drawn)) ∷ [])) c.in-Some.ensures.same c.draw.ensures.adds in
    record {
      mark = Some n;
      may = (c.requires.undecided, c.find_loop-key.ensures.found.may);
      answers = hands_out c.args.worker mid c.draw.new.self c.in-Some.job c.draw.result found serial kind s marked (ap root_end (sym marked) ∙ undecided) state_is;
      adds =
          adds_joined old mid c.draw.new.self (steps.Cycled n ∷ []) _
          (along (λ (x : Shown). Adds x mid (steps.Cycled n ∷ [])) c.find_loop-key.ensures.same c.mark.ensures.adds)
          (claim_adds c.args.worker mid c.draw.new.self c.in-Some.job c.draw.result found serial kind drawn);
    }
