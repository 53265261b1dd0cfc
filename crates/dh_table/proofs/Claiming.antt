-- What a claim answers, by the steps that it makes.
use Rattle.std.specs.Prelude.{◌≡◌, ℕ, suc, List, [], ◌∷◌, ◌++◌, length, Option, Some, None, IsSome, refl}
use Rattle.std.proofs.Common.{ap, sym, ◌∙◌, subst, arith, append_assoc, append-nil}
use Rattle.std.proofs.lemmas.List.{length-append}
use Rattle.dh_imports.specs.Machine as machine
use Rattle.dh_imports.specs.Machine.{Task, State, IsOpen, effect}
use Rattle.dh_imports.specs.Replay.{root_end}
use Rattle.dh_table.specs.declared.steps.claims.Claimed.TheVariants as claimed
use Rattle.dh_table.specs.declared.steps.Job.{Job}
use Rattle.dh_record.specs.declared.kinds.Kind.{Kind}
use Rattle.dh_table.specs.declared.steps.Step.{Step}
use Rattle.dh_table.specs.declared.steps.Step.TheVariants as steps
use Rattle.dh_table.specs.declared.tables.Ticket.{Ticket}
use Rattle.dh_table.specs.Calls.{Adds, HandsOut, claim_steps}
use Rattle.dh_table.specs.Inside.Searching.{IsJob}
use Rattle.dh_table.specs.Shown.{Shown}
use Rattle.dh_table.specs.States.{task_of, kind_by, state_of}
use Rattle.dh_record.specs.Rows.{key_named}
use Rattle.dh_record.proofs.Latest.{length-reverse-map}
use Rattle.dh_table.proofs.Stepping.{kind-task}

pub none_of : {X : Type 0} (o : Option X) → (IsSome o → ⊥) → o ≡ None
none_of None h = refl
none_of (Some x) h = absurd (h refl)

pub adds_joined : (a b c : Shown) (xs ys : List Step) → Adds a b xs → Adds b c ys → Adds a c (xs ++ ys)
adds_joined a b c xs ys p q = record {
  history_is = q.history_is ∙ ap (λ hs. hs ++ ys) p.history_is ∙ append_assoc a.history xs ys;
  spare_falls = let l = length-append xs ys in let m = p.spare_falls in let n = q.spare_falls in omega arith;
}

pub adds_nothing : (a : Shown) → Adds a a []
adds_nothing a = record { history_is = sym (append-nil a.history); spare_falls = omega arith }

-- a task is handed out in the state of this table
module _ (worker : ℕ) (mid new : Shown) (job : Job) (ticket : Ticket) (found : IsJob (state_of mid) mid.keys job) (serial : ticket.serial ≡ suc (length mid.drawn)) (kind : ticket.kind ≡ job.kind) where
  pub hands_out : (s : State) → state_of mid ≡ s → root_end s ≡ None → state_of new ≡ effect (machine.Claim worker (task_of mid.keys job)) (state_of mid) → HandsOut worker s new ticket
  hands_out s p u q = record {
    undecided = u;
    task = task_of mid.keys job;
    open_task = subst (λ x. IsOpen x (task_of mid.keys job)) p found.open_task;
    serial_is = serial ∙ ap suc (sym (length-reverse-map (task_of mid.keys) mid.drawn)) ∙ ap (λ (x : State). suc (length x.drawn)) p;
    kind_is = ap kind_by kind ∙ kind-task job.kind (key_named mid.keys job.key);
    state_is = q ∙ ap (effect (machine.Claim worker (task_of mid.keys job))) p;
  }

  pub claim_adds : Adds mid new (steps.Claim worker job.kind (suc (length mid.drawn)) ∷ []) → Adds mid new (claim_steps worker (claimed.Task ticket))
  claim_adds a = subst (λ (k : Kind). Adds mid new (steps.Claim worker k ticket.serial ∷ [])) (sym kind) (subst (λ (n : ℕ). Adds mid new (steps.Claim worker job.kind n ∷ [])) (sym serial) a)
