-- A finish that is in flight is still due.
use Rattle.std.specs.Prelude.{◌≡◌, ◌⊎◌, ℕ, suc, true, false, if◌then◌else◌, List, [], ◌∷◌, length, Some, refl}
use Rattle.std.proofs.Common.{sym, subst, inl, inr}
use Rattle.dh_syntax.specs.declared.locations.Key.{Key}
use Rattle.dh_syntax.specs.Expressions.Numbers.{eq}
use Rattle.dh_syntax.specs.Expressions.Tree.{Term}
use Rattle.dh_imports.specs.Machine.{Task, Finish, finishes, TaskOf, State, outcome_of, stage_of, IsDue, InFlight, Event, Claim, Release, Fetched, Looked, Finished, Late, Cycled, May, without, effect, after_all, Lawful}
use Rattle.dh_imports.specs.Records.{lookup}
use Rattle.dh_imports.specs.Resolver.{Stage, Lacks, Has, Meets, Waits}
use Rattle.dh_imports.specs.Walk.{Ask}
use Rattle.dh_laws.proofs.KeyOrder.{bool-case, none-some, some-equal}
use Rattle.dh_import_laws.specs.ImportLaws.{InFlightDue}
use Rattle.dh_import_laws.proofs.Facts.{Grows, step-grows}
use Rattle.dh_import_laws.proofs.Grow.{StageGrown, stage-grown}
use Rattle.dh_import_laws.proofs.Keep.{flew, lawful-keeps, nothing_flies}

due_stage : (more : Ask) (x y : Stage) → StageGrown more x y → IsDue x → IsDue y
due_stage more (Lacks p) y g d = absurd d
due_stage more (Has i) y g d = subst IsDue (sym g) tt
due_stage more (Meets j) y g d = subst IsDue (sym g) tt
due_stage more (Waits k) y g d = absurd d

pub due-grown : (s s' : State) → Grows s s' → (k : Key) → IsDue (stage_of s k) → IsDue (stage_of s' k)
due-grown s s' g k d = due_stage (outcome_of s') (stage_of s k) (stage_of s' k) (stage-grown s.recorded s'.recorded g.longer (outcome_of s) (outcome_of s') g.knows k) d

task_due : (s : State) (k : Key) → TaskOf s (Finish k) → IsDue (stage_of s k)
task_due s k (finishes w d) = d

AreDue : State → Type 0
AreDue s = (n : ℕ) (k : Key) → InFlight s n (Finish k) → IsDue (stage_of s k)

landed_due : (s s' : State) (serial : ℕ) → Grows s s' → s'.flights ≡ without serial s.flights → AreDue s → AreDue s'
unfolding AreDue
landed_due s s' serial g p f n k h = due-grown s s' g k (f n k (flew serial n (Finish k) s.flights (subst (λ fs. lookup eq fs n ≡ Some (Finish k)) p h)))

claimed_due : (s : State) (worker : ℕ) (t : Task) → May (Claim worker t) s → AreDue s → AreDue (effect (Claim worker t) s)
unfolding AreDue
claimed_due s worker t m f n k h = go (bool-case (eq (suc (length s.drawn)) n))
  where
    go : (eq (suc (length s.drawn)) n ≡ true) ⊎ (eq (suc (length s.drawn)) n ≡ false) → IsDue (stage_of s k)
    go (inl e) = task_due s k (subst (TaskOf s) (some-equal (subst (λ b. (if b then Some t else lookup eq s.flights n) ≡ Some (Finish k)) e h)) m.due)
    go (inr e) = f n k (subst (λ b. (if b then Some t else lookup eq s.flights n) ≡ Some (Finish k)) e h)

lawful_due : (root : Term) (es : List Event) → Lawful root es → AreDue (after_all root es)
unfolding AreDue
lawful_due root [] h = λ n k f. none-some refl f
lawful_due root (Claim w t ∷ es) h = claimed_due (after_all root es) w t h.1 (lawful_due root es h.0)
lawful_due root (Release n ∷ es) h =
    let s = after_all root es in
    landed_due s (effect (Release n) s) n (step-grows (Release n) s (lawful-keeps root es h.0) h.1) refl (lawful_due root es h.0)
lawful_due root (Fetched n l t ∷ es) h =
    let s = after_all root es in
    landed_due s (effect (Fetched n l t) s) n (step-grows (Fetched n l t) s (lawful-keeps root es h.0) h.1) refl (lawful_due root es h.0)
lawful_due root (Looked n d look ∷ es) h =
    let s = after_all root es in
    landed_due s (effect (Looked n d look) s) n (step-grows (Looked n d look) s (lawful-keeps root es h.0) h.1) refl (lawful_due root es h.0)
lawful_due root (Finished n k i w o ∷ es) h =
    let s = after_all root es in
    landed_due s (effect (Finished n k i w o) s) n (step-grows (Finished n k i w o) s (lawful-keeps root es h.0) h.1) refl (lawful_due root es h.0)
lawful_due root (Late n news ∷ es) h = lawful_due root es h.0
lawful_due root (Cycled j ∷ es) h = λ n k f. nothing_flies (after_all root es).flights n (Finish k) h.1.0 f

pub in_flight_due : InFlightDue
unfolding AreDue
in_flight_due root es n k h f = lawful_due root es h n k f
