-- The search for an open task: what is known of marks, as keys are seen.
use Rattle.std.specs.Prelude.{◌≡◌, ◌<◌, ℕ, Bool, true, List, length, None, refl, IsSome, is_some, []}
use Rattle.std.proofs.Common.{ap, sym, ◌∙◌, subst}
use Rattle.dh_syntax.specs.declared.locations.Key.{Key}
use Rattle.dh_syntax.specs.Expressions.Numbers.{eq}
use Rattle.dh_imports.specs.Machine as machine
use Rattle.dh_imports.specs.Machine.{Task, State, InFlight, TaskOf, looks, fetches, finishes, IsDue, Wanted, leads_to, outcome_of, stage_of, leads_by}
use Rattle.dh_imports.specs.Records.{lookup}
use Rattle.dh_imports.specs.Resolver.{plan, of_plan, stage, Stage, TextOf, LookOf, Lacks, Has, Meets, Waits}
use Rattle.dh_imports.specs.Walk.{wants}
use Rattle.dh_syntax.specs.Expressions.Tree.{Term}
use Rattle.dh_demand.specs.Results.{Row, ask_of}
use Rattle.dh_table.specs.declared.steps.Flight.{Flight}
use Rattle.dh_record.specs.declared.kinds.Kind.{Kind}
use Rattle.dh_record.specs.declared.kinds.Kind.TheVariants as kinds
use Rattle.dh_record.specs.declared.rows.recorded.Entrant.{Entrant}
use Rattle.dh_record.specs.declared.rows.recorded.Look.{Look}
use Rattle.dh_record.specs.declared.rows.recorded.Text.{Text}
use Rattle.dh_record.specs.declared.stage.reaches.Reach.TheVariants as reaches
use Rattle.dh_record.specs.Reading.{record_by, IsReach}
use Rattle.dh_table.specs.Inside.Searching.{Stands, Flies, IsTaskAt, IsJob}
use Rattle.dh_record.specs.Marks.{is_set, IsMarked}
use Rattle.dh_record.specs.Rows.{rows_of, key_named, digest_or_none, task_by}
use Rattle.dh_record.proofs.Reading.{plan_limits}

-- ---- a state by the parts of a table

module _ (keys : List Entrant) (texts : List Text) (looks' : List Look) (flights : List Flight) (s : State) (p : Stands keys texts looks' flights s) where
  plan_stands : (k : Key) → plan s.recorded k ≡ plan (record_by texts looks') k
  plan_stands k = plan_limits s.recorded k ∙ λ i. plan (record { texts = p.texts_are i; looks = p.looks_are i; limits = [] }) k

  pub stage_stands : (k : Key) → stage_of s k ≡ stage (record_by texts looks') (ask_of (rows_of keys)) k
  stage_stands k = λ i. of_plan (p.asks i) k (plan_stands k i)

  pub leads_stand : (k : Key) → leads_to s k ≡ leads_by (ask_of (rows_of keys)) k (plan (record_by texts looks') k)
  leads_stand k = λ i. leads_by (p.asks i) k (plan_stands k i)

  pub flies_stands : (t : Task) → Flies keys flights t → (n : ℕ) × InFlight s n t
  flies_stands t (n, f) = (n, ap (λ fs. lookup eq fs n) p.flights_are ∙ f)

  pub flies_back : (n : ℕ) (t : Task) → InFlight s n t → Flies keys flights t
  flies_back n t f = (n, ap (λ fs. lookup eq fs n) (sym p.flights_are) ∙ f)

-- ---- the task of a key

-- an open task has a wanted key at whose stage it is due
pub record TaskAt (s : State) (t : Task) : Type 0 where
  pub key : Key
  pub wanted : Wanted s key
  pub due : IsTaskAt key (stage_of s key) t

due_at : (k : Key) (x : Stage) → IsDue x → IsTaskAt k x (machine.Finish k)
due_at k (Lacks p) d = absurd d
due_at k (Has i) d = refl
due_at k (Meets j) d = refl
due_at k (Waits y) d = absurd d

pub task_at : (s : State) (t : Task) → TaskOf s t → TaskAt s t
task_at s (machine.Look d) (looks {k = k} w e) = record { key = k; wanted = w; due = subst (λ x. IsTaskAt k x (machine.Look d)) (sym e) refl }
task_at s (machine.Fetch l) (fetches {k = k} w e) = record { key = k; wanted = w; due = subst (λ x. IsTaskAt k x (machine.Fetch l)) (sym e) refl }
task_at s (machine.Finish k) (finishes w d) = record { key = k; wanted = w; due = due_at k (stage_of s k) d }

at_task : (s : State) (k : Key) (t : Task) (x : Stage) → Wanted s k → stage_of s k ≡ x → IsTaskAt k x t → TaskOf s t
at_task s k t (Lacks (TextOf l)) w e d = subst (TaskOf s) (sym d) (fetches w e)
at_task s k t (Lacks (LookOf h)) w e d = subst (TaskOf s) (sym d) (looks w e)
at_task s k t (Has i) w e d = subst (TaskOf s) (sym d) (finishes w (subst IsDue (sym e) tt))
at_task s k t (Meets j) w e d = subst (TaskOf s) (sym d) (finishes w (subst IsDue (sym e) tt))
at_task s k t (Waits y) w e d = absurd d

pub task_of_wanted : (s : State) (k : Key) (t : Task) → Wanted s k → IsTaskAt k (stage_of s k) t → TaskOf s t
task_of_wanted s k t w d = at_task s k t (stage_of s k) w refl d

-- a task of a key is due at its stage, and no other
pub due_task : (rows : List Row) (k : Key) (x : Stage) (kind : Kind) → IsReach rows k x (reaches.Due kind) → IsTaskAt k x (task_by kind k)
due_task rows k (Lacks (TextOf l)) kinds.Fetch r = ap (λ y. machine.Fetch y) (sym r)
due_task rows k (Lacks (LookOf d)) kinds.Look r = ap (λ y. machine.Look (digest_or_none y)) r
due_task rows k (Has i) kinds.Finish r = refl
due_task rows k (Meets j) kinds.Finish r = refl
due_task rows k (Lacks (TextOf l)) kinds.Look r = absurd r
due_task rows k (Lacks (TextOf l)) kinds.Finish r = absurd r
due_task rows k (Lacks (LookOf d)) kinds.Fetch r = absurd r
due_task rows k (Lacks (LookOf d)) kinds.Finish r = absurd r
due_task rows k (Has i) kinds.Fetch r = absurd r
due_task rows k (Has i) kinds.Look r = absurd r
due_task rows k (Meets j) kinds.Fetch r = absurd r
due_task rows k (Meets j) kinds.Look r = absurd r
due_task rows k (Waits y) kinds.Fetch r = absurd r
due_task rows k (Waits y) kinds.Look r = absurd r
due_task rows k (Waits y) kinds.Finish r = absurd r

-- a look is due for a key with a digest
pub frozen_reach : (rows : List Row) (k : Key) (x : Stage) (kind : Kind) → IsReach rows k x (reaches.Due kind) → kind ≡ kinds.Look → IsSome k.digest
frozen_reach rows k (Lacks (TextOf l)) kinds.Fetch r p = cc
frozen_reach rows k (Lacks (LookOf d)) kinds.Look r p = ap is_some r
frozen_reach rows k (Has i) kinds.Finish r p = cc
frozen_reach rows k (Meets j) kinds.Finish r p = cc
frozen_reach rows k (Lacks (TextOf l)) kinds.Look r p = absurd r
frozen_reach rows k (Lacks (TextOf l)) kinds.Finish r p = absurd r
frozen_reach rows k (Lacks (LookOf d)) kinds.Fetch r p = absurd r
frozen_reach rows k (Lacks (LookOf d)) kinds.Finish r p = absurd r
frozen_reach rows k (Has i) kinds.Fetch r p = absurd r
frozen_reach rows k (Has i) kinds.Look r p = absurd r
frozen_reach rows k (Meets j) kinds.Fetch r p = absurd r
frozen_reach rows k (Meets j) kinds.Look r p = absurd r
frozen_reach rows k (Waits y) kinds.Fetch r p = absurd r
frozen_reach rows k (Waits y) kinds.Look r p = absurd r
frozen_reach rows k (Waits y) kinds.Finish r p = absurd r

one_task : (k : Key) (x : Stage) (t u : Task) → IsTaskAt k x t → IsTaskAt k x u → t ≡ u
one_task k (Lacks (TextOf l)) t u p q = p ∙ sym q
one_task k (Lacks (LookOf d)) t u p q = p ∙ sym q
one_task k (Has i) t u p q = p ∙ sym q
one_task k (Meets j) t u p q = p ∙ sym q
one_task k (Waits y) t u p q = absurd p

no_task : (rows : List Row) (k : Key) (x : Stage) (n : ℕ) (t : Task) → IsReach rows k x (reaches.Wait n) → IsTaskAt k x t → ⊥
no_task rows k (Lacks (TextOf l)) n t r d = r
no_task rows k (Lacks (LookOf h)) n t r d = r
no_task rows k (Has i) n t r d = r
no_task rows k (Meets j) n t r d = r
no_task rows k (Waits y) n t r d = d

-- ---- the task of a key that is seen

module _ (keys : List Entrant) (texts : List Text) (looks' : List Look) (flights : List Flight) (s : State) (p : Stands keys texts looks' flights s) (n : ℕ) (inside : n < length keys) where
  abbrev the_stage : Stage
  the_stage = stage (record_by texts looks') (ask_of (rows_of keys)) (key_named keys n)

  pub waiting_tasks : (m : ℕ) → IsReach (rows_of keys) (key_named keys n) the_stage (reaches.Wait m) → (t : Task) → IsTaskAt (key_named keys n) (stage_of s (key_named keys n)) t → Flies keys flights t
  waiting_tasks m r t d = absurd (no_task (rows_of keys) (key_named keys n) the_stage m t r (subst (λ x. IsTaskAt (key_named keys n) x t) (stage_stands keys texts looks' flights s p (key_named keys n)) d))

  pub flying_tasks : (kind : Kind) → IsReach (rows_of keys) (key_named keys n) the_stage (reaches.Due kind) → Flies keys flights (task_by kind (key_named keys n))
      → (t : Task) → IsTaskAt (key_named keys n) (stage_of s (key_named keys n)) t → Flies keys flights t
  flying_tasks kind r f t d =
      subst (Flies keys flights)
      (one_task (key_named keys n) the_stage (task_by kind (key_named keys n)) t (due_task (rows_of keys) (key_named keys n) the_stage kind r)
      (subst (λ x. IsTaskAt (key_named keys n) x t) (stage_stands keys texts looks' flights s p (key_named keys n)) d))
      f

  pub open_job : (kind : Kind) → Wanted s (key_named keys n) → IsReach (rows_of keys) (key_named keys n) the_stage (reaches.Due kind) → ¬ Flies keys flights (task_by kind (key_named keys n)) → IsJob s keys (record { kind = kind; key = n })
  open_job kind w r f = record {
    open_task = record {
      due =
          task_of_wanted s (key_named keys n) (task_by kind (key_named keys n)) w
          (subst (λ x. IsTaskAt (key_named keys n) x (task_by kind (key_named keys n))) (sym (stage_stands keys texts looks' flights s p (key_named keys n))) (due_task (rows_of keys) (key_named keys n) the_stage kind r));
      free = λ m h. f (flies_back keys texts looks' flights s p m (task_by kind (key_named keys n)) h);
    };
    inside = inside;
    frozen = frozen_reach (rows_of keys) (key_named keys n) the_stage kind r;
  }

-- ---- the wants of the root

module _ (keys : List Entrant) (texts : List Text) (looks' : List Look) (flights : List Flight) (s : State) (p : Stands keys texts looks' flights s) (root : Term) (root_is : s.root ≡ root) where
  pub root_wants : wants None (outcome_of s) s.root ≡ wants None (ask_of (rows_of keys)) root
  root_wants = λ i. wants None (p.asks i) (root_is i)
