-- A finish: its item is the key's own, and its outcome is that of the last step or a limit that is licensed.
use Rattle.std.specs.Prelude.{◌≡◌, ◌<◌, ◌≤◌, ◌+◌, ◌-◌, ◌++◌, min, ℕ, Bool, true, false, if◌then◌else◌, List, [], ◌∷◌, All, Some, None, refl}
use Rattle.std.proofs.Common.{ap, sym, ◌∙◌, subst, arith}
use Rattle.dh_syntax.specs.declared.locations.Key.{Key}
use Rattle.dh_imports.specs.declared.outcomes.Outcome as program
use Rattle.dh_imports.specs.declared.outcomes.Outcome.TheVariants as variants
use Rattle.dh_imports.specs.declared.outcomes.Why.{Why}
use Rattle.dh_syntax.specs.Expressions.Tree.{Term}
use Rattle.dh_imports.specs.LastStep as last
use Rattle.dh_imports.specs.LastStep.{own, last_step}
use Rattle.dh_imports.specs.Machine as machine
use Rattle.dh_imports.specs.Machine.{Task, State, News, InFlight, IsDone, outcome_of}
use Rattle.dh_imports.specs.Outcomes.{Outcome, Good, Bad, Loop, plain, of_blame}
use Rattle.dh_imports.specs.Records.{Record, limit_at, IsLimitOf}
use Rattle.dh_imports.specs.Replay.{Replays, Step}
use Rattle.dh_imports.specs.Resolver.{Stage, Lacks, Has, Meets, Waits, ended, unless_limit}
use Rattle.dh_demand.proofs.Visiting.{Blamed, fault, looped, blamed}
use Rattle.dh_import_laws.proofs.Facts.{in_flight_unrecorded}
use Rattle.dh_record.specs.declared.items.Item.{Item}
use Rattle.dh_table.specs.declared.steps.Job.{Job}
use Rattle.dh_record.specs.declared.kinds.Kind.{Kind}
use Rattle.dh_record.specs.declared.kinds.Kind.TheVariants as kinds
use Rattle.dh_record.specs.declared.rows.recorded.Entrant.{Entrant}
use Rattle.dh_record.specs.Items.{comes, stage_of_item, IsLast}
use Rattle.dh_record.specs.Rows.{key_named, task_by, why_of}
use Rattle.dh_table.specs.States.{task_of}
use Rattle.dh_record.specs.Brought.{limit_by}
use Rattle.dh_table.proofs.Stepping.{all-push}

-- ---- the key of a finish

abbrev key_of_task : Task → Key → Key
key_of_task (machine.Finish k) d = k
key_of_task (machine.Fetch l) d = d
key_of_task (machine.Look x) d = d

abbrev is_finish : Task → Bool
is_finish (machine.Finish k) = true
is_finish (machine.Fetch l) = false
is_finish (machine.Look x) = false

pub finish_names : (keys : List Entrant) (j : Job) (k : Key) → task_of keys j ≡ machine.Finish k → key_named keys j.key ≡ k
finish_names keys j k h = go j.kind h
  where
    go : (kind : Kind) → task_by kind (key_named keys j.key) ≡ machine.Finish k → key_named keys j.key ≡ k
    go kinds.Finish p = ap (λ t. key_of_task t k) p
    go kinds.Fetch p = let q : false ≡ true = ap is_finish p in cc
    go kinds.Look p = let q : false ≡ true = ap is_finish p in cc

-- a key whose finish is in flight has no outcome
pub undecided_flight : (root : Term) (drawn : List Task) (news : List News) (history : List Step) (s : State) (n : ℕ) (k : Key) → Replays root drawn news history s → InFlight s n (machine.Finish k) → outcome_of s k ≡ None
undecided_flight root drawn news history s n k r f =
    ap (λ (x : State). outcome_of x k) (sym r.state_is) ∙ in_flight_unrecorded root r.events n (machine.Finish k) r.lawful (subst (λ x. InFlight x n (machine.Finish k)) (sym r.state_is) f)

-- ---- what came of a key

-- where no limit is recorded, the end of a key is what its last step gives
ended_comes : (r : Record) (n : ℕ) (k : Key) (x : Stage) → limit_at r k ≡ None → ended r n k x ≡ comes n k x
ended_comes r n k (Has (last.Code e allow)) h = ap (λ w. unless_limit k w (last_step n k (last.Code e allow))) h
ended_comes r n k (Has (last.Text bytes allow)) h = refl
ended_comes r n k (Has (last.Location l)) h = refl
ended_comes r n k (Has (last.Compare v o)) h = refl
ended_comes r n k (Has (last.Entry e)) h = refl
ended_comes r n k (Has (last.Fault b)) h = refl
ended_comes r n k (Meets j) h = refl
ended_comes r n k (Lacks p) h = refl
ended_comes r n k (Waits y) h = refl

-- why an outcome is a fault of its own key
abbrev own_why : Outcome → Why → Why
own_why (Bad b) d = b.why
own_why (Good v o) d = d
own_why (Loop j) d = d

abbrev is_bad : Outcome → Bool
is_bad (Bad b) = true
is_bad (Good v o) = false
is_bad (Loop j) = false

limit_why : (o : program.Outcome) (k : Key) (w : Why) → plain o ≡ own k w → why_of (Some o) ≡ w
limit_why (variants.Good v x) k w h = let q : false ≡ true = ap is_bad h in cc
limit_why (variants.Bad b) k w h = go (of_blame b.at b.why) (blamed b.at b.why) h
  where
    go : (o : Outcome) → Blamed (record { at = b.at; why = b.why }) o → o ≡ own k w → b.why ≡ w
    go _ fault p = ap (λ o. own_why o w) p
    go _ (looped q) p = let r : false ≡ true = ap is_bad p in cc

pub is_done : (s : State) (i : Item) (o : program.Outcome) (limited : Bool) → limit_at s.recorded i.key ≡ None → IsLast i o limited → IsDone s i.key (stage_of_item i) (limit_by limited o) (plain o)
is_done s i o false h l = (l.0, ended_comes s.recorded l.0 i.key (stage_of_item i) h ∙ l.1)
is_done s i o true h (e, allow, w, is, licensed, p) =
    let q = limit_why o i.key w p in
    (e, allow, is, subst (λ x. IsLimitOf e x) (sym q) licensed, p ∙ ap (own i.key) (sym q))

-- ---- room

pub all_push_if : {A : Type 0} (P : A → Type 0) (xs ys : List A) (x : A) (b : Bool) → ys ≡ (if b then xs ++ x ∷ [] else xs) → All P xs → P x → All P ys
all_push_if P xs ys x true p h k = all-push P xs ys x p h k
all_push_if P xs ys x false p h k = subst (λ zs. All P zs) (sym p) h

min_falls : (a a' b b' : ℕ) → a ≤ a' + 1 → b ≤ b' + 1 → min a b ≤ min a' b' + 1
min_falls a a' b b' p q = omega arith

one_less : (c c' a a' : ℕ) → c ≤ c' → a' ≤ a + 1 → c - a ≤ (c' - a') + 1
one_less c c' a a' p q = omega arith

-- a step takes at most one room of each list
pub room_falls : (a a' cf cf' d cd h h' ch ch' r cr e e' ce ce' m m' cm cm' : ℕ) → a' < a → cf' ≡ cf → h' ≡ h + 1 → ch ≤ ch' → e' ≡ e + 1 → ce ≤ ce' → m' ≤ m + 1 → cm ≤ cm'
    → min (min (min (cf - a) (cd - d)) (min (ch - h) (cr - r))) (min (ce - e) (cm - m)) ≤ min (min (min (cf' - a') (cd - d)) (min (ch' - h') (cr - r))) (min (ce' - e') (cm' - m')) + 1
room_falls a a' cf cf' d cd h h' ch ch' r cr e e' ce ce' m m' cm cm' less c p q x y z w =
    min_falls (min (min (cf - a) (cd - d)) (min (ch - h) (cr - r))) (min (min (cf' - a') (cd - d)) (min (ch' - h') (cr - r))) (min (ce - e) (cm - m)) (min (ce' - e') (cm' - m'))
    (min_falls (min (cf - a) (cd - d)) (min (cf' - a') (cd - d)) (min (ch - h) (cr - r)) (min (ch' - h') (cr - r))
    (min_falls (cf - a) (cf' - a') (cd - d) (cd - d) (one_less cf cf' a a' (omega (arith, c)) (omega (arith, less))) (omega arith))
    (min_falls (ch - h) (ch' - h') (cr - r) (cr - r) (one_less ch ch' h h' q (omega (arith, p))) (omega arith)))
    (min_falls (ce - e) (ce' - e') (cm - m) (cm' - m') (one_less ce ce' e e' y (omega (arith, x))) (one_less cm cm' m m' w z))

-- so there is room for those in flight
pub room_left : (a a' old new : ℕ) → a' < a → a + 1 ≤ old → old ≤ new + 1 → a' ≤ new
room_left a a' old new less room falls = omega arith
