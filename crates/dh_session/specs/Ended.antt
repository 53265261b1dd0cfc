-- What is known of a table and of the desks where every worker found the run over.
use Rattle.std.specs.Prelude.{◌≡◌, ◌⊎◌, ℕ, ◌+◌, ◌≤◌, List, [], ◌∷◌, Any, IsSome, sum_by, count_by}
use Rattle.dh_imports.specs.Replay.{root_end}
use Rattle.dh_table.specs.Calls.{failures}
use Rattle.dh_table.specs.Shown.{Shown}
use Rattle.dh_table.specs.States.{state_of}
use Rattle.dh_shared.specs.Counting.{is_claim, is_fetch_claim, is_recorded, is_release, is_late}
use Rattle.dh_session.specs.Works.{AtLast}

-- the desks were asked once for each fetch that was claimed, unless a count stands at its last value
abbrev pub AsksAll : {D : Type 0} → (D → ℕ) → List D → List D → Shown → Type 0
AsksAll asked before after table = Any (λ d. AtLast (asked d)) after ⊎ (sum_by asked after ≡ sum_by asked before + count_by is_fetch_claim table.history)

-- each text and each look that is recorded as failed is a fault of a desk, unless a count stands at its last value
abbrev pub FailsAll : {D : Type 0} → (D → ℕ) → List D → List D → Shown → Type 0
FailsAll faults before after table = Any (λ d. AtLast (faults d)) after ⊎ (failures (state_of table) + sum_by faults before ≤ sum_by faults after)

-- no count of these fell
pub data NoneFell : List ℕ → List ℕ → Type 0 where
  none_left : NoneFell [] []
  more_left : {m n : ℕ} {ms ns : List ℕ} → m ≤ n → NoneFell ms ns → NoneFell (m ∷ ms) (n ∷ ns)

-- how a run ends, with these counts of its desks before and after
pub record Ends {D : Type 0} (asked faults : D → ℕ) (before after : List D) (table : Shown) : Type 0 where
  pub decided : IsSome (root_end (state_of table))
  pub releases : count_by is_release table.history ≤ count_by is_late table.history
  -- news was delivered for each task that was claimed: it was recorded, or it came late
  pub delivered : count_by is_claim table.history ≡ count_by is_recorded table.history + count_by is_late table.history
  pub asks : AsksAll asked before after table
  pub fails : FailsAll faults before after table
