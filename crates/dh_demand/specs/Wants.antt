-- The wants of a walk, as marks of the numbers of keys.
use Rattle.std.specs.Prelude.{◌≡◌, ◌⊎◌, ◌<◌, ℕ, Bool, true, false, List, length, slice_index_or, Some, All}
use Rattle.dh_syntax.specs.declared.locations.Key.{Key}
use Rattle.dh_imports.specs.Machine.{IsAmong}
use Rattle.dh_demand.specs.declared.scans.Edge.{Edge}
use Rattle.dh_demand.specs.Results.{Row, number_of}

-- one of these keys has this number
abbrev pub HasNumber : List Row → List Key → ℕ → Type 0
HasNumber rows ks n = (k : Key) × IsAmong k ks × (number_of rows k ≡ Some n)

-- the marks of these keys are set, and every other mark is as it was
pub record AreMarked (rows : List Row) (ks : List Key) (old new : List Bool) : Type 0 where
  pub same_length : length new ≡ length old
  pub set : (n : ℕ) → n < length old → HasNumber rows ks n → slice_index_or new n false ≡ true
  pub kept : (n : ℕ) → slice_index_or old n false ≡ true → slice_index_or new n false ≡ true
  pub only : (n : ℕ) → slice_index_or new n false ≡ true → (slice_index_or old n false ≡ true) ⊎ HasNumber rows ks n

-- there is a mark for the key of each edge
abbrev pub HaveMarks : List Bool → List Edge → Type 0
HaveMarks marks es = All (λ (e : Edge). e.key < length marks) es
