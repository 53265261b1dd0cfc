-- Marks of keys, by their numbers.
use Rattle.std.specs.Prelude.{◌≡◌, ℕ, Bool, true, false, if◌then◌else◌, sum_by, List, slice_index_or, Some}
use Rattle.dh_syntax.specs.declared.locations.Key.{Key}
use Rattle.dh_demand.specs.Results.{number_of}
use Rattle.dh_record.specs.declared.rows.recorded.Entrant.{Entrant}
use Rattle.dh_record.specs.Rows.{rows_of}

-- whether the key of this number is marked
abbrev pub is_set : List Bool → ℕ → Bool
is_set marks n = slice_index_or marks n false

-- the key has a mark
pub record IsMarked (keys : List Entrant) (marks : List Bool) (k : Key) : Type 0 where
  pub number : ℕ
  pub number_is : number_of (rows_of keys) k ≡ Some number
  pub set : is_set marks number ≡ true

-- one where the mark is not set, and zero where it is
abbrev pub one_unless : Bool → ℕ
one_unless b = if b then 0 else 1

-- how many were not seen
abbrev pub unseen : List Bool → ℕ
unseen bs = sum_by one_unless bs
