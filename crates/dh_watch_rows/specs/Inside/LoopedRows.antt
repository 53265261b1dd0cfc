-- Marks of keys in a pass that counts those that are visited, and rows of which some come to a loop.
use Rattle.std.specs.Prelude.{◌≡◌, ◌≤◌, ◌<◌, ◌↔◌, ℕ, Bool, true, false, if◌then◌else◌, List, [], ◌∷◌, length, drop, slice_index_or, Some}
use Rattle.dh_syntax.specs.declared.locations.Key.{Key}
use Rattle.dh_imports.specs.declared.outcomes.Outcome.{Outcome}
use Rattle.dh_imports.specs.Machine.{IsAmong}
use Rattle.dh_demand.specs.Results.{Row, number_of}
use Rattle.dh_record.specs.declared.rows.recorded.Entrant.{Entrant}
use Rattle.dh_record.specs.Marks.{IsMarked}

-- the keys of two lists of rows are the same, by the same numbers
pub record HaveSameKeys (rows rows' : List Row) : Type 0 where
  pub many : length rows' ≡ length rows
  pub numbers : (k : Key) → number_of rows' k ≡ number_of rows k

-- the rows, those with a mark with this outcome
abbrev pub looped_rows : List Row → List Bool → Outcome → List Row
looped_rows [] marks end = []
looped_rows (r ∷ rs) marks end = (r.0, if slice_index_or marks 0 false then Some end else r.1) ∷ looped_rows rs (drop 1 marks) end

-- the marked keys are these
pub record Mark (keys : List Entrant) (marks : List Bool) (ks : List Key) : Type 0 where
  pub fit : length keys ≤ length marks
  pub marked : (k : Key) → IsMarked keys marks k ↔ IsAmong k ks
  pub inside : (n : ℕ) → slice_index_or marks n false ≡ true → n < length keys
