-- One pass over outcomes, the oldest first: those whose last step is due stay, and each other key loses its outcome.
use Rattle.std.specs.Prelude.{◌≡◌, ◌⊎◌, ℕ, Bool, is_some, List, [], map, reverse, All, Some, None, slice_index_or}
use Rattle.dh_syntax.specs.declared.locations.Key.{Key}
use Rattle.dh_imports.specs.Outcomes.{Outcome}
use Rattle.dh_imports.specs.Records.{Record}
use Rattle.dh_demand.specs.Results.{ask_of}
use Rattle.dh_record.specs.declared.rows.recorded.Entrant.{Entrant}
use Rattle.dh_record.specs.declared.rows.recorded.Text.{Text}
use Rattle.dh_record.specs.Due.{IsValued}
use Rattle.dh_record.specs.Entering.{IsListed, keys_in}
use Rattle.dh_record.specs.Reading.{IsRead}
use Rattle.dh_record.specs.Rows.{nobody, outcome_of_number, rows_of}
use Rattle.dh_watch_laws.specs.Kept.{Outcomes, Found, known}
use Rattle.dh_watch_laws.specs.Sweeping.{left_in_place, put_before}
use Rattle.dh_watch_rows.specs.KeptRows.{AreNamed}

-- the key of this number has an outcome
abbrev pub has_outcome : List Entrant → ℕ → Bool
has_outcome keys n = is_some (slice_index_or keys n nobody).outcome

-- Of the keys that were found, by their numbers, some were looked at and stay, and the rest are still to be looked at: the keys as they
-- then are, and what is known of them.
pub record Sifting (r : Record) (texts : List Text) (old : List Entrant) (all : List ℕ) (keys : List Entrant) (kept rest : List ℕ) : Type 0 where
  pub same_keys : keys_in keys ≡ keys_in old
  pub listed : All (IsListed (rows_of keys)) keys
  pub read : All (IsRead (rows_of keys)) texts
  pub valued : All IsValued keys
  -- each has the outcome that it had, or none
  pub outcomes : (n : ℕ) → ((slice_index_or keys n nobody).outcome ≡ None) ⊎ ((slice_index_or keys n nobody).outcome ≡ (slice_index_or old n nobody).outcome)
  pub kept_named : AreNamed old kept
  pub rest_named : AreNamed old rest
  pub kept_same : map (outcome_of_number keys) kept ≡ map (outcome_of_number old) kept
  -- they were found one by the others, those that were looked at first
  pub by : Record
  pub older : Outcomes
  pub found : Found by (put_before (map (outcome_of_number old) rest) older)
  pub knows : (k : Key) (o : Outcome) → known (reverse (map (outcome_of_number old) kept)) k ≡ Some o → known older k ≡ Some o
  pub asks : known (put_before (map (outcome_of_number old) rest) (reverse (map (outcome_of_number old) kept))) ≡ ask_of (rows_of keys)
  pub goes : left_in_place r (reverse (map (outcome_of_number old) kept)) (map (outcome_of_number old) rest) ≡ left_in_place r [] (map (outcome_of_number old) all)
