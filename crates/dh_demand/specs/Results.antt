-- The keys of a run by their numbers, each with its outcome once it has one.
use Rattle.std.specs.Prelude.{ℕ, suc, if◌then◌else◌, List, [], ◌∷◌, Option, Some, None, slice_get}
use Rattle.std.specs.Option.{option_map}
use Rattle.dh_syntax.specs.declared.locations.Key.{Key}
use Rattle.dh_imports.specs.declared.outcomes.Outcome as program
use Rattle.dh_syntax.specs.Imports.Keys.{key_eq}
use Rattle.dh_imports.specs.Outcomes.{plain}
use Rattle.dh_imports.specs.Walk.{Ask}

-- a key, and its outcome if it is decided
abbrev pub Row : Type 0
Row = Key × Option program.Outcome

-- the key of this number
abbrev pub key_at : List Row → ℕ → Option Key
key_at rows n = option_map (λ (r : Row). r.0) (slice_get rows n)

-- what is known of the key of this number
abbrev pub outcome_at : List Row → ℕ → Option (Option program.Outcome)
outcome_at rows n = option_map (λ (r : Row). r.1) (slice_get rows n)

-- the number of a key: that of its first row
abbrev pub number_of : List Row → Key → Option ℕ
number_of [] k = None
number_of (r ∷ rs) k = if key_eq r.0 k then Some 0 else option_map suc (number_of rs k)

-- the outcome of a key: that of its first row
abbrev pub ask_of : List Row → Ask
ask_of [] k = None
ask_of (r ∷ rs) k = if key_eq r.0 k then option_map plain r.1 else ask_of rs k
