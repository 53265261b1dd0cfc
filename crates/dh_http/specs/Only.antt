-- What is kept of the values of the fields of one name.
use Rattle.std.specs.Prelude.{◌≡◌, ℕ, ◌≤◌, true, false, List, [], ◌∷◌, length, Option, Some, None}
use Rattle.std.specs.Str.Parse.{digits_value}
use Rattle.dh_http.specs.Fields.{is_length}
use Rattle.dh_http.specs.declared.fields.Only.{Only}
use Rattle.dh_http.specs.declared.fields.Only.TheVariants.{Nothing, One, Several}

-- these are the values, or there are more than one
abbrev pub Shows : Only → List (List ℕ) → Type 0
Shows Nothing vs = vs ≡ []
Shows (One v) vs = vs ≡ v.now ∷ []
Shows Several vs = 2 ≤ length vs

-- the number that from 1 to 18 digits write
abbrev pub NumberOf : List ℕ → Option ℕ → Type 0
NumberOf value (Some n) = (is_length value ≡ true) × (n ≡ digits_value 10 value)
NumberOf value None = is_length value ≡ false
