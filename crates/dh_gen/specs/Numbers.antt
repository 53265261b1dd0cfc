-- Numbers of generated texts, as words.
use Rattle.std.specs.Prelude.{ℕ, Bool, false, ◌&&◌, not, ◌==◌, nat_le, if◌then◌else◌, List, [], ◌∷◌, Option, Some, None}
use Rattle.std.specs.Char.{is_ascii_digit}
use Rattle.std.specs.List.{list_all}
use Rattle.std.specs.Str.{byte}
use Rattle.std.specs.Str.Parse.{digits_value}

-- the number of the last text
abbrev pub most_number : ℕ
most_number = 4000

-- a number in decimal, without leading zeros
abbrev pub is_numeral : List ℕ → Bool
is_numeral [] = false
is_numeral (b ∷ []) = list_all is_ascii_digit (b ∷ [])
is_numeral (b ∷ c ∷ bs) = not (b == byte "0") && list_all is_ascii_digit (b ∷ c ∷ bs)

-- the number of a text that a word writes
abbrev pub number_of : List ℕ → Option ℕ
number_of w = if is_numeral w && nat_le (digits_value 10 w) most_number then Some (digits_value 10 w) else None
