-- Places as words of a command line.
use Rattle.std.specs.Prelude.{ℕ, zero, suc, ◌+◌, ◌^◌, Bool, ◌&&◌, not, ◌==◌, nat_lt, if◌then◌else◌, List, [], ◌∷◌, Option, Some, None, option_map, option_and_then, Result, Ok, Err, codes, false}
use Rattle.std.specs.Char.{is_ascii_digit}
use Rattle.std.specs.List.{list_all, slice_split}
use Rattle.std.specs.Str.{byte}
use Rattle.std.specs.Str.Parse.{digits_value}
use Rattle.dh_syntax.specs.Expressions.Numbers.{bytes_eq}

-- the most places of one command line
abbrev pub most_places : ℕ
most_places = 256

-- what each of these words names, if each of them names something
abbrev pub each : {X : Type 0} → (List ℕ → Option X) → List (List ℕ) → Option (List X)
each read [] = Some []
each read (w ∷ ws) = option_and_then (λ x. option_map (λ xs. x ∷ xs) (each read ws)) (read w)

-- a number in decimal, without leading zeros
abbrev pub is_numeral : List ℕ → Bool
is_numeral [] = false
is_numeral (b ∷ []) = list_all is_ascii_digit (b ∷ [])
is_numeral (b ∷ c ∷ bs) = not (b == byte "0") && list_all is_ascii_digit (b ∷ c ∷ bs)

-- the number of a part, below 2^32
abbrev pub part_of : List ℕ → Option ℕ
part_of w = if is_numeral w && nat_lt (digits_value 10 w) (2 ^ 32) then Some (digits_value 10 w) else None

-- a place: `root`, or the numbers of the parts on the way from the root, joined by `/`
abbrev pub place_of : List ℕ → Option (List ℕ)
place_of w = if bytes_eq w (codes "root") then Some [] else each part_of (slice_split (λ b. b == byte "/") w)

-- this place and those of the words behind it
abbrev pub with_place : ℕ → Option (List ℕ) → Result (List (List ℕ)) ℕ → Result (List (List ℕ)) ℕ
with_place at None others = Err at
with_place at (Some place) (Ok places) = Ok (place ∷ places)
with_place at (Some place) (Err k) = Err k

-- The places that these words name, where so many may stand and the first is the word of this number of its line; or the
-- number of the first of them that is no place or one too many.
abbrev pub operand_places : ℕ → ℕ → List (List ℕ) → Result (List (List ℕ)) ℕ
operand_places left at [] = Ok []
operand_places zero at (w ∷ ws) = Err at
operand_places (suc left) at (w ∷ ws) = with_place at (place_of w) (operand_places left (at + 1) ws)
