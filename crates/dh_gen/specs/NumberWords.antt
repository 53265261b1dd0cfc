-- The word of a command line that names a generated text.
use Rattle.std.specs.Prelude.{ℕ, ◌+◌, List, [], ◌∷◌, Option, Some, None, Result, Ok, Err}
use Rattle.dh_gen.specs.Numbers.{number_of}

-- the number that the word of this place names, if it names one, where no word is behind it
abbrev pub alone : ℕ → Option ℕ → List (List ℕ) → Result ℕ ℕ
alone at None ws = Err at
alone at (Some n) [] = Ok n
alone at (Some n) (w ∷ ws) = Err (at + 1)

-- The number that these words name, of which the first is the word of this number of its line. Or the number of the first of them that
-- names none or is one too many, and the first number where there is no word.
abbrev pub operand_number : ℕ → List (List ℕ) → Result ℕ ℕ
operand_number at [] = Err at
operand_number at (w ∷ ws) = alone at (number_of w) ws
