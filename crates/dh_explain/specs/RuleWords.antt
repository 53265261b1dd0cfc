-- The words of a command line that ask for rules of typing.
use Rattle.std.specs.Prelude.{ℕ, ◌+◌, ◌^◌, Bool, false, ◌&&◌, not, ◌==◌, nat_lt, if◌then◌else◌, List, [], ◌∷◌, Option, Some, None, option_and_then, Result, Ok, Err}
use Rattle.std.specs.Char.{is_ascii_digit}
use Rattle.std.specs.List.{list_all}
use Rattle.std.specs.Str.{byte}
use Rattle.std.specs.Str.Parse.{digits_value}
use Rattle.dh_explain.specs.RuleTexts.{explanation, rule_list}

-- a number in decimal that does not begin with 0
abbrev pub is_numeral : List ℕ → Bool
is_numeral [] = false
is_numeral (b ∷ bs) = not (b == byte "0") && list_all is_ascii_digit (b ∷ bs)

-- the number that a word names, below 2^32
abbrev pub number_of : List ℕ → Option ℕ
number_of w = if is_numeral w && nat_lt (digits_value 10 w) (2 ^ 32) then Some (digits_value 10 w) else None

-- what is told of the rule whose number a word names
abbrev pub rule_text : List ℕ → Option (List ℕ)
rule_text w = option_and_then explanation (number_of w)

-- the text that the word of this number asks for, if it asks for one, where no word is behind it
abbrev pub alone : ℕ → Option (List ℕ) → List (List ℕ) → Result (List ℕ) ℕ
alone at None ws = Err at
alone at (Some text) [] = Ok text
alone at (Some text) (w ∷ ws) = Err (at + 1)

-- What is told to these words, of which the first is the word of this number of its line: what is told of one rule, or the list of all
-- rules where there is no word. Or the number of the first of them that is no rule's number or one too many.
abbrev pub operand_text : ℕ → List (List ℕ) → Result (List ℕ) ℕ
operand_text at [] = Ok rule_list
operand_text at (w ∷ ws) = alone at (rule_text w) ws
