-- The place of a node in its text, as its reader counts: the line, and the column in characters.
use Rattle.std.specs.Prelude.{ℕ, zero, suc, Bool, not, ◌&&◌, nat_le, nat_lt, ◌==◌, List, [], ◌∷◌, length, take, filter, reverse}
use Rattle.std.specs.List.{take_while}
use Rattle.dh_syntax.specs.Text.Spans.{Spans, no_spans, span}

-- the stretches of the part with this number and of those behind it
abbrev pub from_part : ℕ → Spans → Spans
from_part k no_spans = no_spans
from_part zero (span from to parts rest) = span from to parts rest
from_part (suc k) (span from to parts rest) = from_part k rest

-- what follows from where the first of some nodes begins and its parts, if there is one
abbrev pub of_first : {A : Type 0} → Spans → A → (ℕ → Spans → A) → A
of_first no_spans none next = none
of_first (span from to parts rest) none next = next from parts

-- Where the node begins to which a path leads from a node that begins here and has these parts. The way ends where a node has no
-- such part: at a variable or an import.
abbrev pub start_below : ℕ → Spans → List ℕ → ℕ
start_below here parts [] = here
start_below here parts (k ∷ path) = of_first (from_part k parts) here (λ from parts. start_below from parts path)

-- where the node begins to which a path leads from the root
abbrev pub start_of : Spans → List ℕ → ℕ
start_of nodes path = of_first nodes 0 (λ from parts. start_below from parts path)

-- whether a byte is a line feed
abbrev pub is_line_feed : ℕ → Bool
is_line_feed b = b == 10

-- no byte but the first one of a character is from 128 to 191
abbrev pub begins_character : ℕ → Bool
begins_character b = not (nat_le 128 b && nat_lt b 192)

-- one more than the line feeds before an offset
abbrev pub line_at : List ℕ → ℕ → ℕ
line_at text at = suc (length (filter is_line_feed (take at text)))

-- one more than the characters before an offset, back to the last line feed or to the start
abbrev pub column_at : List ℕ → ℕ → ℕ
column_at text at = suc (length (filter begins_character (take_while (λ b. not (is_line_feed b)) (reverse (take at text)))))
