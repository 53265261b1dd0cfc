-- Lines and columns of nodes.
use Rattle.std.specs.Prelude.{◌≡◌, ◌++◌, ℕ, List, [], ◌∷◌, codes, refl}
use Rattle.dh_syntax.specs.Text.Places.{start_of, line_at, column_at}
use Rattle.dh_syntax.specs.Text.Spans.{Spans, spans}
use Rattle.dh_examples.specs.Text.SpansExamples.{at, ◌&◌}

-- `let a = ./n` and, on the next line, `in  a && True`
abbrev nodes : Spans
nodes = spans 0 25 (at 8 11 & spans 16 25 (at 16 17 & at 21 25))

-- the operator, its left part, its right part
starts : (start_of nodes [] ≡ 0) × (start_of nodes (1 ∷ []) ≡ 16) × (start_of nodes (1 ∷ 1 ∷ []) ≡ 21)
starts = (refl, refl, refl)

-- the way ends at the import and at the variable
ends_early : (start_of nodes (0 ∷ 2 ∷ 1 ∷ []) ≡ 8) × (start_of nodes (1 ∷ 0 ∷ 0 ∷ []) ≡ 16)
ends_early = (refl, refl)

-- a text of two lines with a `let`
abbrev text : List ℕ
text = codes "let a = ./n" ++ (10 ∷ codes "in  a && True")

second_line : (line_at text 16 ≡ 2) × (column_at text 16 ≡ 5) × (line_at text 0 ≡ 1) × (column_at text 0 ≡ 1)
second_line = (refl, refl, refl, refl)

-- the line feed itself ends the line before it
at_line_feed : (line_at text 11 ≡ 1) × (column_at text 11 ≡ 12) × (line_at text 12 ≡ 2) × (column_at text 12 ≡ 1)
at_line_feed = (refl, refl, refl, refl)

-- columns count characters: `λ` is two bytes and `→` three
characters : (column_at (0xCE ∷ 0xBB ∷ codes "(x)" ++ (0xE2 ∷ 0x86 ∷ 0x92 ∷ codes "1")) 8 ≡ 6)
characters = refl
