-- The text of bytes.
use Rattle.std.specs.Prelude.{ℕ, ◌/◌, ◌%◌, false, List, [], ◌∷◌, flat_map}
use Rattle.std.specs.Fmt.{digit_glyph}

-- two lower-case hexadecimal digits for each byte
abbrev pub hexadecimal : List ℕ → List ℕ
hexadecimal bytes = flat_map (λ b. digit_glyph false (b / 16) ∷ digit_glyph false (b % 16) ∷ []) bytes
