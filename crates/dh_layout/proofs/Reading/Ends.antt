-- Which bytes may follow a printed token.
use Rattle.std.specs.Prelude.{ℕ, Bool, not, ◌&&◌, ◌||◌, List, nat_le, ◌==◌, slice_index}
use Rattle.std.specs.List.{list_all}
use Rattle.dh_syntax.specs.Text.Characters.{first, is_name_start, is_name_byte}

-- the end of the text, a space, `)`, `,` or `}`
abbrev pub is_ending : ℕ → Bool
is_ending b = b == 0 || b == 32 || b == 41 || b == 44 || b == 125

-- `.` and a label or a bracket, or `::`
abbrev pub is_selection : List ℕ → Bool
is_selection bs =
    (first bs == 46 && (is_name_start (slice_index bs 1) || slice_index bs 1 == 96 || slice_index bs 1 == 123 || slice_index bs 1 == 40))
    || (first bs == 58 && slice_index bs 1 == 58)

-- what may follow an expression of this level
abbrev pub is_seam : ℕ → List ℕ → Bool
is_seam m bs = is_ending (first bs) || (nat_le 16 m && is_selection bs)

-- what may follow a name: no byte of a name, and no `:` but that of `::`
abbrev pub is_name_end : List ℕ → Bool
is_name_end bs = not (is_name_byte (first bs)) && not (first bs == 58 && not (slice_index bs 1 == 58))

-- a whole name
abbrev pub is_word : List ℕ → Bool
is_word x = is_name_start (first x) && list_all is_name_byte x
