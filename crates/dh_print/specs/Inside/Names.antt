-- Names, those that are reserved among them.
use Rattle.std.specs.Prelude.{ℕ, Bool, false, ◌&&◌, List, [], ◌∷◌}
use Rattle.std.specs.List.{list_all}
use Rattle.dh_syntax.specs.Text.Characters.{is_name_start, is_name_byte}

-- whether the bytes are those of a name
abbrev pub spells_name : List ℕ → Bool
spells_name [] = false
spells_name (b ∷ bs) = is_name_start b && list_all is_name_byte (b ∷ bs)
