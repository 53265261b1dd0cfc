-- Lines without what they are indented by.
use Rattle.std.specs.Prelude.{ℕ, Bool, ◌||◌, ◌==◌, List, ◌∷◌, take, Option, Some, None}
use Rattle.std.specs.List.{list_all}
use Rattle.std.specs.Str.{byte}
use Rattle.dh_syntax.specs.Text.Characters.{tab}
use Rattle.dh_syntax.specs.Text.Literals.{common}

-- the longest common prefix of several texts and of this one, if there is one
abbrev pub common_with : Option (List ℕ) → List (List ℕ) → List ℕ
common_with None xs = common xs
common_with (Some x) xs = common (x ∷ xs)

-- a space or a tab
abbrev pub is_blank : ℕ → Bool
is_blank b = b == byte " " || b == tab

-- so many bytes at the front of a line, or all of it where it is shorter, are spaces and tabs
abbrev pub is_blank_before : ℕ → List ℕ → Bool
is_blank_before n line = list_all is_blank (take n line)
