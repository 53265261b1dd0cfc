-- The bytes of a word as they are walked: what stands behind the first slash, and the length of one component.
use Rattle.std.specs.Prelude.{ℕ, suc, Bool, ◌||◌, ◌==◌, if◌then◌else◌, List, ◌∷◌, drop, length, Option, option_map}
use Rattle.dh_syntax.specs.Text.Characters.{begins}
use Rattle.dh_syntax.specs.Text.LexLocations.{Component, components, path_component}

-- what stands behind the first slash of the location that a word stands for
abbrev pub behind_slash : List ℕ → List ℕ
behind_slash w = if begins "../" w then drop 3 w else if begins "./" w || begins "~/" w then drop 2 w else if begins "/" w then drop 1 w else w

-- how many bytes a component takes
abbrev pub len_of : Option Component → Option ℕ
len_of c = option_map (λ c. c.len) c

-- these bytes, behind a slash, are components with a slash between any two
abbrev pub are_components : List ℕ → Bool
are_components bs = (components path_component 0 (47 ∷ bs)).total == suc (length bs)
