-- What the functions on paths tell one another.
use Rattle.std.specs.Prelude.{Bool, true, false, [], ◌∷◌, codes}
use Rattle.dh_syntax.specs.Imports.Locations.{Comps, is_up}

-- whether the folder of a path begins with `..`
abbrev pub goes_up : Comps → Bool
goes_up [] = false
goes_up (file ∷ []) = false
goes_up (c ∷ d ∷ cs) = is_up c

-- the components of a route, which first goes up or not
abbrev pub route : Bool → Comps → Comps
route true cs = codes ".." ∷ cs
route false cs = cs
