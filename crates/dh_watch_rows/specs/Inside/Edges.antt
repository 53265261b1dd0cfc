-- The first of edges.
use Rattle.std.specs.Prelude.{◌≡◌, ℕ, List, [], ◌∷◌}
use Rattle.dh_demand.specs.declared.scans.Edge.{Edge}

-- its key has this number
abbrev pub IsFirstKey : List Edge → ℕ → Type 0
IsFirstKey [] n = ⊥
IsFirstKey (e ∷ es) n = n ≡ e.key
