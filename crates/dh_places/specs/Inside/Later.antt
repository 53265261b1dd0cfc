-- The numbers of the keys that follow the first one of an entry.
use Rattle.std.specs.Prelude.{ℕ, zero, suc, ◌+◌, ◌*◌, List, [], ◌∷◌, ◌++◌}

-- of the later key of this number, behind one of this number
abbrev pub position : ℕ → ℕ → ℕ
position n i = n * 2 + i + 2

-- the numbers of so many later keys of an entry, behind a first one of this number
abbrev pub later : ℕ → ℕ → List ℕ
later zero i = []
later (suc n) i = later n i ++ position n i ∷ []
