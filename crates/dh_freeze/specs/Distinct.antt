-- Numbers that stand in a list once.
use Rattle.std.specs.Prelude.{ℕ, zero, suc, ◌==◌, ◌≤◌, if◌then◌else◌, List, [], ◌∷◌}

-- how often a number stands there
abbrev pub times : ℕ → List ℕ → ℕ
times a [] = zero
times a (x ∷ xs) = if x == a then suc (times a xs) else times a xs

-- none stands there twice
abbrev pub AreDistinct : List ℕ → Type 0
AreDistinct xs = (a : ℕ) → times a xs ≤ 1
