-- Tests of the topmost frame.
use Rattle.std.specs.Prelude.{ℕ, ◌<◌, Bool, false, nat_le, ◌∷◌}
use Rattle.dh_grammar.specs.Machine.{Stack, «open», level}
use Rattle.dh_grammar.specs.Making.{Sorts}

-- no open frame is on top that binds at least as tightly as the level
abbrev pub IsLow : {K : Sorts} → ℕ → Stack K → Type 0
IsLow k («open» f ∷ st) = level f < k
IsLow k _ = Unit {0}

-- whether an open frame is on top that binds at least as tightly as this level
abbrev pub joins : {K : Sorts} → ℕ → Stack K → Bool
joins k («open» f ∷ st) = nat_le k (level f)
joins k _ = false
