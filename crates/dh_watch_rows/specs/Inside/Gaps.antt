-- Numbers of things, where the thing of one number is taken away.
use Rattle.std.specs.Prelude.{ℕ, ◌-◌, ◌==◌, Bool, not, nat_lt, if◌then◌else◌, List, filter, map}

-- a number, lowered by one where it is above this one
abbrev pub lower : ℕ → ℕ → ℕ
lower i n = if nat_lt i n then n - 1 else n

-- whether a number is not this one
abbrev pub other : ℕ → ℕ → Bool
other i n = not (n == i)

-- the numbers of the others
abbrev pub closed : ℕ → List ℕ → List ℕ
closed i ns = map (lower i) (filter (other i) ns)
