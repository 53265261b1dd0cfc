-- How many bytes one call of a feed or a sink in memory moves.
use Rattle.std.specs.Prelude.{Bool, ℕ, min, if◌then◌else◌}

-- of n bytes: at most one where the device is narrow
abbrev pub moved : Bool → ℕ → ℕ
moved narrow n = if narrow then min n 1 else n
