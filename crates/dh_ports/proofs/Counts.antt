-- How the count of faults goes over several calls.
use Rattle.std.proofs.Common.{ℕ, ◌≤◌, arith}
use Rattle.dh_ports.specs.Counts.{Rose}

-- a rise is no fall
pub ≤-from_Rose : (a b : ℕ) → Rose a b → a ≤ b
≤-from_Rose a b rose = omega (arith, rose)

-- a rise and then no fall is a rise
pub Rose-≤ : (a b c : ℕ) → Rose a b → b ≤ c → Rose a c
Rose-≤ a b c rose later = grind arith

-- no fall and then a rise is a rise
pub ≤-Rose : (a b c : ℕ) → a ≤ b → Rose b c → Rose a c
≤-Rose a b c before rose = grind arith

pub ruleset rises = (≤-from_Rose, Rose-≤, ≤-Rose)
