-- The eight ledgers of a run.
use Rattle.std.specs.Prelude.{ℕ}

-- how many parts each has, and their names
pub record Ledgers : Type 0 where
  pub parts : ℕ
  pub claims : ℕ
  pub kept : ℕ
  pub releases : ℕ
  pub lates : ℕ
  pub fetches : ℕ
  pub failed : ℕ
  pub overs : ℕ
  pub returns : ℕ
