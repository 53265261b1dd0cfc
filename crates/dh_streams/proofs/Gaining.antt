-- What a loop that writes bytes keeps.
use Rattle.std.proofs.Common.{◌≡◌, ℕ, ◌≤◌, List, length, take, Option}
use Rattle.std.specs.Io.KnownBytes.{Appends}

-- the first bytes were written, and no write failed
pub record HasGained (first now : Option (List ℕ)) (bytes : List ℕ) (at : ℕ) (faults_first faults_now : ℕ) : Type 0 where
  pub gained : Appends first now (take at bytes)
  pub bound : at ≤ length bytes
  pub quiet : faults_now ≡ faults_first
