-- What is done to an input and to two outputs.
use Rattle.std.specs.Prelude.{◌≡◌, ℕ, suc, ◌<◌, ◌⊎◌, List, length, take, Option, IfSome}
use Rattle.std.specs.Io.{StartsWith}
use Rattle.std.specs.Io.KnownBytes.{Appends, Consumes, Keeps}
use Rattle.dh_ports.specs.Counts.{Rose}
use Rattle.dh_syntax.specs.Limits.{most_bytes}

-- the input before and after: what is left, where that is known, and how many reads have failed
pub record Input : Type 0 where
  pub before : Option (List ℕ)
  pub after : Option (List ℕ)
  pub faults_before : ℕ
  pub faults_after : ℕ

-- an output before and after: what was written, where that is known, and how many writes have failed
pub record Output : Type 0 where
  pub before : Option (List ℕ)
  pub after : Option (List ℕ)
  pub faults_before : ℕ
  pub faults_after : ℕ

-- an output with this written before and after, where known, and these counts of failed writes
abbrev pub output : Option (List ℕ) → Option (List ℕ) → ℕ → ℕ → Output
output before after faults_before faults_after = record { before = before; after = after; faults_before = faults_before; faults_after = faults_after }

-- an input with this left before and after, where known, and these counts of failed reads
abbrev pub reading : Option (List ℕ) → Option (List ℕ) → ℕ → ℕ → Input
reading before after faults_before faults_after = record { before = before; after = after; faults_before = faults_before; faults_after = faults_after }

-- at most so many bytes are read, one more than a text may have
abbrev pub most_read : ℕ
most_read = suc most_bytes

-- no read of the input failed and was counted
abbrev pub IsQuiet : Input → Type 0
IsQuiet input = input.faults_after ≡ input.faults_before

-- The input is what was left; it is read to its end or up to the most that is read, and no read fails.
abbrev pub IsTaken : List ℕ → Input → Type 0
IsTaken text input =
    IfSome input.before (λ left. text ≡ left) × Consumes input.before input.after (take most_read text) × IsQuiet input

-- The input is left alone.
abbrev pub IsLeft : Input → Type 0
IsLeft input = Keeps input.before input.after × IsQuiet input

-- an output grew by just these bytes, and no write to it failed
pub record Gains (o : Output) (bytes : List ℕ) : Type 0 where
  pub grown : Appends o.before o.after bytes
  pub quiet : o.faults_after ≡ o.faults_before

-- an output grew by some first part of these bytes, and then a write to it failed
pub record Stops (o : Output) (bytes : List ℕ) : Type 0 where
  pub part : List ℕ
  pub begins : StartsWith bytes part
  pub short : length part < length bytes
  pub gains : Appends o.before o.after part
  pub failed : Rose o.faults_before o.faults_after

-- these bytes were written until a write failed, if one did
abbrev pub Tries : Output → List ℕ → Type 0
Tries o bytes = Gains o bytes ⊎ Stops o bytes
