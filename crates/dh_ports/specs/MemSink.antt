-- What contracts see of a sink in memory, and what a write does to it.
use Rattle.std.specs.Prelude.{◌≡◌, Bool, ℕ, List, ◌++◌}
use Rattle.dh_ports.specs.Counts.{one_more}

-- the bytes written, whether a call takes at most one, the numbers from 1 of the calls that fail, and how many calls were
-- made and failed
pub record SinkState : Type 0 where
  pub written : List ℕ
  pub narrow : Bool
  pub fails : List ℕ
  pub calls : ℕ
  pub faults : ℕ

-- a call added these bytes to what was written
abbrev pub HasWritten : SinkState → SinkState → List ℕ → Type 0
HasWritten old new bytes = new ≡ record old { written = old.written ++ bytes; calls = one_more old.calls }

-- a call failed and changed the two counts alone
abbrev pub HasFailed : SinkState → SinkState → Type 0
HasFailed old new = new ≡ record old { calls = one_more old.calls; faults = one_more old.faults }
