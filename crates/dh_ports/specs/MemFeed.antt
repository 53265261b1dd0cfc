-- What contracts see of a feed in memory, and what a read does to it.
use Rattle.std.specs.Prelude.{◌≡◌, Bool, ℕ, List, drop}
use Rattle.dh_ports.specs.Counts.{one_more}

-- the bytes that are left, whether a call gives at most one of them, the numbers from 1 of the calls that fail, and how
-- many calls were made and failed
pub record FeedState : Type 0 where
  pub left : List ℕ
  pub narrow : Bool
  pub fails : List ℕ
  pub calls : ℕ
  pub faults : ℕ

-- a call took the first n bytes of what was left
abbrev pub HasRead : FeedState → FeedState → ℕ → Type 0
HasRead old new n = new ≡ record old { left = drop n old.left; calls = one_more old.calls }

-- a call failed and changed the two counts alone
abbrev pub HasFailed : FeedState → FeedState → Type 0
HasFailed old new = new ≡ record old { calls = one_more old.calls; faults = one_more old.faults }
