-- What is known of a table once all of its seats are back.
use Rattle.std.specs.Prelude.{◌≡◌, ◌≤◌, ◌<◌, not, count_by, IsSome}
use Rattle.dh_imports.specs.Replay.{root_end}
use Rattle.dh_table.specs.Calls.{failures}
use Rattle.dh_table.specs.Shown.{Shown}
use Rattle.dh_table.specs.States.{state_of}
use Rattle.dh_shared.specs.Counting.{is_claim, is_fetch_claim, is_recorded, is_release, is_late, is_mark}
use Rattle.dh_shared.specs.Held.{Held, made}

-- the history has the steps that were counted, and beside them marks of loops alone
pub record Closes (table : Shown) (all : Held) : Type 0 where
  pub claims : count_by is_claim table.history ≡ all.claims
  pub kept : count_by is_recorded table.history ≡ all.kept
  pub releases : count_by is_release table.history ≡ all.releases
  pub lates : count_by is_late table.history ≡ all.lates
  pub fetches : count_by is_fetch_claim table.history ≡ all.fetches
  -- texts and looks that are recorded as failed
  pub failed : failures (state_of table) ≡ all.failed
  -- the run was found over, so it is
  pub overs : 0 < all.overs → IsSome (root_end (state_of table))
  -- each release gave a ticket back
  pub returns : all.releases ≤ all.returns
  pub steps : count_by (λ e. not (is_mark e)) table.history ≡ made all
