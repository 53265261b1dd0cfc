-- How far the walks of texts are known to come in a run.
use Rattle.std.specs.Prelude.{◌≡◌, ◌<◌, ◌⊎◌, ℕ, List, length, slice_index_or}
use Rattle.dh_syntax.specs.declared.locations.Key.{Key}
use Rattle.dh_demand.specs.declared.headways.Headway.{Headway}
use Rattle.dh_demand.specs.declared.headways.Headway.TheVariants as headway
use Rattle.dh_record.specs.Entering.{keys_in}
use Rattle.dh_record.specs.Ways.{IsWay}
use Rattle.dh_watch_laws.specs.Kept.{Kept, known}
use Rattle.dh_watch_rows.specs.declared.rows.Rows.{Rows}
use Rattle.dh_watch_rows.specs.KeptRows.{IsGood, kept_of}
use Rattle.dh_watch_runs.specs.Resolving.{named}

-- how far the walk of the text of the key of this number comes
abbrev pub way_at : List Headway → ℕ → Headway
way_at ways n = slice_index_or ways n headway.Unknown

-- nothing is known of it, or it is that of a key and comes so far by what is kept
abbrev pub IsWayOf : Kept → List Key → ℕ → Headway → Type 0
IsWayOf s keys n way = (way ≡ headway.Unknown) ⊎ ((n < length keys) × IsWay s.recorded (known s.outcomes) (named keys n) way)

-- for each number, nothing is known of the walk of its text, or the walk comes so far by what is kept
abbrev pub AreWays : Kept → List Key → List Headway → Type 0
AreWays s keys ways = (n : ℕ) → IsWayOf s keys n (way_at ways n)

-- the rows of what is kept are in order, and the walks of texts come so far by it
pub record IsInOrder (rows : Rows) (ways : List Headway) : Type 0 where
  pub good : IsGood rows
  pub come : AreWays (kept_of rows) (keys_in rows.keys) ways
