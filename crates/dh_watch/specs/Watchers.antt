-- What is always true of what is kept between two asks, and what an ask leaves.
use Rattle.std.specs.Prelude.{◌≡◌, ◌<◌, ◌≤◌, ◌+◌, ℕ, Bool, false, List, length, Option, Some, None}
use Rattle.dh_syntax.specs.declared.locations.Key.{Key}
use Rattle.dh_syntax.specs.declared.locations.Loc.{Loc}
use Rattle.dh_syntax.specs.Limits.{most_keys}
use Rattle.dh_imports.specs.Machine.{IsAmong}
use Rattle.dh_imports.specs.Records.{Noted, text_at}
use Rattle.dh_record.specs.declared.rows.recorded.Entrant.{Entrant}
use Rattle.dh_record.specs.Rows.{key_named}
use Rattle.dh_watch_laws.specs.Contents.{Now, IsOver}
use Rattle.dh_watch_laws.specs.Counting.{AreOnce}
use Rattle.dh_watch_laws.specs.Kept.{Kept, IsSound}
use Rattle.dh_watch_laws.specs.Sweeping.{AreOf}
use Rattle.dh_watch_laws.specs.VisitCounts.{Counts}
use Rattle.dh_watch_rows.specs.declared.rows.Rows.{Rows}
use Rattle.dh_watch_rows.specs.KeptRows.{IsGood, kept_of}
use Rattle.dh_watch_rows.specs.Leaving.{IsLeft}
use Rattle.dh_watch_runs.specs.declared.deciding.Stop.{Stop}
use Rattle.dh_watch_runs.specs.declared.deciding.Stop.TheVariants as stops
use Rattle.dh_watch_runs.specs.Resolving.{HasMany}

-- What is kept is sound, but for texts that were taken away where a sweep is to be made; and it is of the contents as they now are, where
-- these are told.
pub record IsWatched (told : Option Now) (rows : Rows) (stale : Bool) : Type 0 where
  pub good : IsGood rows
  pub left : IsLeft (kept_of rows)
  pub swept : stale ≡ false → IsSound (kept_of rows)
  pub over : (now : Now) → told ≡ Some now → IsOver now (kept_of rows).recorded

-- it is the number of this key
pub record IsNumber (keys : List Entrant) (k : Key) (n : ℕ) : Type 0 where
  pub inside : n < length keys
  pub key_is : key_named keys n ≡ k

-- the texts of these locations were recorded, each once, and no others: none of them was kept before
pub record HasGrown (old s : Kept) : Type 0 where
  pub locs : List Loc
  pub once : AreOnce locs
  pub fresh : (l : Loc) → IsAmong l locs → text_at old.recorded l ≡ None
  pub recorded : (l : Loc) → IsAmong l locs → (t : Noted) × (text_at s.recorded l ≡ Some t)
  pub count : length s.recorded.texts ≡ length locs + length old.recorded.texts

-- too many keys are visited from this root: so many has a run found that waits for them, or so many are visited by what it then keeps
pub data MeetsMany (old : Kept) (root : Key) (s : Kept) : Type 0 where
  in_run : HasMany most_keys old root s → MeetsMany old root s
  counted : (n : ℕ) → Counts s root n → most_keys < n → MeetsMany old root s

-- no more are visited than are allowed
abbrev pub MeetsFew : Kept → Key → Type 0
MeetsFew s root = (n : ℕ) → Counts s root n → n ≤ most_keys

-- an ask of this root was refused: no text is lost, those that are new are known, and where that is why, too many keys are visited
pub record IsStopped (old : Kept) (root : Key) (s : Kept) (stop : Stop) : Type 0 where
  pub texts : AreOf old.recorded.texts s.recorded.texts
  pub grown : HasGrown old s
  pub many : stop ≡ stops.TooMany → MeetsMany old root s
