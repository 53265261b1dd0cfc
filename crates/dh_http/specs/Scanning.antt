-- What looking through the window for ends of lines does.
use Rattle.std.specs.Prelude.{ℕ, ◌<◌, ◌≤◌, ◌≡◌, ◌⊎◌, [], Bool, true, length, take, MatchBool}
use Rattle.dh_http.specs.Bodies.{most_line}
use Rattle.dh_http.specs.Reading.{Place, Took}

-- Nothing was read, and the window was looked through up to a place, a further one where an end was found; where none was, nothing
-- more comes into the window, since it is full or the stream has ended.
pub record Gathered (old new : Place) (from to : ℕ) (more : Bool) : Type 0 where
  pub took : Took old new []
  pub within : to ≤ length (take most_line new.inbox.bytes)
  pub came : MatchBool more (from < to) ((most_line ≤ length new.inbox.bytes) ⊎ (new.inbox.ended ≡ true))
