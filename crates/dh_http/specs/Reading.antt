-- What was received and not read yet, and what reading does to it and to the link.
use Rattle.std.specs.Prelude.{◌≡◌, ℕ, ◌+◌, ◌<◌, ◌≤◌, Bool, true, false, ◌⊎◌, if◌then◌else◌, List, [], ◌∷◌, ◌++◌, length, Option, Some, None, MatchBool}
use Rattle.std.specs.Io.KnownBytes.{Consumes, IsAtEnd, prepend_known}
use Rattle.dh_http.specs.Bodies.{most_line}

-- the bytes that were received and not read yet, and whether the stream has ended
pub record InboxState : Type 0 where
  pub bytes : List ℕ
  pub ended : Bool

-- where a reader stands: what the link was sent and has left, how often it was asked and how often it failed, and what was
-- received and not read yet
pub record Place : Type 0 where
  pub sent : Option (List ℕ)
  pub left : Option (List ℕ)
  pub receives : ℕ
  pub faults : ℕ
  pub inbox : InboxState

-- a reader stands where these say
abbrev pub place : Option (List ℕ) → Option (List ℕ) → ℕ → ℕ → InboxState → Place
place sent left receives faults inbox =
    record { sent = sent; left = left; receives = receives; faults = faults; inbox = inbox }

-- the stream from here on, where it is known
abbrev pub ahead : Option (List ℕ) → InboxState → Option (List ℕ)
ahead left inbox = prepend_known inbox.bytes left

-- the link is asked once more at the end of the stream
abbrev pub to_ask : InboxState → ℕ
to_ask inbox = if inbox.ended then 0 else 1

-- the stream has ended only where nothing is left
abbrev pub Fits : Option (List ℕ) → InboxState → Type 0
Fits left inbox = inbox.ended ≡ true → IsAtEnd left

-- nothing is left to read
abbrev pub IsOver : InboxState → Type 0
IsOver inbox = (inbox.bytes ≡ []) × (inbox.ended ≡ true)

-- these bytes were read, and no call failed
pub record Took (old new : Place) (bytes : List ℕ) : Type 0 where
  pub moved : List ℕ
  pub received : Consumes old.left new.left moved
  pub kept : old.inbox.bytes ++ moved ≡ bytes ++ new.inbox.bytes
  pub count : new.receives + to_ask new.inbox ≤ old.receives + to_ask old.inbox + length moved
  pub fits : Fits new.left new.inbox
  pub sent : new.sent ≡ old.sent
  pub quiet : new.faults ≡ old.faults

-- some bytes were received before the link failed or memory was wanting
pub record Stopped (old new : Place) : Type 0 where
  pub moved : List ℕ
  pub received : Consumes old.left new.left moved
  pub count : new.receives ≤ old.receives + to_ask old.inbox + length moved
  pub sent : new.sent ≡ old.sent

-- nothing was read, and more was received, or the stream has ended
pub record Filled (old new : Place) (more : Bool) : Type 0 where
  pub took : Took old new []
  pub came : MatchBool more (length old.inbox.bytes < length new.inbox.bytes)
      ((new.inbox.bytes ≡ old.inbox.bytes) × (new.inbox.ended ≡ true))

-- nothing was read, and something is there to read, or nothing is left
pub record Awaited (old new : Place) (more : Bool) : Type 0 where
  pub took : Took old new []
  pub came : MatchBool more (0 < length new.inbox.bytes) (IsOver new.inbox)

-- Nothing was read, and more was received into the window; or nothing came, since the window is there or the stream has ended.
abbrev pub Grown : Place → Place → Bool → Type 0
Grown old new true =
    Took old new [] × (length old.inbox.bytes < most_line) × (length old.inbox.bytes < length new.inbox.bytes)
Grown old new false =
    Took old new [] × (new.inbox.bytes ≡ old.inbox.bytes)
    × ((most_line ≤ length new.inbox.bytes) ⊎ (new.inbox.ended ≡ true))

-- so many bytes were read and added, none only where nothing is left
pub record TakesSome (old new : Place) (body_old body_new : List ℕ) (most n : ℕ) : Type 0 where
  pub bytes : List ℕ
  pub took : Took old new bytes
  pub added : body_new ≡ body_old ++ bytes
  pub count : length bytes ≡ n
  pub bound : n ≤ most
  pub none : n ≡ 0 → IsOver new.inbox

-- so many bytes were read and added, or all that were left
pub record TakesAll (old new : Place) (body_old body_new : List ℕ) (want : ℕ) (all : Bool) : Type 0 where
  pub bytes : List ℕ
  pub took : Took old new bytes
  pub added : body_new ≡ body_old ++ bytes
  pub bound : length bytes ≤ want
  pub enough : MatchBool all (length bytes ≡ want) ((length bytes < want) × IsOver new.inbox)

-- one byte was read, or nothing is left
abbrev pub TakesByte : Place → Place → Option ℕ → Type 0
TakesByte old new None = Took old new [] × IsOver new.inbox
TakesByte old new (Some byte) = Took old new (byte ∷ [])
