-- What the calls of a table do.
use Rattle.std.specs.Prelude.{◌≡◌, ◌⊎◌, ℕ, suc, ◌+◌, ◌≤◌, Bool, true, false, if◌then◌else◌, List, ◌∷◌, ◌++◌, length, count_by, Option, Some, None, IsSome, ⊤, []}
use Rattle.dh_syntax.specs.declared.locations.Digest.{Digest}
use Rattle.dh_syntax.specs.declared.locations.Loc.{Loc}
use Rattle.dh_syntax.specs.Expressions.Tree.{Term}
use Rattle.dh_imports.specs.Machine as machine
use Rattle.dh_imports.specs.Machine.{Task, State, Event, IsOpen, InFlight, IsInTime, May, effect, opening}
use Rattle.dh_imports.specs.Records as found
use Rattle.dh_imports.specs.Replay.{kind_of, root_end}
use Rattle.dh_table.specs.declared.steps.claims.Claimed.{Claimed}
use Rattle.dh_table.specs.declared.steps.claims.Claimed.TheVariants as claimed
use Rattle.dh_table.specs.declared.steps.deliveries.Taken.{Taken}
use Rattle.dh_table.specs.declared.steps.deliveries.Taken.TheVariants as taken
use Rattle.dh_record.specs.declared.news.News.{News}
use Rattle.dh_table.specs.declared.steps.Step.{Step}
use Rattle.dh_table.specs.declared.tables.Ticket.{Ticket}
use Rattle.dh_record.specs.declared.rows.recorded.Entrant.{Entrant}
use Rattle.dh_table.specs.Shown.{Shown}
use Rattle.dh_record.specs.Rows.{key_named}
use Rattle.dh_table.specs.States.{kind_by, state_of}
use Rattle.dh_record.specs.Brought.{news_of, brings_failure, has_failed, is_failed}

-- all but the room is as it was
abbrev pub IsSame : Shown → Shown → Type 0
IsSame old new = new ≡ record old { spare = new.spare }

-- the history got these steps, and each took at most one room
pub record Adds (old new : Shown) (steps : List Step) : Type 0 where
  pub history_is : new.history ≡ old.history ++ steps
  pub spare_falls : old.spare ≤ new.spare + length steps

-- a release puts the task back where its serial is in flight, and otherwise changes nothing
pub record Released (old new : Shown) (serial : ℕ) : Type 0 where
  pub task : Task
  pub flies : InFlight (state_of old) serial task
  pub state_is : state_of new ≡ effect (machine.Release serial) (state_of old)
  pub adds : Adds old new (Step.Release serial ∷ [])

-- a task is released where its serial is in flight, and otherwise nothing changes
abbrev pub Releases : Bool → Shown → Shown → ℕ → Type 0
Releases true old new serial = Released old new serial
Releases false old new serial = ((t : Task) → ¬ InFlight (state_of old) serial t) × (new ≡ old)

-- a table before its first step
pub record IsOpened (root : Term) (t : Shown) : Type 0 where
  pub state_is : state_of t ≡ opening root
  pub history_is : t.history ≡ []

-- ---- claims

-- the state after a loop is marked at the key of this number, if any
abbrev pub after_mark : List Entrant → Option ℕ → State → State
after_mark keys None s = s
after_mark keys (Some n) s = effect (machine.Cycled (key_named keys n)) s

-- a loop is marked only where the root is undecided, nothing is in flight and no task is open
abbrev pub MayMark : List Entrant → Option ℕ → State → Type 0
MayMark keys None s = Unit {0}
MayMark keys (Some n) s = (root_end s ≡ None) × May (machine.Cycled (key_named keys n)) s

-- the step that marks a loop, if one is marked
abbrev pub mark_steps : Option ℕ → List Step
mark_steps None = []
mark_steps (Some n) = Step.Cycled n ∷ []

-- the task that is handed out is open, and its serial is the next one
pub record HandsOut (worker : ℕ) (s : State) (new : Shown) (ticket : Ticket) : Type 0 where
  pub undecided : root_end s ≡ None
  pub task : Task
  pub open_task : IsOpen s task
  pub serial_is : ticket.serial ≡ suc (length s.drawn)
  pub kind_is : kind_by ticket.kind ≡ kind_of task
  pub state_is : state_of new ≡ effect (machine.Claim worker task) s

-- the root is undecided, no task is open, and one is in flight
pub record Idles (s : State) (new : Shown) : Type 0 where
  pub undecided : root_end s ≡ None
  pub none_open : (t : Task) → ¬ IsOpen s t
  pub flies : ¬ (s.flights ≡ [])
  pub state_is : state_of new ≡ s

-- the root is decided
pub record IsOver (s : State) (new : Shown) : Type 0 where
  pub decided : IsSome (root_end s)
  pub state_is : state_of new ≡ s

-- what a claim answers in a state
abbrev pub ClaimAnswers : ℕ → State → Shown → Claimed → Type 0
ClaimAnswers worker s new (claimed.Task ticket) = HandsOut worker s new ticket
ClaimAnswers worker s new claimed.Idle = Idles s new
ClaimAnswers worker s new claimed.Over = IsOver s new

-- the step of a claim that hands out a task, and none otherwise
abbrev pub claim_steps : ℕ → Claimed → List Step
claim_steps worker (claimed.Task ticket) = Step.Claim worker ticket.kind ticket.serial ∷ []
claim_steps worker claimed.Idle = []
claim_steps worker claimed.Over = []

-- a claim marks a loop or none, and then answers
pub record Claims (worker : ℕ) (old new : Shown) (answer : Claimed) : Type 0 where
  pub mark : Option ℕ
  pub may : MayMark old.keys mark (state_of old)
  pub answers : ClaimAnswers worker (after_mark old.keys mark (state_of old)) new answer
  pub adds : Adds old new (mark_steps mark ++ claim_steps worker answer)

-- the root is undecided, no task is open, and one is in flight
pub record IsIdle (s : State) : Type 0 where
  pub undecided : root_end s ≡ None
  pub none_open : (t : Task) → ¬ IsOpen s t
  pub flies : ¬ (s.flights ≡ [])

-- ---- deliveries

-- the step by which news is recorded
abbrev pub landing : ℕ → machine.News → Event
landing serial (machine.fetched l text) = machine.Fetched serial l text
landing serial (machine.looked d look) = machine.Looked serial d look
landing serial (machine.finished k i limit o) = machine.Finished serial k i limit o

-- the step of the table's history by which news is recorded
abbrev pub landing_step : ℕ → machine.News → Step
landing_step serial (machine.fetched l text) = Step.Fetched serial
landing_step serial (machine.looked d look) = Step.Looked serial
landing_step serial (machine.finished k i limit o) = Step.Finished serial

-- the news is recorded, and its task is no longer in flight
pub record Records (serial : ℕ) (news : machine.News) (old new : Shown) : Type 0 where
  pub may : May (landing serial news) (state_of old)
  pub state_is : state_of new ≡ effect (landing serial news) (state_of old)
  pub adds : Adds old new (landing_step serial news ∷ [])

-- n is the serial in flight for what the news names, or 0 where none is
abbrev pub IsOwnSerial : State → machine.News → ℕ → Type 0
IsOwnSerial s news n = IsInTime s n news ⊎ ((n ≡ 0) × ((serial : ℕ) → ¬ IsInTime s serial news))

-- the table with refused news beside its step
abbrev pub with_late : ℕ → News → Shown → ℕ → Shown
with_late serial news t spare = record t { history = t.history ++ Step.Late serial ∷ []; refused = t.refused ++ news ∷ []; spare = spare }

-- the ticket's serial is not in flight for what the news names; the news is kept beside its step, and otherwise nothing changes
pub record Refuses (serial : ℕ) (news : News) (n : ℕ) (old new : Shown) : Type 0 where
  pub late : ¬ IsInTime (state_of old) serial (news_of news)
  pub own_serial : IsOwnSerial (state_of old) (news_of news) n
  pub shown_is : new ≡ with_late serial news old new.spare
  pub spare_falls : old.spare ≤ new.spare + 1

-- what a delivery answers: news is refused exactly where its ticket's serial is not in flight for what it names
abbrev pub Takes : Ticket → News → Shown → Shown → Taken → Type 0
Takes ticket news old new taken.Kept = Records ticket.serial (news_of news) old new
Takes ticket news old new (taken.Late back n) = (back ≡ ticket) × Refuses ticket.serial news n old new
Takes ticket news old new (taken.Memory back held) = (back ≡ ticket) × (held ≡ news) × IsInTime (state_of old) ticket.serial (news_of news) × (new ≡ old)

-- memory was not wanting
abbrev pub IsTaken : Taken → Type 0
IsTaken taken.Kept = ⊤
IsTaken (taken.Late back n) = ⊤
IsTaken (taken.Memory back held) = ⊥

-- a root that is decided stays so
abbrev pub StaysDecided : Shown → Shown → Type 0
StaysDecided old new = IsSome (root_end (state_of old)) → IsSome (root_end (state_of new))

-- how many recorded texts and looks are Failed
abbrev pub failures : State → ℕ
failures s = count_by (λ (t : Loc × found.Noted). has_failed t.1) s.recorded.texts + count_by (λ (l : Digest × found.Seen). is_failed l.1) s.recorded.looks

-- how many failures this answer to news adds
abbrev pub new_failures : News → Taken → ℕ
new_failures news taken.Kept = if brings_failure (news_of news) then 1 else 0
new_failures news (taken.Late back n) = 0
new_failures news (taken.Memory back held) = 0
