-- Words of private clauses alone: what the calls of a table add to the counts.
use Rattle.std.specs.Prelude.{◌≡◌, ℕ, ◌+◌, Bool, true, false, cond, count_by, IsSome}
use Rattle.dh_imports.specs.Machine.{Task, InFlight}
use Rattle.dh_imports.specs.Replay.{kind_of, root_end}
use Rattle.dh_table.specs.declared.steps.claims.Claimed.{Claimed}
use Rattle.dh_table.specs.declared.steps.claims.Claimed.TheVariants as claimed
use Rattle.dh_table.specs.declared.steps.deliveries.Taken.{Taken}
use Rattle.dh_table.specs.declared.steps.deliveries.Taken.TheVariants as taken
use Rattle.dh_record.specs.declared.news.News.{News}
use Rattle.dh_table.specs.declared.tables.Ticket.{Ticket}
use Rattle.dh_table.specs.Calls.{StaysDecided, failures, new_failures}
use Rattle.dh_table.specs.Shown.{Shown}
use Rattle.dh_table.specs.States.{kind_by, state_of}
use Rattle.dh_shared.specs.Counting.{is_fetch, is_claim, is_fetch_claim, is_recorded, is_release, is_late}

-- so many more steps of each kind, and failures; the root is the same, and where it is decided it stays so
pub record Rises (old new : Shown) (claims kept releases lates fetches failed : ℕ) : Type 0 where
  pub claims_are : count_by is_claim new.history ≡ count_by is_claim old.history + claims
  pub kept_are : count_by is_recorded new.history ≡ count_by is_recorded old.history + kept
  pub releases_are : count_by is_release new.history ≡ count_by is_release old.history + releases
  pub lates_are : count_by is_late new.history ≡ count_by is_late old.history + lates
  pub fetches_are : count_by is_fetch_claim new.history ≡ count_by is_fetch_claim old.history + fetches
  pub failed_are : failures (state_of new) ≡ failures (state_of old) + failed
  pub root_is : new.root.expr ≡ old.root.expr
  pub stays : StaysDecided old new

-- a task of the ticket's kind is in flight under its serial
abbrev pub Flies : Shown → Ticket → Type 0
Flies t ticket = (x : Task) × InFlight (state_of t) ticket.serial x × (kind_by ticket.kind ≡ kind_of x)

-- a claim
abbrev pub Draws : Shown → Shown → Claimed → Type 0
Draws old new (claimed.Task ticket) = Rises old new 1 0 0 0 (cond (is_fetch ticket.kind) 1 0) 0 × Flies new ticket
Draws old new claimed.Idle = Rises old new 0 0 0 0 0 0
Draws old new claimed.Over = Rises old new 0 0 0 0 0 0 × IsSome (root_end (state_of new))

-- a release
abbrev pub PutsBack : Bool → Shown → Shown → ℕ → Type 0
PutsBack true old new serial = Rises old new 0 0 1 0 0 0
PutsBack false old new serial = ((t : Task) → ¬ InFlight (state_of old) serial t) × Rises old new 0 0 0 0 0 0

-- a delivery
abbrev pub HandsIn : News → Shown → Shown → Taken → Type 0
HandsIn news old new taken.Kept = Rises old new 0 1 0 0 0 (new_failures news taken.Kept)
HandsIn news old new (taken.Late back n) = Rises old new 0 0 0 1 0 0
HandsIn news old new (taken.Memory back held) = Rises old new 0 0 0 0 0 0 × (held ≡ news)
