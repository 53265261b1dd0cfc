-- What the calls on a shared table do to the shares of a seat.
use Rattle.std.specs.Prelude.{◌≡◌, ◌⊎◌, ℕ, Bool, cond, List, Option}
use Rattle.dh_syntax.specs.declared.locations.Digest.{Digest}
use Rattle.dh_syntax.specs.declared.locations.Loc.{Loc}
use Rattle.dh_ports.specs.declared.worlds.Got.{Got}
use Rattle.dh_table.specs.declared.steps.deliveries.Taken.{Taken}
use Rattle.dh_table.specs.declared.steps.deliveries.Taken.TheVariants as taken
use Rattle.dh_record.specs.declared.news.News.{News}
use Rattle.dh_record.specs.declared.news.News.TheVariants as news
use Rattle.dh_record.specs.declared.kinds.Kind.TheVariants as kinds
use Rattle.dh_table.specs.declared.tables.Ticket.{Ticket}
use Rattle.dh_table.specs.declared.answers.works.Work.{Work}
use Rattle.dh_table.specs.declared.answers.works.Work.TheVariants as works
use Rattle.dh_record.specs.Brought.{BringsText, BringsLook, BringsOutcome}
use Rattle.dh_table.specs.Calls.{new_failures}
use Rattle.dh_table.specs.Works.{IsFitWork}
use Rattle.dh_shared.specs.declared.turns.Turn.{Turn}
use Rattle.dh_shared.specs.declared.turns.Turn.TheVariants as turns
use Rattle.dh_shared.specs.Held.{Held, with_claim, with_kept, with_release, with_return, with_late, with_over}

-- how many fetches it is
abbrev pub fetches_of : Work → ℕ
fetches_of (works.Fetch l) = 1
fetches_of (works.Look d) = 0
fetches_of (works.Finish i) = 0

-- the work is of the ticket's kind
abbrev pub IsWorkOf : Ticket → Work → Type 0
IsWorkOf ticket (works.Fetch l) = ticket.kind ≡ kinds.Fetch
IsWorkOf ticket (works.Look d) = ticket.kind ≡ kinds.Look
IsWorkOf ticket (works.Finish i) = ticket.kind ≡ kinds.Finish

-- one claim: it made one step, or none where it would wait; where memory was wanting, a ticket that was drawn was given back
abbrev pub Turns : Held → Held → Turn → Type 0
Turns old new (turns.Work ticket work) = (new ≡ with_claim old (fetches_of work)) × IsWorkOf ticket work × IsFitWork work
Turns old new turns.Idle = new ≡ old
Turns old new turns.Over = new ≡ with_over old
Turns old new turns.Memory = (new ≡ old) ⊎ ((fetch : Bool) × (new ≡ with_release (with_return (with_claim old (cond fetch 1 0)))))

-- what a worker may bring, in a world that tells this of texts and this of the cache
abbrev pub Brings : (Loc → Option Got) → (Digest → Option (Option (List ℕ))) → News → Type 0
Brings told shelved (news.Fetched l got scan) = BringsText told (news.Fetched l got scan)
Brings told shelved (news.Looked d look) = BringsLook shelved (news.Looked d look)
Brings told shelved (news.Finished done) = BringsOutcome (news.Finished done)

-- one delivery: it made one step, or none where memory was wanting
abbrev pub Hands : Held → Held → News → Taken → Type 0
Hands old new news taken.Kept = new ≡ with_kept old (new_failures news taken.Kept)
Hands old new news (taken.Late ticket n) = new ≡ with_late old
Hands old new news (taken.Memory ticket back) = (new ≡ old) × (back ≡ news)

-- a ticket is given back, by one step or, where its serial was not in flight, by none
abbrev pub Frees : Held → Held → Type 0
Frees old new = (new ≡ with_return old) ⊎ (new ≡ with_release (with_return old))
