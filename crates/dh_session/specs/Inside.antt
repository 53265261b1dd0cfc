-- Words of private clauses alone: what one worker has done at its place.
use Rattle.std.specs.Prelude.{◌≡◌, ◌⊎◌, ℕ, ◌+◌, ◌<◌, Bool, true, false, List, Option, if◌then◌else◌}
use Rattle.dh_syntax.specs.declared.locations.Digest.{Digest}
use Rattle.dh_ports.specs.Counts.{one_more}
use Rattle.dh_record.specs.Brought.{brings_failure, news_of}
use Rattle.dh_record.specs.declared.items.Item.{Item}
use Rattle.dh_record.specs.declared.news.News.{News}
use Rattle.dh_record.specs.declared.news.News.TheVariants as news
use Rattle.dh_table.specs.declared.steps.opening.OpenFault.{OpenFault}
use Rattle.dh_table.specs.declared.steps.opening.OpenFault.TheVariants as opens
use Rattle.dh_table.specs.declared.answers.works.Work.{Work}
use Rattle.dh_table.specs.declared.answers.works.Work.TheVariants as works
use Rattle.dh_shared.specs.Held.{Held}
use Rattle.dh_work.specs.Brings.{IsTextAt, IsLookOf}
use Rattle.dh_session.specs.declared.answers.SessionFault.{SessionFault}
use Rattle.dh_session.specs.declared.answers.SessionFault.TheVariants as faults
use Rattle.dh_session.specs.declared.workers.Next.{Next}
use Rattle.dh_session.specs.declared.workers.Next.TheVariants as nexts
use Rattle.dh_session.specs.Works.{Asks, Delivers, Fails, FreesLate, EndsEarly}

-- how often a desk was asked after this work
abbrev pub asked_after : Work → ℕ → ℕ
asked_after (works.Fetch l) n = one_more n
asked_after (works.Look d) n = n
asked_after (works.Finish i) n = n

-- what comes of an item
abbrev pub IsOutcomeOf : Item → News → Type 0
IsOutcomeOf i (news.Finished done) = done.item ≡ i
IsOutcomeOf i (news.Fetched l got scan) = ⊥
IsOutcomeOf i (news.Looked d look) = ⊥

-- news of this work
abbrev pub IsNewsOf : Work → News → Type 0
IsNewsOf (works.Fetch l) n = IsTextAt l n
IsNewsOf (works.Look d) n = IsLookOf d n
IsNewsOf (works.Finish i) n = IsOutcomeOf i n

-- how often a turn after which a worker does this found the run over
abbrev pub overs_by : Next → ℕ
overs_by nexts.Claim = 0
overs_by nexts.Wait = 0
overs_by nexts.End = 1

-- a desk that was asked so often before and after one turn: once where a fetch was claimed, else not
abbrev pub AsksOnce : ℕ → ℕ → Held → Held → Type 0
AsksOnce before after old new = ((after ≡ before) × (new.fetches ≡ old.fetches)) ⊎ ((after ≡ one_more before) × (new.fetches ≡ old.fetches + 1))

-- how many failures news tells
abbrev pub failures_told : News → ℕ
failures_told n = if brings_failure (news_of n) then 1 else 0

-- Whether the worker of a place ended well, with the counts of its desk, what the desk has kept and the shares of its seat, before
-- and after.
pub record Goes (done : Bool) (asked asked' faults faults' : ℕ) (filed filed' : Option (List (Digest × List ℕ))) (old new : Held) : Type 0 where
  pub over : done ≡ true → old.overs < new.overs
  pub early : done ≡ false → EndsEarly old new
  pub frees : done ≡ true → FreesLate old new
  pub delivers : done ≡ true → Delivers old new
  pub asks : done ≡ true → Asks asked asked' old new
  pub fails : Fails faults faults' old new
  pub files : filed' ≡ filed

-- the fault of a run whose table does not open
abbrev pub fault_of : OpenFault → SessionFault
fault_of opens.TooMany = faults.TooMany
fault_of opens.Memory = faults.Memory
