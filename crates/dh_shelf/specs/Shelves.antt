-- Where entries stand on a shelf, and what a pass has seen of it. A shelf is an open-addressed table that only grows.
use Rattle.std.specs.Prelude.{◌≡◌, ℕ, zero, suc, ◌+◌, ◌*◌, ◌%◌, ◌<◌, false, if◌then◌else◌, List, slice_index, slice_index_or, Option, Some, None, ⊤}
use Rattle.dh_syntax.specs.declared.locations.Digest.{Digest}
use Rattle.dh_syntax.specs.Expressions.SameTree.{digest_eq}
use Rattle.dh_record.specs.Brought.{IsShelved}
use Rattle.dh_record.specs.Entries.{EntryParts}
use Rattle.dh_record.specs.declared.entries.Seen.TheVariants as seens

-- how many slots a shelf has
abbrev pub slot_count : ℕ
slot_count = 4096

-- how many slots are probed for a digest
abbrev pub most_probes : ℕ
most_probes = 16

-- an entry of more bytes is not put on a shelf
abbrev pub most_shelved_bytes : ℕ
most_shelved_bytes = 65536

-- the number of the slot that is probed for a digest after i others: the first is its first two bytes modulo the number of slots
abbrev pub slot_of : Digest → ℕ → ℕ
slot_of d i = (256 * slice_index d.0 0 + slice_index d.0 1 + i) % slot_count

-- what contracts see of a pass: the names of the slots of its shelf, and what it has seen in each
pub record Passed : Type 0 where
  pub cells : List ℕ
  pub seen : List (Option EntryParts)

-- an entry is what is told under its digest, if anything is told
abbrev pub IsToldEntry : (Digest → Option (Option (List ℕ))) → EntryParts → Type 0
IsToldEntry shelved e = IsShelved e.digest (shelved e.digest) (seens.Good e)

-- what was seen in a slot
abbrev pub seen_at : List (Option EntryParts) → ℕ → Option EntryParts
seen_at seen at = slice_index_or seen at None

-- an entry that was seen, if it has the digest, or else what the further probes find
abbrev pub or_further : Digest → Option EntryParts → Option EntryParts → Option EntryParts
or_further d None further = None
or_further d (Some e) further = if digest_eq e.digest d then Some e else further

-- what the probes from the i-th on find, n in number
abbrev pub finds_from : ℕ → ℕ → List (Option EntryParts) → Digest → Option EntryParts
finds_from zero i seen d = None
finds_from (suc n) i seen d = or_further d (seen_at seen (slot_of d i)) (finds_from n (suc i) seen d)

-- the entry that is found under a digest by what was seen
unfoldable pub finds : List (Option EntryParts) → Digest → Option EntryParts
finds seen d = finds_from most_probes 0 seen d

-- an entry of another digest
abbrev pub IsOther : Digest → Option EntryParts → Type 0
IsOther d None = ⊥
IsOther d (Some e) = digest_eq e.digest d ≡ false

-- the first n probes gave other digests
abbrev pub GaveOthers : ℕ → List (Option EntryParts) → Digest → Type 0
GaveOthers n seen d = (i : ℕ) → i < n → IsOther d (seen_at seen (slot_of d i))

-- all probes gave other digests
abbrev pub IsFull : List (Option EntryParts) → Digest → Type 0
IsFull seen d = GaveOthers most_probes seen d

-- one probe gave no value, and those before it gave other digests
abbrev pub HasGap : List (Option EntryParts) → Digest → Type 0
HasGap seen d = (i : ℕ) × (i < most_probes) × GaveOthers i seen d × (seen_at seen (slot_of d i) ≡ None)

-- what was seen of one slot stays
abbrev pub Stays : Option EntryParts → Option EntryParts → Type 0
Stays None after = ⊤
Stays (Some e) after = after ≡ Some e

-- what was seen stays seen
abbrev pub Grows : List (Option EntryParts) → List (Option EntryParts) → Type 0
Grows before after = (at : ℕ) → Stays (seen_at before at) (seen_at after at)

-- two values of one slot, where both were seen, are the same
abbrev pub Agree : Option EntryParts → Option EntryParts → Type 0
Agree None b = ⊤
Agree (Some e) None = ⊤
Agree (Some e) (Some f) = e ≡ f
