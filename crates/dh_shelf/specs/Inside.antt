-- Words of private clauses alone: what one slot comes to.
use Rattle.std.specs.Prelude.{◌≡◌, true, false, Option, Some, None}
use Rattle.dh_syntax.specs.declared.locations.Digest.{Digest}
use Rattle.dh_syntax.specs.Expressions.SameTree.{digest_eq}
use Rattle.dh_shelf.specs.declared.slots.Offered.{Offered}
use Rattle.dh_shelf.specs.declared.slots.Offered.TheVariants as offers
use Rattle.dh_record.specs.Entries.{EntryParts}
use Rattle.dh_shelf.specs.Shelves.{IsOther}

-- an entry of this digest
abbrev pub IsSame : Digest → Option EntryParts → Type 0
IsSame d None = ⊥
IsSame d (Some e) = digest_eq e.digest d ≡ true

-- what comes of comparing an entry with one that stands in its slot
abbrev pub IsCompared : EntryParts → EntryParts → Offered → Type 0
IsCompared e theirs offers.Took = ⊥
IsCompared e theirs offers.There = digest_eq theirs.digest e.digest ≡ true
IsCompared e theirs (offers.Other back) = (back ≡ e) × (digest_eq theirs.digest e.digest ≡ false)
IsCompared e theirs (offers.Memory back) = ⊥

-- what comes of offering an entry to a slot, by what was seen there before and after
abbrev pub IsOffered : EntryParts → Option EntryParts → Option EntryParts → Offered → Type 0
IsOffered e before after offers.Took = (before ≡ None) × (after ≡ Some e)
IsOffered e before after offers.There = IsSame e.digest after
IsOffered e before after (offers.Other back) = (back ≡ e) × IsOther e.digest after
IsOffered e before after (offers.Memory back) = (back ≡ e) × (after ≡ None)
