-- What comes of putting an entry on a shelf.
use Rattle.std.specs.Prelude.{◌≡◌, List, Option, Some, None}
use Rattle.dh_shelf.specs.declared.shelves.Put.{Put}
use Rattle.dh_shelf.specs.declared.shelves.Put.TheVariants as puts
use Rattle.dh_record.specs.Entries.{EntryParts}
use Rattle.dh_shelf.specs.Shelves.{finds, HasGap, IsFull}

-- by what a pass had seen before and has seen after: it finds the entry now; it finds one of its digest; or each probe gave an entry of
-- another digest; where memory is wanting, one probe gave no value
abbrev pub IsPut : EntryParts → List (Option EntryParts) → List (Option EntryParts) → Put → Type 0
IsPut e before after puts.Kept = (finds before e.digest ≡ None) × (finds after e.digest ≡ Some e)
IsPut e before after puts.There = (f : EntryParts) × (finds after e.digest ≡ Some f)
IsPut e before after (puts.Full back) = (back ≡ e) × IsFull after e.digest
IsPut e before after (puts.Memory back) = (back ≡ e) × HasGap after e.digest
