-- What the news of a task names, and what it tells of the device.
use Rattle.std.specs.Prelude.{◌≡◌, ℕ, true, List, Option, Some, None}
use Rattle.dh_syntax.specs.declared.locations.Digest.{Digest}
use Rattle.dh_syntax.specs.declared.locations.Loc.{Loc}
use Rattle.dh_syntax.specs.Expressions.Tree.{Term}
use Rattle.dh_imports.specs.Records as found
use Rattle.dh_imports.specs.Records.{IsGood}
use Rattle.dh_ports.specs.Counts.{Rose}
use Rattle.dh_record.specs.Brought.{brings_failure, news_of}
use Rattle.dh_record.specs.Entries.{EntryParts}
use Rattle.dh_record.specs.declared.news.News.{News}
use Rattle.dh_record.specs.declared.news.News.TheVariants as news

-- a text at this location
abbrev pub IsTextAt : Loc → News → Type 0
IsTextAt l (news.Fetched m got scan) = m ≡ l
IsTextAt l (news.Looked d look) = ⊥
IsTextAt l (news.Finished done) = ⊥

-- a look of this digest
abbrev pub IsLookOf : Digest → News → Type 0
IsLookOf d (news.Looked e look) = e ≡ d
IsLookOf d (news.Fetched l got scan) = ⊥
IsLookOf d (news.Finished done) = ⊥

-- news of a failed device comes only where the count of faults rose
abbrev pub TellsFailure : News → ℕ → ℕ → Type 0
TellsFailure n before after = brings_failure (news_of n) ≡ true → Rose before after

-- the entry with this digest and these bytes, or these bytes are no good entry of this digest
abbrev pub IsGoodAt : Digest → List ℕ → Option EntryParts → Type 0
IsGoodAt d bytes (Some e) = (e.digest ≡ d) × (e.bytes ≡ bytes)
IsGoodAt d bytes None = (e : Term) → ¬ IsGood d (found.Good bytes e)
