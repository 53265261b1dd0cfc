-- What a worker may bring, and what is recorded of it.
use Rattle.std.specs.Prelude.{◌≡◌, ℕ, List, All, Option, Some, None, Ok, Err, ⊤, Bool, true, false, Result, []}
use Rattle.dh_syntax.specs.declared.locations.Digest.{Digest}
use Rattle.dh_syntax.specs.declared.locations.Loc.{Loc}
use Rattle.dh_syntax.specs.Expressions.Bridge.{term}
use Rattle.dh_syntax.specs.Expressions.Tree.{Term}
use Rattle.dh_imports.specs.Records as found
use Rattle.dh_imports.specs.Records.{IsGood}
use Rattle.dh_imports.specs.Walk.{keys_of}
use Rattle.dh_syntax.specs.Text.Spelling.{ParsesTo}
use Rattle.dh_ports.specs.Desks.{Tells, shown}
use Rattle.dh_ports.specs.declared.worlds.Got.{Got}
use Rattle.dh_ports.specs.declared.worlds.Got.TheVariants as gots
use Rattle.dh_record.specs.declared.entries.Seen.{Seen}
use Rattle.dh_record.specs.declared.entries.Seen.TheVariants as seens
use Rattle.dh_record.specs.declared.news.News.{News}
use Rattle.dh_record.specs.declared.news.News.TheVariants as news
use Rattle.dh_record.specs.declared.news.Noted.{Noted}
use Rattle.dh_record.specs.declared.news.Noted.TheVariants as noteds
use Rattle.dh_record.specs.declared.news.Parsed.{Parsed}
use Rattle.dh_record.specs.declared.news.Parsed.TheVariants as parseds
use Rattle.dh_record.specs.declared.rows.recorded.Look.{Look}
use Rattle.dh_record.specs.declared.rows.recorded.Text.{Text}
use Rattle.dh_imports.specs.declared.outcomes.Outcome as program
use Rattle.dh_imports.specs.declared.outcomes.Why.{Why}
use Rattle.dh_imports.specs.Machine as machine
use Rattle.dh_imports.specs.Outcomes.{Outcome, plain}
use Rattle.dh_record.specs.Items.{stage_of_item}
use Rattle.dh_syntax.specs.declared.faults.ParseFault.{ParseFault}
use Rattle.dh_syntax.specs.declared.locations.Key.{Key}
use Rattle.dh_demand.specs.declared.scans.Edge.{Edge}
use Rattle.dh_demand.specs.declared.scans.Scan.{Scan}
use Rattle.dh_record.specs.Rows.{noted_by, parsed_by, seen_by, why_of}

-- ---- texts

-- these bytes, found at this location, parse to this, with the chained key of each import in the tree's order
abbrev pub IsParse : Loc → List ℕ → Parsed → Type 0
IsParse l bytes (parseds.Good e ks) = ParsesTo bytes (Ok (term e)) × (ks ≡ keys_of (Some l) (term e))
IsParse l bytes (parseds.Bad f) = ParsesTo bytes (Err f)

-- what found bytes parse to, and nothing where no bytes were found
abbrev pub IsScanned : Loc → Noted → Option Parsed → Type 0
IsScanned l (noteds.Got (gots.Found f)) (Some p) = IsParse l f.bytes p
IsScanned l (noteds.Got (gots.Found f)) None = ⊥
IsScanned l (noteds.Got gots.Absent) scan = scan ≡ None
IsScanned l (noteds.Got (gots.Broken n)) scan = scan ≡ None
IsScanned l noteds.Failed scan = scan ≡ None

-- what is told, if anything is told, or that the device failed
abbrev pub IsTold : Option Got → Noted → Type 0
IsTold told (noteds.Got got) = Tells told got
IsTold told noteds.Failed = ⊤

-- a text, in a world that tells this of texts
abbrev pub BringsText : (Loc → Option Got) → News → Type 0
BringsText told (news.Fetched l got scan) = IsTold (told l) got × IsScanned l got scan
BringsText told (news.Looked d look) = ⊥
BringsText told (news.Finished done) = ⊥

-- ---- looks

-- a good entry has this digest
abbrev pub IsOfDigest : Digest → Seen → Type 0
IsOfDigest d (seens.Good e) = e.digest ≡ d
IsOfDigest d seens.Miss = ⊤
IsOfDigest d seens.Failed = ⊤

-- what is seen of these bytes, if there are any: they are a good entry, or it is a miss
abbrev pub IsSeen : Digest → Option (List ℕ) → Seen → Type 0
IsSeen d entry (seens.Good e) = entry ≡ Some e.bytes
IsSeen d entry seens.Miss = (bytes : List ℕ) (e : Term) → entry ≡ Some bytes → ¬ IsGood d (found.Good bytes e)
IsSeen d entry seens.Failed = ⊤

-- what is seen of the entry that is told, if anything is told; one that is too large is none
abbrev pub IsShelved : Digest → Option (Option (List ℕ)) → Seen → Type 0
IsShelved d None look = ⊤
IsShelved d (Some entry) look = IsSeen d (shown entry) look

-- a look, in a world that tells this of the cache
abbrev pub BringsLook : (Digest → Option (Option (List ℕ))) → News → Type 0
BringsLook shelved (news.Looked d look) = IsOfDigest d look × IsShelved d (shelved d) look
BringsLook shelved (news.Fetched l got scan) = ⊥
BringsLook shelved (news.Finished done) = ⊥

-- ---- what is recorded

-- each text but a failed one is what the world tells at its location, where it tells
abbrev pub AreTold : (Loc → Option Got) → List Text → Type 0
AreTold told texts = All (λ (t : Text). IsTold (told t.loc) t.got) texts

-- each look is what is shelved under its digest, where that is told
abbrev pub AreShelved : (Digest → Option (Option (List ℕ))) → List Look → Type 0
AreShelved shelved looks = All (λ (l : Look). IsShelved l.digest (shelved l.digest) l.look) looks

-- ---- outcomes

-- the news is the outcome of a finished key
abbrev pub BringsOutcome : News → Type 0
BringsOutcome (news.Finished done) = ⊤
BringsOutcome (news.Fetched l got scan) = ⊥
BringsOutcome (news.Looked d look) = ⊥

-- ---- news

-- the limit that an outcome is, where it is said to be one
abbrev pub limit_by : Bool → program.Outcome → Option Why
limit_by false o = None
limit_by true o = Some (why_of (Some o))

-- the news as the machine takes it
abbrev pub news_of : News → machine.News
news_of (news.Fetched l got scan) = machine.fetched l (noted_by got (parsed_by scan))
news_of (news.Looked d look) = machine.looked d (seen_by look)
news_of (news.Finished d) = machine.finished d.item.key (stage_of_item d.item) (limit_by d.limited d.outcome) (plain d.outcome)

-- ---- failures of devices

-- whether the device failed at a text
abbrev pub has_failed : found.Noted → Bool
has_failed found.Failed = true
has_failed _ = false

-- whether the device failed at a look into the cache
abbrev pub is_failed : found.Seen → Bool
is_failed found.Failed = true
is_failed _ = false

-- whether the news is a text or a look at which the device failed
abbrev pub brings_failure : machine.News → Bool
brings_failure (machine.fetched l text) = has_failed text
brings_failure (machine.looked d look) = is_failed look
brings_failure (machine.finished k i limit o) = false

-- ---- the imports of a text

-- the keys of the imports of a text
abbrev pub imports_of : Option Parsed → List Key
imports_of (Some (parseds.Good e ks)) = ks
imports_of (Some (parseds.Bad f)) = []
imports_of None = []

-- what a table keeps of a text, with the edges of its imports
abbrev pub read_of : Option Parsed → List Edge → Option (Result Scan ParseFault)
read_of (Some (parseds.Good e ks)) edges = Some (Ok (record { expr = e; edges = edges }))
read_of (Some (parseds.Bad f)) edges = Some (Err f)
read_of None edges = None
