-- The rows of a record: keys by their numbers, texts and looks, and what they are in the definitions.
use Rattle.std.specs.Prelude.{ℕ, List, map, slice_index_or, Option, Some, None, Result, Ok, Err, []}
use Rattle.dh_syntax.specs.declared.faults.ParseFault.{ParseFault}
use Rattle.dh_syntax.specs.declared.locations.Digest.{Digest}
use Rattle.dh_syntax.specs.declared.locations.Key.{Key}
use Rattle.dh_syntax.specs.declared.locations.Loc.{Loc}
use Rattle.dh_syntax.specs.declared.locations.Loc.TheVariants as locs
use Rattle.dh_syntax.specs.declared.locations.Mode.TheVariants as modes
use Rattle.dh_imports.specs.declared.outcomes.Outcome as program
use Rattle.dh_imports.specs.declared.outcomes.Outcome.TheVariants as variants
use Rattle.dh_imports.specs.declared.outcomes.Why.{Why}
use Rattle.dh_imports.specs.declared.outcomes.Why.TheVariants as whys
use Rattle.dh_syntax.specs.Expressions.Bridge.{term}
use Rattle.dh_syntax.specs.Expressions.Tree.{Term}
use Rattle.dh_imports.specs.Machine as machine
use Rattle.dh_imports.specs.Machine.{Task}
use Rattle.dh_imports.specs.Outcomes.{Outcome, Loop, plain}
use Rattle.dh_imports.specs.Records as found
use Rattle.dh_demand.specs.declared.scans.Scan.{Scan}
use Rattle.dh_demand.specs.Results.{Row}
use Rattle.dh_ports.specs.declared.worlds.Got.TheVariants as gots
use Rattle.dh_record.specs.declared.entries.Seen as program_seen
use Rattle.dh_record.specs.declared.entries.Seen.TheVariants as seens
use Rattle.dh_record.specs.declared.news.Noted.{Noted}
use Rattle.dh_record.specs.declared.news.Noted.TheVariants as noteds
use Rattle.dh_record.specs.declared.news.Parsed.{Parsed}
use Rattle.dh_record.specs.declared.news.Parsed.TheVariants as parseds
use Rattle.dh_record.specs.declared.kinds.Kind.{Kind}
use Rattle.dh_record.specs.declared.kinds.Kind.TheVariants as kinds
use Rattle.dh_record.specs.declared.rows.recorded.Entrant.{Entrant}
use Rattle.dh_record.specs.declared.rows.recorded.Look.{Look}
use Rattle.dh_record.specs.declared.rows.recorded.Text.{Text}

-- ---- keys by their numbers

-- what stands at a number that is no key's
abbrev pub no_key : Key
no_key = record { loc = locs.Missing; mode = modes.Location; digest = None }

-- the entrant at a number that is no key's, undecided
abbrev pub nobody : Entrant
nobody = record { key = no_key; outcome = None; own = None; text = []; unfrozen = 0 }

-- the key of this number
abbrev pub key_named : List Entrant → ℕ → Key
key_named ks n = (slice_index_or ks n nobody).key

-- a recorded outcome as the definitions have it; an undecided key has a loop of no key
abbrev pub known : Option program.Outcome → Outcome
known None = Loop no_key
known (Some o) = plain o

-- the outcome of the key of this number
abbrev pub outcome_named : List Entrant → ℕ → Outcome
outcome_named ks n = known (slice_index_or ks n nobody).outcome

-- the keys with their outcomes, by their numbers
abbrev pub row_of_entrant : Entrant → Row
row_of_entrant e = (e.key, e.outcome)

-- the keys of the entrants with their outcomes, by their numbers
abbrev pub rows_of : List Entrant → List Row
rows_of ks = map row_of_entrant ks

-- ---- tasks

-- the digest, or an empty one where there is none
abbrev pub digest_or_none : Option Digest → Digest
digest_or_none None = record { 0 = [] }
digest_or_none (Some d) = d

-- the task of this kind for a key
abbrev pub task_by : Kind → Key → Task
task_by kinds.Fetch k = machine.Fetch k.loc
task_by kinds.Look k = machine.Look (digest_or_none k.digest)
task_by kinds.Finish k = machine.Finish k

-- ---- what is recorded

-- found bytes without what they parse to: there are none in a table
abbrev pub noted_by : Noted → Option (Result Term ParseFault) → found.Noted
noted_by (noteds.Got (gots.Found f)) (Some parsed) = found.Found f.bytes f.allow parsed
noted_by (noteds.Got (gots.Found f)) None = found.Failed
noted_by (noteds.Got gots.Absent) parsed = found.Absent
noted_by (noteds.Got (gots.Broken n)) parsed = found.Broken n
noted_by noteds.Failed parsed = found.Failed

-- what a read text parses to, without the edges of its imports
abbrev pub scanned : Option (Result Scan ParseFault) → Option (Result Term ParseFault)
scanned None = None
scanned (Some (Ok s)) = Some (Ok (term s.expr))
scanned (Some (Err f)) = Some (Err f)

-- what a text parses to, without the keys of its imports
abbrev pub parsed_by : Option Parsed → Option (Result Term ParseFault)
parsed_by None = None
parsed_by (Some (parseds.Good e ks)) = Some (Ok (term e))
parsed_by (Some (parseds.Bad f)) = Some (Err f)

-- the location of a recorded text, and what was found there
abbrev pub text_of : Text → Loc × found.Noted
text_of t = (t.loc, noted_by t.got (scanned t.read))

-- what was seen at a look into the cache, as the definitions have it
abbrev pub seen_by : program_seen.Seen → found.Seen
seen_by (seens.Good e) = found.Good e.bytes (term e.expr)
seen_by seens.Miss = found.Miss
seen_by seens.Failed = found.Failed

-- the digest of a recorded look, and what was seen under it
abbrev pub look_of : Look → Digest × found.Seen
look_of l = (l.digest, seen_by l.look)

-- the limit that an outcome is
abbrev pub why_of : Option program.Outcome → Why
why_of (Some (variants.Bad b)) = b.why
why_of (Some (variants.Good v o)) = whys.TooMany
why_of None = whys.TooMany

-- the key of this number, and the limit that its outcome is
abbrev pub limit_of : List Entrant → ℕ → Key × Why
limit_of ks n = (key_named ks n, why_of (slice_index_or ks n nobody).outcome)

-- the key of this number, with its outcome
abbrev pub outcome_of_number : List Entrant → ℕ → Key × Outcome
outcome_of_number ks n = (key_named ks n, outcome_named ks n)
