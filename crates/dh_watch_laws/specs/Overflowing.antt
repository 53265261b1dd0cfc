-- Asks that visit too many keys.
use Rattle.std.specs.Prelude.{◌≡◌, ◌<◌, ◌+◌, ℕ, [], Some}
use Rattle.dh_syntax.specs.declared.locations.Digest.{Digest}
use Rattle.dh_syntax.specs.declared.locations.Key.{Key}
use Rattle.dh_syntax.specs.declared.locations.Loc.{Loc}
use Rattle.dh_syntax.specs.Limits.{most_keys}
use Rattle.dh_imports.specs.Outcomes.{Outcome}
use Rattle.dh_imports.specs.Records.{Record, Noted, Seen, text_at, look_at, limit_at}
use Rattle.dh_imports.specs.Resolver.{resolve, Resolves}
use Rattle.dh_watch_laws.specs.Contents.{Now, IsOver}
use Rattle.dh_watch_laws.specs.Counting.{AreVisited, Many}
use Rattle.dh_watch_laws.specs.Kept.{Kept, IsSound}

-- the second record has what the first one has, and no other limit of a key that this decides
pub record Continues (r more : Record) : Type 0 where
  pub texts : (l : Loc) (t : Noted) → text_at r l ≡ Some t → text_at more l ≡ Some t
  pub looks : (d : Digest) (s : Seen) → look_at r d ≡ Some s → look_at more d ≡ Some s
  pub limits : (k : Key) (o : Outcome) → Resolves r k o → limit_at r k ≡ limit_at more k

-- Over these contents the resolver visits too many keys from the root: over some record of them, and over each that continues it, with so
-- much to spend or more.
pub record Overflows (now : Now) (root : Key) : Type 0 where
  pub recorded : Record
  pub over : IsOver now recorded
  pub many : (more : Record) → Continues recorded more
      → (enough : ℕ) × ((extra n : ℕ) → AreVisited more (resolve more (extra + enough) []) root n → most_keys < n)

-- So it is where a run visits so many different keys.
abbrev pub ManyOverflow : Type 0
ManyOverflow = (now : Now) (s : Kept) (root : Key) (n : ℕ) → IsSound s → IsOver now s.recorded → Many s root n → most_keys < n → Overflows now root
