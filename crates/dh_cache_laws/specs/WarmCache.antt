-- A run with a cache that was honestly written, and one without a cache.
use Rattle.std.specs.Prelude.{◌≡◌, ◌⊎◌, true, Option, None, Some, List, [], ℕ}
use Rattle.dh_syntax.specs.declared.locations.Digest.{Digest}
use Rattle.dh_syntax.specs.declared.locations.Key.{Key}
use Rattle.dh_syntax.specs.declared.locations.Loc.{Loc}
use Rattle.dh_imports.specs.declared.outcomes.Blame.{Blame}
use Rattle.dh_imports.specs.declared.outcomes.Origin.{Origin}
use Rattle.dh_imports.specs.declared.outcomes.Origin.TheVariants.{Cached}
use Rattle.dh_imports.specs.declared.outcomes.Why.{Why}
use Rattle.dh_command.specs.declared.statuses.Status.TheVariants as status
use Rattle.dh_syntax.specs.Expressions.Tree.{Term}
use Rattle.dh_command.specs.Statuses.{why_status}
use Rattle.dh_syntax.specs.Expressions.Arity.{IsWellFormed}
use Rattle.dh_imports.specs.Freezing.{digests_behind}
use Rattle.dh_imports.specs.Readings.{AreOutcomes}
use Rattle.dh_imports.specs.Keeps.{Visited, HasNoEntry}
use Rattle.dh_imports.specs.Outcomes.{Outcome, Good, Bad, Loop, may_go_on}
use Rattle.dh_imports.specs.Records as found
use Rattle.dh_imports.specs.Records.{Record, Noted, Seen, text_at, look_at, limit_at, IsGood}
use Rattle.dh_imports.specs.Replay.{RootEnd, ready, bad}
use Rattle.dh_imports.specs.Resolver.{resolve, Resolves, ResolvesRoot}
use Rattle.dh_imports.specs.RootEnds.{AreFew, EndsBy}
use Rattle.dh_imports.specs.Walk.{Ask, Ready, Fails, walk}
use Rattle.dh_syntax.specs.Names.Alpha.{IsSame}
use Rattle.dh_import_laws.specs.ImportLaws.{IsDecided}
use Rattle.dh_imports.specs.HonestCache.{AreHonest}

-- a value is from where it was, or from the cache
abbrev pub IsOriginKept : Origin → Origin → Type 0
IsOriginKept o p = (p ≡ o) ⊎ (p ≡ Cached)

-- a limit, which a run may name
abbrev pub IsLimit : Blame → Type 0
IsLimit b = why_status b.why ≡ status.Limit

-- the outcome is a limit, which a run may name
abbrev pub IsLimited : Outcome → Type 0
IsLimited (Good v o) = ⊥
IsLimited (Bad b) = IsLimit b
IsLimited (Loop j) = ⊥

-- the second outcome is this value but for the names of binders
abbrev pub IsSameValue : Term → Origin → Outcome → Type 0
IsSameValue v o p = (w : Term) × (c : Origin) × (p ≡ Good w c) × IsSame v w × IsOriginKept o c

-- The second outcome is the first one but for the names of binders in its value, which may come of the cache, or it is a limit. A fault
-- after which a run goes on is the same fault; of any other fault, and of a loop, nothing is said.
abbrev pub IsSameOutcome : Outcome → Outcome → Type 0
IsSameOutcome (Good v o) p = IsSameValue v o p ⊎ IsLimited p
IsSameOutcome (Bad b) p = may_go_on b.why ≡ true → (p ≡ Bad b) ⊎ IsLimited p
IsSameOutcome (Loop j) p = Unit {0}

-- so it is where both are known
abbrev pub AreSameOutcomes : Option Outcome → Option Outcome → Type 0
AreSameOutcomes None p = Unit {0}
AreSameOutcomes (Some o) None = Unit {0}
AreSameOutcomes (Some o) (Some p) = IsSameOutcome o p

-- The records say the same of a location where both say something. What they have for a limit is one.
pub record AgreesWith (r plain : Record) : Type 0 where
  pub texts : (l : Loc) (t u : Noted) → text_at plain l ≡ Some t → text_at r l ≡ Some u → u ≡ t
  pub limits : (k : Key) (w : Why) → limit_at r k ≡ Some w → why_status w ≡ status.Limit
  pub plain_limits : (k : Key) (w : Why) → limit_at plain k ≡ Some w → why_status w ≡ status.Limit

-- The good entries that a run asks are, but for the names of binders, what the resolver gives over a record without good entries.
pub record AreSameEntries (r : Record) (ask : Ask) (root : Term) (plain : Record) : Type 0 where
  pub none_good : (d : Digest) → HasNoEntry plain d
  pub same : (k : Key) (d : Digest) (bytes : List ℕ) (e : Term)
      → Visited r ask root k → k.digest ≡ Some d → look_at r d ≡ Some (found.Good bytes e)
      → (v : Term) × (origin : Origin) × Resolves plain k (Good v origin) × IsSame v e

-- With so much to spend the resolver decides the root of the run, and the good entries that the run asks by then are what it gives
-- without them.
pub record IsWarm (r : Record) (root : Term) (plain : Record) : Type 0 where
  pub agree : AgreesWith r plain
  pub spend : ℕ
  pub decided : IsDecided (walk None (resolve r spend []) root)
  pub entries : AreSameEntries r (resolve r spend []) root plain

-- Where the entries are honest, they are so.
abbrev pub HonestEntries : Type 0
HonestEntries = (r : Record) (ask : Ask) (root : Term) (plain : Record) → AreHonest r ask root plain → AreSameEntries r ask root plain

-- ---- the laws

-- Each key that the run visits has the outcome that it has without the cache, but for the names of binders in its value, which may come of
-- the cache.
abbrev pub WarmKeys : Type 0
WarmKeys =
    (r plain : Record) (root : Term) (w : IsWarm r root plain) (k : Key) (o p : Outcome) → Visited r (resolve r w.spend []) root k
    → Resolves plain k o → resolve r w.spend [] k ≡ Some p → IsSameOutcome o p

-- Where the root is ready without the cache, it is ready with it, with the same value but for the names of binders, or it fails by a limit.
abbrev pub WarmRoot : Type 0
WarmRoot =
    (r plain : Record) (root v : Term) → IsWarm r root plain → ResolvesRoot plain root (Ready v)
    → ((w : Term) × ResolvesRoot r root (Ready w) × IsSame v w) ⊎ ((b : Blame) × ResolvesRoot r root (Fails b) × IsLimit b)

-- So however the run's root ends.
abbrev pub WarmEnd : Type 0
WarmEnd =
    (r plain : Record) (root v : Term) (end : RootEnd) → IsWarm r root plain → AreFew r root → EndsBy plain root (ready v) → EndsBy r root end
    → ((w : Term) × (end ≡ ready w) × IsSame v w) ⊎ ((b : Blame) × (end ≡ bad b) × IsLimit b)

-- The same digests are written behind the imports of the root.
abbrev pub WarmDigests : Type 0
WarmDigests =
    (r plain : Record) (root v : Term) (ask plain_ask : Ask) → IsWarm r root plain → IsWellFormed root → ResolvesRoot plain root (Ready v)
    → (z : Term) → ResolvesRoot r root (Ready z) → AreOutcomes r ask → AreOutcomes plain plain_ask → (x u : Term) → walk None plain_ask root ≡ Ready x → walk None ask root ≡ Ready u
    → digests_behind plain_ask true root ≡ digests_behind ask true root
