-- What a table keeps: the keys that a ready root visits, and of the fresh ones the least of each digest.
use Rattle.std.specs.Prelude.{◌≡◌, ◌↔◌, ◌<◌, ◌≤◌, ℕ, Bool, true, List, [], ◌∷◌, All, length, map, slice_index_or, Some, None}
use Rattle.dh_syntax.specs.declared.expressions.Expr.{Expr}
use Rattle.dh_syntax.specs.declared.locations.Digest.{Digest}
use Rattle.dh_syntax.specs.declared.locations.Key.{Key}
use Rattle.dh_imports.specs.declared.outcomes.Origin.{Origin}
use Rattle.dh_imports.specs.declared.outcomes.Outcome.TheVariants as variants
use Rattle.dh_syntax.specs.Bytes.Binary.{enc}
use Rattle.dh_syntax.specs.Expressions.Bridge.{term}
use Rattle.dh_syntax.specs.Expressions.Order.{ascending}
use Rattle.dh_syntax.specs.Expressions.Tree.{Term}
use Rattle.dh_imports.specs.Keeps.{Visited, asked_by, digests_of, HasNoEntry}
use Rattle.dh_syntax.specs.Imports.Keys.{digest_rank, key_le}
use Rattle.dh_imports.specs.Machine.{IsAmong}
use Rattle.dh_imports.specs.Records.{Record}
use Rattle.dh_imports.specs.Resolver.{plan}
use Rattle.dh_imports.specs.Walk.{course}
use Rattle.dh_syntax.specs.Limits.{most_entry_bytes}
use Rattle.dh_syntax.specs.Names.Alpha.{alpha}
use Rattle.dh_demand.specs.Results.{ask_of}
use Rattle.dh_record.specs.declared.rows.recorded.Entrant.{Entrant}
use Rattle.dh_record.specs.declared.rows.recorded.Look.{Look}
use Rattle.dh_record.specs.Reading.{record_by}
use Rattle.dh_record.specs.Marks.{is_set, IsMarked}
use Rattle.dh_record.specs.Sorting.{Rank, Ascends}
use Rattle.dh_record.specs.Rows.{key_named, nobody, rows_of}

-- ---- visited keys

-- what is known of the marks of visited keys, and of those whose own asked keys are marked
pub record AreVisiting (r : Record) (root : Term) (keys : List Entrant) (marks seen : List Bool) : Type 0 where
  pub by_root : (k : Key) → IsAmong k (course None (ask_of (rows_of keys)) root).asked → IsMarked keys marks k
  pub sound : (n : ℕ) → is_set marks n ≡ true → (n < length keys) × Visited r (ask_of (rows_of keys)) root (key_named keys n)
  pub closed : (n : ℕ) → is_set seen n ≡ true → (j : Key) → IsAmong j (asked_by (ask_of (rows_of keys)) (key_named keys n) (plan r (key_named keys n))) → IsMarked keys marks j

-- the marked keys are those that are visited
pub record AreVisited (r : Record) (root : Term) (keys : List Entrant) (marks : List Bool) : Type 0 where
  pub sound : (n : ℕ) → is_set marks n ≡ true → (n < length keys) × Visited r (ask_of (rows_of keys)) root (key_named keys n)
  pub complete : (k : Key) → Visited r (ask_of (rows_of keys)) root k → IsMarked keys marks k

-- ---- fresh keys

-- the key of this number is visited, has this digest and a value, and no good entry was found under the digest
pub record IsFreshAt (keys : List Entrant) (looks : List Look) (marks : List Bool) (n : ℕ) (d : Digest) : Type 0 where
  pub marked : is_set marks n ≡ true
  pub frozen : (key_named keys n).digest ≡ Some d
  pub value : Expr
  pub origin : Origin
  pub valued : (slice_index_or keys n nobody).outcome ≡ Some (variants.Good value origin)
  pub unseen : HasNoEntry (record_by [] looks) d

-- an entrant by the digest of its key
abbrev pub digest_of_entrant : Entrant → Rank
digest_of_entrant e = digest_rank e.key.digest ∷ []

-- of the fresh keys among the first so many the least of each digest, by ascending digest
pub record AreLeast (keys : List Entrant) (looks : List Look) (marks : List Bool) (count : ℕ) (found : List ℕ) : Type 0 where
  pub inside : All (λ (n : ℕ). n < length keys) found
  pub ascends : Ascends (map digest_of_entrant keys) found
  pub fresh : All (λ (n : ℕ). (d : Digest) × IsFreshAt keys looks marks n d) found
  pub least : (m : ℕ) (d : Digest) → m < count → IsFreshAt keys looks marks m d → (n : ℕ) × IsAmong n found × ((key_named keys n).digest ≡ Some d) × (key_le (key_named keys n) (key_named keys m) ≡ true)

-- ---- entries

-- the entry of the key of this number
pub record IsEntryAt (keys : List Entrant) (n : ℕ) (p : Digest × List ℕ) : Type 0 where
  pub frozen : (key_named keys n).digest ≡ Some p.0
  pub value : Expr
  pub origin : Origin
  pub valued : (slice_index_or keys n nobody).outcome ≡ Some (variants.Good value origin)
  pub bytes_are : p.1 ≡ enc (alpha (term value))
  pub small : length p.1 ≤ most_entry_bytes

-- the entries of these numbers that are small enough
pub record AreEntries (keys : List Entrant) (found : List ℕ) (kept : List (Digest × List ℕ)) : Type 0 where
  pub sorted : ascending (digests_of kept) ≡ true
  pub members : (p : Digest × List ℕ) → IsAmong p kept ↔ ((n : ℕ) × IsAmong n found × IsEntryAt keys n p)
