-- The keys that a resolver visits on its way from the root, and the cache entries that a run keeps.
use Rattle.std.specs.Prelude.{◌≡◌, ◌↔◌, ℕ, ◌≤◌, true, List, [], ◌∷◌, length, Some, None}
use Rattle.dh_syntax.specs.declared.locations.Digest.{Digest}
use Rattle.dh_syntax.specs.declared.locations.Key.{Key}
use Rattle.dh_syntax.specs.Names.Alpha.{alpha}
use Rattle.dh_syntax.specs.Bytes.Binary.{enc}
use Rattle.dh_syntax.specs.Expressions.Order.{ascending}
use Rattle.dh_syntax.specs.Expressions.Tree.{Term}
use Rattle.dh_syntax.specs.Imports.Keys.{key_le}
use Rattle.dh_imports.specs.Machine.{IsAmong}
use Rattle.dh_imports.specs.declared.outcomes.Origin.{Origin}
use Rattle.dh_imports.specs.Outcomes.{Good}
use Rattle.dh_imports.specs.Records as found
use Rattle.dh_imports.specs.Records.{Record, Seen, look_at}
use Rattle.dh_imports.specs.Resolver.{Plan, Unknown, Now, Walks, Asks, plan, resolve}
use Rattle.dh_syntax.specs.Limits.{most_entry_bytes}
use Rattle.dh_imports.specs.Walk.{Ask, Ready, course, walk}

-- the keys that a key asks, by the outcomes that are known
abbrev pub asked_by : Ask → Key → Plan → List Key
asked_by ask k (Unknown p) = []
asked_by ask k (Now i) = []
asked_by ask k (Walks e allow) = (course (Some k) ask e).asked
asked_by ask k (Asks j) = j ∷ []

-- the keys that are asked on the way from the root, by the outcomes that are known
pub data Visited (r : Record) (ask : Ask) (root : Term) : Key → Type 0 where
  by_root : {k : Key} → IsAmong k (course None ask root).asked → Visited r ask root k
  by_key : {j k : Key} → Visited r ask root j → IsAmong k (asked_by ask j (plan r j)) → Visited r ask root k

-- the resolver knows these outcomes, and by them the root is ready
abbrev pub IsReadyBy : Record → Term → Ask → Type 0
IsReadyBy r root ask = (n : ℕ) × (v : Term) × (ask ≡ resolve r n []) × (walk None ask root ≡ Ready v)

-- a look that is no good entry
abbrev pub HasNoEntry : Record → Digest → Type 0
HasNoEntry r d = (bytes : List ℕ) (e : Term) → ¬ (look_at r d ≡ Some (found.Good bytes e))

-- a frozen key that is visited, of this value, whose look is no good entry
pub record IsFresh (r : Record) (ask : Ask) (root : Term) (d : Digest) (k : Key) (v : Term) : Type 0 where
  pub visited : Visited r ask root k
  pub frozen : k.digest ≡ Some d
  pub origin : Origin
  pub valued : ask k ≡ Some (Good v origin)
  pub unseen : HasNoEntry r d

-- the same for the least key with this digest
pub record IsLeastFresh (r : Record) (ask : Ask) (root : Term) (d : Digest) (v : Term) : Type 0 where
  pub key : Key
  pub fresh : IsFresh r ask root d key v
  pub least : (k : Key) (w : Term) → IsFresh r ask root d k w → key_le key k ≡ true

-- the digest is kept with these bytes
pub record IsKept (r : Record) (ask : Ask) (root : Term) (p : Digest × List ℕ) : Type 0 where
  pub value : Term
  pub least : IsLeastFresh r ask root p.0 value
  pub bytes : p.1 ≡ enc (alpha value)
  pub small : length p.1 ≤ most_entry_bytes

-- the bytes of the digests of cache entries
abbrev pub digests_of : List (Digest × List ℕ) → List (List ℕ)
digests_of [] = []
digests_of (p ∷ ps) = (p.0).0 ∷ digests_of ps

-- what a run whose root is ready keeps: by ascending digest, each digest once
pub record AreKeeps (r : Record) (ask : Ask) (root : Term) (kept : List (Digest × List ℕ)) : Type 0 where
  pub ready : IsReadyBy r root ask
  pub sorted : ascending (digests_of kept) ≡ true
  pub members : (p : Digest × List ℕ) → IsAmong p kept ↔ IsKept r ask root p
