-- When a cache was honestly written.
use Rattle.std.specs.Prelude.{◌≡◌, List, ℕ, Some}
use Rattle.dh_syntax.specs.declared.locations.Digest.{Digest}
use Rattle.dh_syntax.specs.declared.locations.Key.{Key}
use Rattle.dh_syntax.specs.Names.Alpha.{alpha}
use Rattle.dh_syntax.specs.Bytes.Binary.{enc}
use Rattle.dh_syntax.specs.Expressions.Tree.{Term}
use Rattle.dh_imports.specs.Keeps.{Visited, HasNoEntry}
use Rattle.dh_imports.specs.declared.outcomes.Origin.{Origin}
use Rattle.dh_imports.specs.Outcomes.{Good}
use Rattle.dh_imports.specs.Records as found
use Rattle.dh_imports.specs.Records.{Record, look_at}
use Rattle.dh_imports.specs.Resolver.{Resolves}
use Rattle.dh_imports.specs.Walk.{Ask}

-- The good entries that a run asks are what the resolver gives over a record without good entries: their bytes are those of its α-normal
-- form, and are read as that.
pub record AreHonest (r : Record) (ask : Ask) (root : Term) (plain : Record) : Type 0 where
  pub none_good : (d : Digest) → HasNoEntry plain d
  pub honest : (k : Key) (d : Digest) (bytes : List ℕ) (e : Term)
      → Visited r ask root k → k.digest ≡ Some d → look_at r d ≡ Some (found.Good bytes e)
      → (v : Term) × (origin : Origin) × Resolves plain k (Good v origin) × (enc (alpha v) ≡ bytes) × (alpha v ≡ e)
