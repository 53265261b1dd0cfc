-- What a walk does next, by the numbers of keys.
use Rattle.std.specs.Prelude.{◌≡◌, ◌<◌, List, length, Option, Some}
use Rattle.dh_syntax.specs.declared.locations.Key.{Key}
use Rattle.dh_syntax.specs.declared.locations.Loc.{Loc}
use Rattle.dh_syntax.specs.Expressions.Tree.{Term}
use Rattle.dh_imports.specs.Walk.{Walked, Ready, Fails, Turns, Needs, walk_key}
use Rattle.dh_demand.specs.declared.scans.Edge.{Edge}
use Rattle.dh_demand.specs.declared.ends.Next.{Next}
use Rattle.dh_demand.specs.declared.ends.Next.TheVariants as next
use Rattle.dh_demand.specs.Results.{Row, number_of, ask_of}
use Rattle.dh_demand.specs.Scans.{text_key, IsEdge}

-- the edge is that of an import which comes to this, in a text at this location
pub record ComesTo (parent : Option Loc) (rows : List Row) (e : Edge) (w : Walked Term) : Type 0 where
  pub key : Key
  pub edge : IsEdge parent rows key e
  pub comes : walk_key (text_key parent) (ask_of rows) key ≡ w

-- What comes next of a walk in a text at this location: nothing where it is ready, the number of the key that it needs,
-- or the import that decides it.
abbrev pub IsNext : {X : Type 0} → Option Loc → List Row → Walked X → Next → Type 0
IsNext parent rows (Ready x) next.Ready = Unit {0}
IsNext parent rows (Needs k) (next.Need n) = number_of rows k ≡ Some n
IsNext parent rows (Fails b) (next.Fault e) = ComesTo parent rows e (Fails b)
IsNext parent rows (Turns j) (next.Fault e) = ComesTo parent rows e (Turns j)
IsNext parent rows _ _ = ⊥

-- the import that decides has the number of a key
abbrev pub IsInside : List Row → Next → Type 0
IsInside rows next.Ready = Unit {0}
IsInside rows (next.Need n) = n < length rows
IsInside rows (next.Fault e) = e.key < length rows
