-- Laws of locations.
use Rattle.std.specs.Prelude.{◌≡◌, Bool, true, Option, Some, None, IsTrue}
use Rattle.dh_syntax.specs.declared.locations.Loc.{Loc}
use Rattle.dh_syntax.specs.Expressions.Arity.{loc_fits}
use Rattle.dh_syntax.specs.Imports.Locations.{canon, chain}
use Rattle.dh_syntax.specs.Expressions.Spellable.{location_spellable}

-- a canonical location is its own canonical location
abbrev pub CanonicalTwice : Type 0
CanonicalTwice = (l : Loc) → canon (canon l) ≡ canon l

-- a chained location is canonical
abbrev pub ChainedIsCanonical : Type 0
ChainedIsCanonical = (parent : Option Loc) (child : Loc) → canon (chain parent child) ≡ chain parent child

-- a chained location has a component where the child's has
abbrev pub ChainedHasComponents : Type 0
ChainedHasComponents = (parent : Option Loc) (child : Loc) → IsTrue (loc_fits child) → IsTrue (loc_fits (chain parent child))

-- whether the text at which a child stands has a location that can be spelled
abbrev pub parent_spellable : Option Loc → Bool
parent_spellable None = true
parent_spellable (Some parent) = location_spellable parent

-- a chained location can be spelled where parent and child can
abbrev pub ChainedIsSpellable : Type 0
ChainedIsSpellable = (parent : Option Loc) (child : Loc) → IsTrue (parent_spellable parent) → IsTrue (location_spellable child) → IsTrue (location_spellable (chain parent child))
