-- Locations that a watcher may be asked for.
use Rattle.std.specs.Prelude.{◌≡◌, IsTrue}
use Rattle.dh_syntax.specs.declared.locations.Loc.{Loc}
use Rattle.dh_syntax.specs.declared.locations.Loc.TheVariants as locs
use Rattle.dh_syntax.specs.Expressions.Arity.{loc_fits}
use Rattle.dh_syntax.specs.Expressions.Spellable.{location_spellable}
use Rattle.dh_syntax.specs.Imports.Locations.{canon}

-- a canonical location that the grammar can spell, and not `missing`
pub record IsPlace (l : Loc) : Type 0 where
  pub canonical : canon l ≡ l
  pub fits : IsTrue (loc_fits l)
  pub spellable : IsTrue (location_spellable l)
  pub somewhere : ¬ (l ≡ locs.Missing)
