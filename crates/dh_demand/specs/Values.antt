-- The value of a text whose walk is ready.
use Rattle.std.specs.Prelude.{◌≡◌, List, Option}
use Rattle.dh_syntax.specs.declared.locations.Loc.{Loc}
use Rattle.dh_syntax.specs.Expressions.Tree.{Term}
use Rattle.dh_imports.specs.Walk.{Ready, walk}
use Rattle.dh_demand.specs.declared.scans.Edge.{Edge}
use Rattle.dh_demand.specs.Results.{Row, ask_of}
use Rattle.dh_demand.specs.Scans.{text_key, Fits}

-- the walk of a text at this location gives this value
pub record IsReady (parent : Option Loc) (rows : List Row) (e : Term) (es : List Edge) (v : Term) : Type 0 where
  pub fits : Fits parent rows e es
  pub ready : walk (text_key parent) (ask_of rows) e ≡ Ready v

-- at some location the walk is ready
abbrev pub IsReadySomewhere : List Row → Term → List Edge → Type 0
IsReadySomewhere rows e es = (parent : Option Loc) × (v : Term) × IsReady parent rows e es v
