-- What was read, both ways: where there is none, the text is none.
use Rattle.std.specs.Prelude.{ℕ, List, Option, Some, None}
use Rattle.dh_syntax.specs.declared.locations.Loc.{Loc}
use Rattle.dh_script.specs.declared.orders.Order.{Order}
use Rattle.dh_script.specs.Orders.{order_of}
use Rattle.dh_watch_laws.specs.ScriptLines.{IsOrder, SpellsLoc}
use Rattle.dh_watch_laws.specs.ScriptLines as scripts

-- the location that a text spells, or that it spells none
abbrev pub IsLocated : List ℕ → Option Loc → Type 0
IsLocated text (Some l) = SpellsLoc text l
IsLocated text None = (l : Loc) → ¬ SpellsLoc text l

-- the order of a line, or that it is none
abbrev pub IsOrderRead : List ℕ → Option Order → Type 0
IsOrderRead line (Some o) = IsOrder line (order_of o)
IsOrderRead line None = (o : scripts.Order) → ¬ IsOrder line o
