-- The orders that are read, as those of the definition.
use Rattle.std.specs.Prelude.{List, map}
use Rattle.dh_syntax.specs.declared.locations.Loc.{Loc}
use Rattle.dh_watch_laws.specs.ScriptLines as scripts
use Rattle.dh_script.specs.declared.orders.Order.{Order}
use Rattle.dh_script.specs.declared.orders.Order.TheVariants as orders
use Rattle.dh_script.specs.Locations.{IsPlace}

-- an order of the definition
abbrev pub order_of : Order → scripts.Order
order_of (orders.Set l bytes) = scripts.Set l bytes
order_of (orders.Drop l) = scripts.Drop l
order_of (orders.Ask l) = scripts.Ask l

-- the orders of the definition, one for each order that was read
abbrev pub orders_of : List Order → List scripts.Order
orders_of os = map order_of os

-- the location that an order sets, drops or asks for
abbrev pub location_of : Order → Loc
location_of (orders.Set l bytes) = l
location_of (orders.Drop l) = l
location_of (orders.Ask l) = l

-- its location is one that a watcher may be asked for
abbrev pub IsFit : Order → Type 0
IsFit o = IsPlace (location_of o)
