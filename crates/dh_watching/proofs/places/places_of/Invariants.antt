use Rattle.std.proofs.Common.{◌≡◌, map, take}
use Rattle.dh_script.specs.Orders.{location_of}
use Rattle.dh_syntax.specs.Imports.Locations.{loc_text}
use Rattle.dh_watching.proofs.places.places_of.Given as goal

abbrev pub invariant-loop-order : goal.invariant-loop-order
invariant-loop-order l = l.places.items ≡ map (λ o. loc_text (location_of o)) (take l.order-index l.orders)
