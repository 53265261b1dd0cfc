use Rattle.std.proofs.Common.{◌≡◌, map, take}
use Rattle.dh_syntax.specs.Imports.Locations.{loc_text}
use Rattle.dh_watch_disk.proofs.words.places_of.Given as goal

abbrev pub invariant-loop-loc : goal.invariant-loop-loc
invariant-loop-loc l = l.places.items ≡ map loc_text (take l.loc-index l.locs)
