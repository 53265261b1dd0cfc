use Rattle.std.proofs.Common.{◌≡◌, ◌++◌, map, take}
use Rattle.dh_syntax.specs.Imports.Locations.{url_component}
use Rattle.dh_paths.proofs.chains.push_escaped.Given as goal

abbrev pub invariant-loop-comp : goal.invariant-loop-comp
invariant-loop-comp l = l.path ≡ l.fn.path ++ map url_component (take l.comp-index l.comps)
