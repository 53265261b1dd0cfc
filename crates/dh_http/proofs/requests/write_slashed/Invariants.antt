use Rattle.std.proofs.Common.{◌≡◌, ◌++◌, string_bytes, take}
use Rattle.dh_syntax.specs.Imports.Locations.{slashed}
use Rattle.dh_http.proofs.requests.write_slashed.Given as goal

abbrev pub invariant-loop-comp : goal.invariant-loop-comp
invariant-loop-comp l = string_bytes l.text ≡ string_bytes l.fn.text ++ slashed (take l.comp-index l.comps)
