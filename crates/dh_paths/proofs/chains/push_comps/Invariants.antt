use Rattle.std.proofs.Common.{◌≡◌, ◌++◌, take}
use Rattle.dh_paths.proofs.chains.push_comps.Given as goal

abbrev pub invariant-loop-comp : goal.invariant-loop-comp
invariant-loop-comp l = l.path ≡ l.fn.path ++ take l.comp-index l.comps
