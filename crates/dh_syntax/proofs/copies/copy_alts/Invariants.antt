use Rattle.std.proofs.Common.{◌≡◌, take}
use Rattle.dh_syntax.proofs.copies.copy_alts.Given as goal

abbrev pub invariant-loop-alt : goal.invariant-loop-alt
invariant-loop-alt l = l.done ≡ take l.alt-index l.alt-items
