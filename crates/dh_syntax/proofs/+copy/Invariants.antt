use Rattle.std.proofs.Common.{◌≡◌, take}
use Rattle.dh_syntax.proofs.+copy.Given as goal

abbrev pub invariant-copies::copy_kids-loop-kid : goal.invariant-copies::copy_kids-loop-kid
invariant-copies::copy_kids-loop-kid l = l.done ≡ take l.kid-index l.kid-items
