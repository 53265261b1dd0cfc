use Rattle.std.proofs.Common.{◌≡◌, take}
use Rattle.dh_typerows.specs.Fields.{ids}
use Rattle.dh_typerows.proofs.preferring.ids_of.Given as goal

abbrev pub invariant-loop-kid : goal.invariant-loop-kid
invariant-loop-kid l = l.codes ≡ ids (take l.kid-index l.kids)
