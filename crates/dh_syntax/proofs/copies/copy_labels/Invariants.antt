use Rattle.std.proofs.Common.{◌≡◌, take}
use Rattle.dh_syntax.proofs.copies.copy_labels.Given as goal

abbrev pub invariant-loop-label : goal.invariant-loop-label
invariant-loop-label l = l.done ≡ take l.label-index l.label-items
