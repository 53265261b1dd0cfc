use Rattle.std.proofs.Common.{◌≡◌, drop}
use Rattle.dh_syntax.specs.Expressions.Arity.{alt_labels}
use Rattle.dh_syntax.specs.Expressions.Numbers.{bytes_eq}
use Rattle.dh_syntax.specs.Expressions.SameTree.{list_eq}
use Rattle.dh_typerows.proofs.labels.are_labels.Given as goal

abbrev pub invariant-loop-i : goal.invariant-loop-i
invariant-loop-i l = list_eq bytes_eq (drop l.i l.labels) (alt_labels (drop l.i l.alts)) ≡ list_eq bytes_eq l.labels (alt_labels l.alts)
