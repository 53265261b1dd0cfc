use Rattle.std.proofs.Common.{◌≡◌, drop}
use Rattle.dh_syntax.specs.Expressions.SameTree.{list_eq, alt_eq}
use Rattle.dh_terms.proofs.equality.are_same_alts.Given as goal

abbrev pub invariant-loop-i : goal.invariant-loop-i
invariant-loop-i l = list_eq alt_eq (drop l.i l.xs) (drop l.i l.ys) ≡ list_eq alt_eq l.xs l.ys
