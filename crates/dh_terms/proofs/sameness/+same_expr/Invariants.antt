use Rattle.std.proofs.Common.{◌≡◌, drop}
use Rattle.dh_syntax.specs.Expressions.Bridge.{row_of}
use Rattle.dh_syntax.specs.Expressions.SameTree.{row_eq}
use Rattle.dh_terms.proofs.sameness.+same_expr.Given as goal

abbrev pub invariant-are_same_kids-loop-i : goal.invariant-are_same_kids-loop-i
invariant-are_same_kids-loop-i l = row_eq (row_of (drop l.i l.kids)) (row_of (drop l.i l.others)) ≡ row_eq (row_of l.kids) (row_of l.others)
