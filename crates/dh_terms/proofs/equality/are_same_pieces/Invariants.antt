use Rattle.std.proofs.Common.{◌≡◌, drop}
use Rattle.dh_syntax.specs.Expressions.Numbers.{bytes_eq}
use Rattle.dh_syntax.specs.Expressions.SameTree.{list_eq}
use Rattle.dh_terms.proofs.equality.are_same_pieces.Given as goal

abbrev pub invariant-loop-i : goal.invariant-loop-i
invariant-loop-i l = list_eq bytes_eq (drop l.i l.ps) (drop l.i l.qs) ≡ list_eq bytes_eq l.ps l.qs
