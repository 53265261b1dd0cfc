use Rattle.std.proofs.Common.{◌≡◌, drop}
use Rattle.dh_terms.specs.Cores.{nameless_row}
use Rattle.dh_work.specs.Inside.Frees.{has_free_row}
use Rattle.dh_work.proofs.closed.+free.Given as goal

abbrev pub invariant-has_free_in-loop-kid : goal.invariant-has_free_in-loop-kid
invariant-has_free_in-loop-kid l = has_free_row (nameless_row (drop l.kid-index l.kid-items)) ≡ has_free_row (nameless_row l.kid-items)
