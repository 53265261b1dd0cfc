use Rattle.std.proofs.Common.{◌↔◌, drop}
use Rattle.dh_syntax.specs.Expressions.Bridge.{row_of}
use Rattle.dh_syntax.specs.Expressions.Arity.{AreWellFormed}
use Rattle.dh_syntax.proofs.shapes.+well_formed.Given as goal

abbrev pub invariant-are_well_formed-loop-kid : goal.invariant-are_well_formed-loop-kid
invariant-are_well_formed-loop-kid l = AreWellFormed (row_of (drop l.kid-index l.kid-items)) ↔ AreWellFormed (row_of l.kid-items)
