use Rattle.std.proofs.Common.{◌↔◌, drop}
use Rattle.dh_syntax.specs.Expressions.Bridge.{row_of}
use Rattle.dh_syntax.specs.Names.Indices.{RowIndicesBelow}
use Rattle.dh_terms.proofs.conditions.+indices.Given as goal

abbrev pub invariant-are_kids_below-loop-kid : goal.invariant-are_kids_below-loop-kid
invariant-are_kids_below-loop-kid l = RowIndicesBelow l.limit (row_of (drop l.kid-index l.kid-items)) ↔ RowIndicesBelow l.limit (row_of l.kid-items)
