use Rattle.std.proofs.Common.{◌≡◌, drop}
use Rattle.dh_syntax.specs.Expressions.Bridge.{row_of}
use Rattle.dh_demand.specs.Scans.{imports_of_parts}
use Rattle.dh_demand.proofs.skips.+skip.Given as goal

abbrev pub invariant-skip_kids-loop-kid : goal.invariant-skip_kids-loop-kid
invariant-skip_kids-loop-kid l = drop (imports_of_parts (row_of (drop l.kid-index l.kid-items))) l.rest ≡ drop (imports_of_parts (row_of l.kid-items)) l.edges
