use Rattle.std.proofs.Common.{◌≡◌, drop}
use Rattle.dh_syntax.specs.Expressions.Bridge.{row_of}
use Rattle.dh_demand.specs.Headways.{are_straight}
use Rattle.dh_demand.proofs.headways.+straight.Given as goal

abbrev pub invariant-are_straight-loop-kid : goal.invariant-are_straight-loop-kid
invariant-are_straight-loop-kid l = are_straight (row_of (drop l.kid-index l.kid-items)) ≡ are_straight (row_of l.kid-items)
