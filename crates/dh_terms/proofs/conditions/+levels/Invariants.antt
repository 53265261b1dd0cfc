use Rattle.std.proofs.Common.{◌≡◌, ◌≤◌, min, max, drop}
use Rattle.dh_syntax.specs.Expressions.Bridge.{row_of}
use Rattle.dh_syntax.specs.Expressions.Nesting.{parts_nesting}
use Rattle.dh_terms.proofs.conditions.+levels.Given as goal

abbrev pub invariant-levels_of_kids-loop-kid : goal.invariant-levels_of_kids-loop-kid
invariant-levels_of_kids-loop-kid l =
    record {
      fits : l.most ≤ 4294967296;
      whole : min (max l.most (parts_nesting (row_of (drop l.kid-index l.kid-items)))) 4294967296 ≡ min (parts_nesting (row_of l.kid-items)) 4294967296;
    }
