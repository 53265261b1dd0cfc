use Rattle.std.proofs.Common.{IsTrue, drop}
use Rattle.dh_syntax.specs.Expressions.Bridge.{row_of}
use Rattle.dh_syntax.specs.Expressions.Values.{every_part, op_in_range, op_has_text}
use Rattle.dh_syntax.proofs.values.+values.Given as goal

abbrev pub invariant-assure_parts-loop-kid : goal.invariant-assure_parts-loop-kid
invariant-assure_parts-loop-kid l =
    record {
      range : IsTrue (every_part op_in_range (row_of (drop l.kid-index l.kid-items))) → IsTrue (every_part op_in_range (row_of l.kid-items));
      text : IsTrue (every_part op_has_text (row_of (drop l.kid-index l.kid-items))) → IsTrue (every_part op_has_text (row_of l.kid-items));
    }
