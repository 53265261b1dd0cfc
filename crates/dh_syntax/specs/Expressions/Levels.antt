-- The levels of the grammar: 0 for any expression, 1 to 13 for the operators, 14 for applications, 15 for imports and `::`,
-- 16 for selections, 17 for primitives. What has a higher level binds more tightly.
use Rattle.std.specs.Prelude.{ℕ}
use Rattle.dh_syntax.specs.declared.operators.BinOp.{BinOp}
use Rattle.dh_syntax.specs.declared.operators.BinOp.TheVariants as binary

-- the level of an operator (`equivalent-expression` to `not-equal-expression`, and `completion-expression`)
abbrev pub level_of : BinOp → ℕ
level_of binary.Equivalent = 1
level_of binary.Fallback = 2
level_of binary.Or = 3
level_of binary.Plus = 4
level_of binary.TextAppend = 5
level_of binary.ListAppend = 6
level_of binary.And = 7
level_of binary.Combine = 8
level_of binary.Prefer = 9
level_of binary.CombineTypes = 10
level_of binary.Times = 11
level_of binary.Equal = 12
level_of binary.NotEqual = 13
level_of binary.Complete = 15

-- The least level of its left part: its own, since operators are grouped to the left, but for `::`, which is not grouped.
-- The least level of its right part is one more than its own.
abbrev pub left_level : BinOp → ℕ
left_level binary.Complete = 16
left_level o = level_of o
