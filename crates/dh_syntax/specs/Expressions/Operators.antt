-- The codes of operators and the names of built-ins (the standard's "Binary encoding"; `dhall.abnf`, "builtin").
use Rattle.std.specs.Prelude.{ℕ, List, codes}
use Rattle.dh_syntax.specs.declared.operators.BinOp.{BinOp}
use Rattle.dh_syntax.specs.declared.operators.BinOp.TheVariants as op
use Rattle.dh_syntax.specs.declared.operators.Builtin.{Builtin}
use Rattle.dh_syntax.specs.declared.operators.Builtin.TheVariants as builtin

-- the code of an operator in the binary form
abbrev pub op_code : BinOp → ℕ
op_code op.Or = 0
op_code op.And = 1
op_code op.Equal = 2
op_code op.NotEqual = 3
op_code op.Plus = 4
op_code op.Times = 5
op_code op.TextAppend = 6
op_code op.ListAppend = 7
op_code op.Combine = 8
op_code op.Prefer = 9
op_code op.CombineTypes = 10
op_code op.Fallback = 11
op_code op.Equivalent = 12
op_code op.Complete = 13

-- the name of a built-in
abbrev pub builtin_name : Builtin → List ℕ
builtin_name builtin.TypeConst = codes "Type"
builtin_name builtin.Kind = codes "Kind"
builtin_name builtin.Sort = codes "Sort"
builtin_name builtin.Bool = codes "Bool"
builtin_name builtin.Natural = codes "Natural"
builtin_name builtin.Integer = codes "Integer"
builtin_name builtin.Text = codes "Text"
builtin_name builtin.List = codes "List"
builtin_name builtin.Optional = codes "Optional"
builtin_name builtin.None = codes "None"
builtin_name builtin.NaturalFold = codes "Natural/fold"
builtin_name builtin.NaturalBuild = codes "Natural/build"
builtin_name builtin.NaturalIsZero = codes "Natural/isZero"
builtin_name builtin.NaturalEven = codes "Natural/even"
builtin_name builtin.NaturalOdd = codes "Natural/odd"
builtin_name builtin.NaturalToInteger = codes "Natural/toInteger"
builtin_name builtin.NaturalShow = codes "Natural/show"
builtin_name builtin.NaturalSubtract = codes "Natural/subtract"
builtin_name builtin.IntegerShow = codes "Integer/show"
builtin_name builtin.IntegerNegate = codes "Integer/negate"
builtin_name builtin.IntegerClamp = codes "Integer/clamp"
builtin_name builtin.ListBuild = codes "List/build"
builtin_name builtin.ListFold = codes "List/fold"
builtin_name builtin.ListLength = codes "List/length"
builtin_name builtin.ListHead = codes "List/head"
builtin_name builtin.ListLast = codes "List/last"
builtin_name builtin.ListIndexed = codes "List/indexed"
builtin_name builtin.ListReverse = codes "List/reverse"
builtin_name builtin.TextShow = codes "Text/show"
builtin_name builtin.TextReplace = codes "Text/replace"
