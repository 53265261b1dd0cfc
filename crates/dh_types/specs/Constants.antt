-- What is seen of a type at its head.
use Rattle.std.specs.Prelude.{Option, Some, None}
use Rattle.dh_syntax.specs.declared.expressions.Op.TheVariants as ops
use Rattle.dh_syntax.specs.declared.operators.Builtin.{Builtin}
use Rattle.dh_syntax.specs.Expressions.Tree.{Tree, Node}

-- a built-in
abbrev pub as_builtin : {A B : Type 0} → Tree A B → Option Builtin
as_builtin (Node (ops.Builtin b) r) = Some b
as_builtin _ = None
