-- The group of rules on records, record types, unions, selection, projection, the operators on records, `merge`, `toMap` and `with`.
use Rattle.std.specs.Prelude.{◌≡◌, ℕ, Bool, true, false, length, IsTrue}
use Rattle.dh_syntax.specs.declared.expressions.Op.{Op}
use Rattle.dh_syntax.specs.declared.expressions.Op.TheVariants as ops
use Rattle.dh_syntax.specs.declared.operators.BinOp.TheVariants as bins
use Rattle.dh_syntax.specs.Expressions.Order.{ascending}

-- whether a node of this group joins record types or sets a path
abbrev pub is_making : Op → Bool
is_making (ops.Bin bins.Combine) = true
is_making (ops.Bin bins.CombineTypes) = true
is_making (ops.With path) = true
is_making op = false

-- the labels of a record and of a projection ascend, and a record has as many types as labels
abbrev pub IsLabelled : Op → ℕ → Type 0
IsLabelled (ops.Record xs) n = IsTrue (ascending xs) × (length xs ≡ n)
IsLabelled (ops.Project xs) n = IsTrue (ascending xs)
IsLabelled op n = Unit {0}

-- whether the type of a node of this group may have labels of its own
abbrev pub is_named_op : Op → Bool
is_named_op (ops.Record xs) = true
is_named_op (ops.Field x) = true
is_named_op (ops.Project xs) = true
is_named_op (ops.Bin bins.Prefer) = true
is_named_op op = false
