-- The level of a node that has its parts, by its operator alone.
use Rattle.std.specs.Prelude.{◌≡◌, ℕ, Bool, true, false}
use Rattle.dh_syntax.specs.declared.expressions.Op.{Op}
use Rattle.dh_syntax.specs.declared.expressions.Op.TheVariants as ops
use Rattle.dh_syntax.specs.Expressions.Levels.{level_of}
use Rattle.dh_syntax.specs.Expressions.Tree.{Row, end, kid, Name, Var}
use Rattle.dh_syntax.specs.Text.Printed.{annotated, at, layout}

-- how tightly a node binds, by its operator alone
abbrev pub level_by_op : Op → ℕ
level_by_op (ops.Builtin b) = 17
level_by_op (ops.Bool b) = 17
level_by_op (ops.Nat n) = 17
level_by_op (ops.Int z) = 17
level_by_op (ops.Text pieces) = 17
level_by_op (ops.Import i) = 15
level_by_op ops.App = 14
level_by_op (ops.Bin o) = level_of o
level_by_op ops.List = 17
level_by_op ops.Some = 14
level_by_op (ops.Merge false) = 14
level_by_op (ops.RecordType xs) = 17
level_by_op (ops.Record xs) = 17
level_by_op (ops.Field x) = 16
level_by_op (ops.Project xs) = 16
level_by_op ops.ProjectType = 16
level_by_op (ops.Union alts) = 17
level_by_op (ops.ToMap false) = 14
level_by_op _ = 0

-- whether a node is a merge or a toMap without annotation
abbrev pub is_bare_op : Op → Bool
is_bare_op (ops.Merge false) = true
is_bare_op (ops.ToMap false) = true
is_bare_op _ = false

-- the first part before an annotation is as it is where this level is needed
abbrev pub IsLevelBeforeAnnotation : ℕ → Row Var Name → Type 0
IsLevelBeforeAnnotation m end = Unit {0}
IsLevelBeforeAnnotation m (kid b e r) = at m (layout e) ≡ annotated (layout e)
