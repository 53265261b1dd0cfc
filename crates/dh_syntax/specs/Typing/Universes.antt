-- The universes Type, Kind and Sort (the standard's "Function check"; what the universe of a record type or a union is
-- is this project's own).
use Rattle.std.specs.Prelude.{ℕ, Bool, true, false, List, [], ◌∷◌, Option, Some, None, if◌then◌else◌}
use Rattle.dh_syntax.specs.declared.expressions.Op.TheVariants as ops
use Rattle.dh_syntax.specs.declared.operators.Builtin.{Builtin}
use Rattle.dh_syntax.specs.declared.operators.Builtin.TheVariants as builtins
use Rattle.dh_syntax.specs.Expressions.Numbers.{lt}
use Rattle.dh_syntax.specs.Expressions.Tree.{Tree, Node}

-- the built-in, if it is a universe
abbrev pub universe_named : Builtin → Option Builtin
universe_named builtins.TypeConst = Some builtins.TypeConst
universe_named builtins.Kind = Some builtins.Kind
universe_named builtins.Sort = Some builtins.Sort
universe_named _ = None

-- the universe that an expression is
abbrev pub as_universe : {A B : Type 0} → Tree A B → Option Builtin
as_universe (Node (ops.Builtin b) r) = universe_named b
as_universe _ = None

-- whether this is the universe Type
abbrev pub is_type : Option Builtin → Bool
is_type (Some builtins.TypeConst) = true
is_type _ = false

-- Type is below Kind, and Kind below Sort
abbrev pub rank : Builtin → ℕ
rank builtins.Kind = 1
rank builtins.Sort = 2
rank _ = 0

-- the greater of two universes
abbrev pub greater : Builtin → Builtin → Builtin
greater c d = if lt (rank c) (rank d) then d else c

-- the greatest of these universes, Type where there is none
abbrev pub greatest : List Builtin → Builtin
greatest [] = builtins.TypeConst
greatest (c ∷ cs) = greater c (greatest cs)

-- the universe of `∀(x : a) → b` where a is in the first universe and b in the second
abbrev pub function_check : Builtin → Builtin → Builtin
function_check c builtins.TypeConst = builtins.TypeConst
function_check c d = greater c d
