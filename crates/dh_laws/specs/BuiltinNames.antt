-- The names of the built-ins.
use Rattle.std.specs.Prelude.{◌≡◌, Some}
use Rattle.dh_syntax.specs.declared.operators.Builtin.{Builtin}
use Rattle.dh_syntax.specs.Expressions.Builtins.{builtin_of}
use Rattle.dh_syntax.specs.Expressions.Operators.{builtin_name}

-- the name of a built-in stands for it, and so for no other
abbrev pub NamesTell : Type 0
NamesTell = (b : Builtin) → builtin_of (builtin_name b) ≡ Some b
