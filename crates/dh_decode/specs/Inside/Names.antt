-- The built-in of a name by a table.
use Rattle.std.specs.Prelude.{ℕ, Bool, if◌then◌else◌, List, [], ◌∷◌, Option, Some, None}
use Rattle.std.specs.Borrow.{Bor}
use Rattle.dh_syntax.specs.declared.operators.Builtin.{Builtin}
use Rattle.dh_syntax.specs.Expressions.Numbers.{bytes_eq}

-- the builtin that has this name in a table, if there is one
abbrev pub builtin_in : List (Bor (List ℕ) × Builtin) → List ℕ → Option Builtin
builtin_in [] x = None
builtin_in (e ∷ es) x = if bytes_eq e.0.now x then Some e.1 else builtin_in es x
