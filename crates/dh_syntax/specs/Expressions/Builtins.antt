-- The built-ins, and the one that a name stands for (`dhall.abnf`, "builtin").
use Rattle.std.specs.Prelude.{ℕ, List, [], ◌∷◌, Option, find}
use Rattle.dh_syntax.specs.declared.operators.Builtin.{Builtin}
use Rattle.dh_syntax.specs.declared.operators.Builtin.TheVariants as builtin
use Rattle.dh_syntax.specs.Expressions.Numbers.{bytes_eq}
use Rattle.dh_syntax.specs.Expressions.Operators.{builtin_name}

-- all built-ins, without `True` and `False`
abbrev pub builtins : List Builtin
builtins =
    builtin.TypeConst ∷ builtin.Kind ∷ builtin.Sort ∷ builtin.Bool ∷ builtin.Natural ∷ builtin.Integer ∷ builtin.Text
    ∷ builtin.List ∷ builtin.Optional ∷ builtin.None ∷ builtin.NaturalFold ∷ builtin.NaturalBuild ∷ builtin.NaturalIsZero
    ∷ builtin.NaturalEven ∷ builtin.NaturalOdd ∷ builtin.NaturalToInteger ∷ builtin.NaturalShow ∷ builtin.NaturalSubtract
    ∷ builtin.IntegerShow ∷ builtin.IntegerNegate ∷ builtin.IntegerClamp ∷ builtin.ListBuild ∷ builtin.ListFold
    ∷ builtin.ListLength ∷ builtin.ListHead ∷ builtin.ListLast ∷ builtin.ListIndexed ∷ builtin.ListReverse
    ∷ builtin.TextShow ∷ builtin.TextReplace ∷ []

-- the built-in of this name
abbrev pub builtin_of : List ℕ → Option Builtin
builtin_of x = find (λ b. bytes_eq (builtin_name b) x) builtins
