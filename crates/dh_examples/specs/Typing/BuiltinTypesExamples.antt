-- The types of the built-ins are in normal form, and each is in a universe but `Sort`, the type of `Kind`.
use Rattle.std.specs.Prelude.{◌≡◌, refl, ℕ, Bool, true, false, List, [], ◌∷◌, Option, Some, None, option_and_then, map, codes, encode_utf8_all}
use Rattle.std.specs.Char.{encode_utf8}
use Rattle.std.specs.Fmt.{digits}
use Rattle.dh_syntax.specs.declared.operators.Builtin.{Builtin}
use Rattle.dh_syntax.specs.declared.operators.Builtin.TheVariants as builtins
use Rattle.dh_syntax.specs.Names.Alpha.{alpha}
use Rattle.dh_syntax.specs.Typing.BuiltinTypes.{type_of}
use Rattle.dh_syntax.specs.Expressions.Builtins.{builtins}
use Rattle.dh_syntax.specs.Normalising.Heads.{Answer, Found}
use Rattle.dh_syntax.specs.Normalising.Named.{names}
use Rattle.dh_syntax.specs.Expressions.Nesting.{nesting}
use Rattle.dh_syntax.specs.Normalising.Normal.{plain_answer}
use Rattle.dh_syntax.specs.Text.Printed.{text_of}
use Rattle.dh_syntax.specs.Expressions.SameTree.{term_eq}
use Rattle.dh_syntax.specs.Expressions.Tree.{Term}
use Rattle.dh_syntax.specs.Typing.TypeViews.{each}
use Rattle.dh_examples.specs.Typing.Judged.{inferred, type_in}
use Rattle.dh_syntax.specs.Typing.Universes.{as_universe}

-- the functions among the built-ins
abbrev functions : List Builtin
functions =
    builtins.NaturalFold ∷ builtins.NaturalBuild ∷ builtins.NaturalIsZero ∷ builtins.NaturalEven ∷ builtins.NaturalOdd
    ∷ builtins.NaturalToInteger ∷ builtins.NaturalShow ∷ builtins.NaturalSubtract ∷ builtins.IntegerShow ∷ builtins.IntegerNegate
    ∷ builtins.IntegerClamp ∷ builtins.ListBuild ∷ builtins.ListFold ∷ builtins.ListLength ∷ builtins.ListHead ∷ builtins.ListLast
    ∷ builtins.ListIndexed ∷ builtins.ListReverse ∷ builtins.TextShow ∷ builtins.TextReplace ∷ []

-- the types among the built-ins, and those that make types
abbrev types : List Builtin
types = builtins.Bool ∷ builtins.Natural ∷ builtins.Integer ∷ builtins.Text ∷ []

-- the built-ins that make a type of a type
abbrev type_makers : List Builtin
type_makers = builtins.List ∷ builtins.Optional ∷ []

-- whether a normalised expression is the one that it was
abbrev is_itself : Term → Answer Term → Bool
is_itself t (Found f left) = term_eq t f
is_itself t _ = false

-- whether there is a type, and it is in normal form
abbrev is_normal_type : Option Term → Bool
is_normal_type (Some t) = is_itself t (plain_answer names nesting 100 t)
is_normal_type None = false

-- the universe that the type of a built-in is in
abbrev universe_of : Builtin → Option Builtin
universe_of b = option_and_then as_universe (option_and_then (λ t. type_in (inferred 100 t)) (type_of b))

-- whether the universe is `Type`
abbrev is_in_type : Option Builtin → Bool
is_in_type (Some builtins.TypeConst) = true
is_in_type _ = false

functions_normal : each (λ b. is_normal_type (type_of b)) (builtins.None ∷ functions) ≡ true
functions_normal = refl

functions_in_type : each (λ b. is_in_type (universe_of b)) (builtins.None ∷ functions) ≡ true
unfolding alpha
functions_in_type = refl

types_in_kind : map universe_of types ≡ Some builtins.Kind ∷ Some builtins.Kind ∷ Some builtins.Kind ∷ Some builtins.Kind ∷ []
types_in_kind = refl

type_makers_in_kind : map universe_of type_makers ≡ Some builtins.Kind ∷ Some builtins.Kind ∷ []
type_makers_in_kind = refl

type_in_sort : universe_of builtins.TypeConst ≡ Some builtins.Sort
type_in_sort = refl

kind_in_none : universe_of builtins.Kind ≡ None
kind_in_none = refl

sort_has_none : type_of builtins.Sort ≡ None
sort_has_none = refl

-- ---- the types as they are printed

-- the text of a type, where there is one
abbrev printed : Option Term → List ℕ
printed (Some t) = text_of t
printed None = []

printed_types : map (λ b. printed (type_of b)) builtins ≡ map (λ s. encode_utf8_all (codes s)) (
    "Kind" ∷ "Sort" ∷ "" ∷ "Type" ∷ "Type" ∷ "Type" ∷ "Type" ∷ "Type → Type" ∷ "Type → Type" ∷ "∀(A : Type) → Optional A"
    ∷ "Natural → ∀(natural : Type) → ∀(succ : natural → natural) → ∀(zero : natural) → natural"
    ∷ "(∀(natural : Type) → ∀(succ : natural → natural) → ∀(zero : natural) → natural) → Natural"
    ∷ "Natural → Bool" ∷ "Natural → Bool" ∷ "Natural → Bool" ∷ "Natural → Integer" ∷ "Natural → Text" ∷ "Natural → Natural → Natural"
    ∷ "Integer → Text" ∷ "Integer → Integer" ∷ "Integer → Natural"
    ∷ "∀(a : Type) → (∀(list : Type) → ∀(cons : a → list → list) → ∀(nil : list) → list) → List a"
    ∷ "∀(a : Type) → List a → ∀(list : Type) → ∀(cons : a → list → list) → ∀(nil : list) → list"
    ∷ "∀(a : Type) → List a → Natural" ∷ "∀(a : Type) → List a → Optional a" ∷ "∀(a : Type) → List a → Optional a"
    ∷ "∀(a : Type) → List a → List { index : Natural, value : a }" ∷ "∀(a : Type) → List a → List a"
    ∷ "Text → Text" ∷ "∀(needle : Text) → ∀(replacement : Text) → ∀(haystack : Text) → Text" ∷ [])
unfolding encode_utf8 digits
printed_types = refl
