-- The types of the built-ins, in normal form (the standard's "Type inference", each type under its form).
use Rattle.std.specs.Prelude.{[], ◌∷◌, Option, Some, None, codes}
use Rattle.dh_syntax.specs.declared.operators.Builtin.{Builtin}
use Rattle.dh_syntax.specs.declared.operators.Builtin.TheVariants as builtins
use Rattle.dh_syntax.specs.Expressions.Forms.{builtin, call, forall, list_type, record_type}
use Rattle.dh_syntax.specs.Expressions.Tree.{Leaf, Name, Term}

-- ---- spellings

-- `Type`, `Kind`, `Sort`, `Bool`, `Natural`, `Integer`, `Text`
abbrev type : Term
type = builtin builtins.TypeConst

-- the constant `Kind`
abbrev kind : Term
kind = builtin builtins.Kind

-- the constant `Sort`
abbrev sort : Term
sort = builtin builtins.Sort

-- the type `Bool`
abbrev bool : Term
bool = builtin builtins.Bool

-- the type `Natural`
abbrev natural : Term
natural = builtin builtins.Natural

-- the type `Integer`
abbrev integer : Term
integer = builtin builtins.Integer

-- the type `Text`
abbrev text : Term
text = builtin builtins.Text

-- the variable `x`
abbrev var : Name → Term
var x = Leaf (record { name = x; index = 0 })

infixr 30 ◌⟶◌
-- `a → b`
abbrev ◌⟶◌ : Term → Term → Term
a ⟶ b = forall (codes "_") a b

-- `Optional t`
abbrev optional : Term → Term
optional t = call builtins.Optional (t ∷ [])

-- `a`, `list`
abbrev a : Term
a = var (codes "a")

-- the variable `list`
abbrev list : Term
list = var (codes "list")

-- `∀(a : Type) → t`
abbrev for_each_type : Term → Term
for_each_type t = forall (codes "a") type t

-- `∀(natural : Type) → ∀(succ : natural → natural) → ∀(zero : natural) → natural`
abbrev counting : Term
counting =
    let n = var (codes "natural") in
    forall (codes "natural") type (forall (codes "succ") (n ⟶ n) (forall (codes "zero") n n))

-- `∀(list : Type) → ∀(cons : a → list → list) → ∀(nil : list) → list`
abbrev listing : Term
listing = forall (codes "list") type (forall (codes "cons") (a ⟶ list ⟶ list) (forall (codes "nil") list list))

-- `{ index : Natural, value : a }`
abbrev indexed : Term
indexed = record_type ((codes "index", natural) ∷ (codes "value", a) ∷ [])

-- ---- the table

-- the type of a built-in; none for `Sort`
abbrev pub type_of : Builtin → Option Term
type_of builtins.TypeConst = Some kind
type_of builtins.Kind = Some sort
type_of builtins.Sort = None
type_of builtins.Bool = Some type
type_of builtins.Natural = Some type
type_of builtins.Integer = Some type
type_of builtins.Text = Some type
type_of builtins.List = Some (type ⟶ type)
type_of builtins.Optional = Some (type ⟶ type)
type_of builtins.None = Some (forall (codes "A") type (optional (var (codes "A"))))
type_of builtins.NaturalFold = Some (natural ⟶ counting)
type_of builtins.NaturalBuild = Some (counting ⟶ natural)
type_of builtins.NaturalIsZero = Some (natural ⟶ bool)
type_of builtins.NaturalEven = Some (natural ⟶ bool)
type_of builtins.NaturalOdd = Some (natural ⟶ bool)
type_of builtins.NaturalToInteger = Some (natural ⟶ integer)
type_of builtins.NaturalShow = Some (natural ⟶ text)
type_of builtins.NaturalSubtract = Some (natural ⟶ natural ⟶ natural)
type_of builtins.IntegerShow = Some (integer ⟶ text)
type_of builtins.IntegerNegate = Some (integer ⟶ integer)
type_of builtins.IntegerClamp = Some (integer ⟶ natural)
type_of builtins.ListBuild = Some (for_each_type (listing ⟶ list_type a))
type_of builtins.ListFold = Some (for_each_type (list_type a ⟶ listing))
type_of builtins.ListLength = Some (for_each_type (list_type a ⟶ natural))
type_of builtins.ListHead = Some (for_each_type (list_type a ⟶ optional a))
type_of builtins.ListLast = Some (for_each_type (list_type a ⟶ optional a))
type_of builtins.ListIndexed = Some (for_each_type (list_type a ⟶ list_type indexed))
type_of builtins.ListReverse = Some (for_each_type (list_type a ⟶ list_type a))
type_of builtins.TextShow = Some (text ⟶ text)
type_of builtins.TextReplace = Some (forall (codes "needle") text (forall (codes "replacement") text (forall (codes "haystack") text text)))
