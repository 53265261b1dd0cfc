-- The terms of the examples: names, variables and small expressions, over the forms of the language.
use Rattle.std.specs.Prelude.{ℕ, true, false, [], ◌∷◌, None, codes}
use Rattle.dh_syntax.specs.declared.expressions.Alt.{Alt}
use Rattle.dh_syntax.specs.declared.expressions.Op.TheVariants as ops
use Rattle.dh_syntax.specs.declared.locations.Loc.{Loc}
use Rattle.dh_syntax.specs.declared.locations.Mode.TheVariants as modes
use Rattle.dh_syntax.specs.declared.operators.BinOp.TheVariants as bins
use Rattle.dh_syntax.specs.declared.operators.Builtin.TheVariants as builtins
use Rattle.dh_syntax.specs.Expressions.Forms.{builtin, bool, natural, plain_text, plain_row, operator, forall, call, empty_list, list_type, record_type, record_literal}
use Rattle.dh_syntax.specs.Expressions.Tree.{Tree, Row, Leaf, Node, end, kid, Name, Var, Term}

-- ---- names and variables

-- the name `x`
abbrev pub x : Name
x = codes "x"

-- the name `y`
abbrev pub y : Name
y = codes "y"

-- the label `a`
abbrev pub a : Name
a = codes "a"

-- the label `b`
abbrev pub b : Name
b = codes "b"

-- the label `c`
abbrev pub c : Name
c = codes "c"

-- the name `_`
abbrev pub underscore : Name
underscore = codes "_"

-- the variable `x@n`
abbrev pub var : Name → ℕ → Term
var x n = Leaf (record { name = x; index = n })

-- `x`, `y`, `p`, `q`, `r`
abbrev pub x0 : Term
x0 = var x 0

-- the variable `y`
abbrev pub y0 : Term
y0 = var y 0

-- the variable `p`
abbrev pub p : Term
p = var (codes "p") 0

-- the variable `q`
abbrev pub q : Term
q = var (codes "q") 0

-- the variable `r`
abbrev pub r : Term
r = var (codes "r") 0

-- ---- parts of a node, under no binder

-- a row of one part, without a binder
abbrev pub one_part : Term → Row Var Name
one_part e = kid None e end

-- a row of two parts, without a binder
abbrev pub two_parts : Term → Term → Row Var Name
two_parts e f = kid None e (one_part f)

-- a row of three parts, without a binder
abbrev pub three_parts : Term → Term → Term → Row Var Name
three_parts e f g = kid None e (two_parts f g)

-- ---- types

-- the universe `Type`
abbrev pub type : Term
type = builtin builtins.TypeConst

-- the universe `Kind`
abbrev pub kind : Term
kind = builtin builtins.Kind

-- the universe `Sort`
abbrev pub sort : Term
sort = builtin builtins.Sort

-- the type `Bool`
abbrev pub bool_type : {A B : Type 0} → Tree A B
bool_type = builtin builtins.Bool

-- the type `Natural`
abbrev pub natural_type : Term
natural_type = builtin builtins.Natural

-- the type `Text`
abbrev pub text_type : Term
text_type = builtin builtins.Text

-- `Optional t`
abbrev pub optional_type : Term → Term
optional_type t = call builtins.Optional (t ∷ [])

infixr 30 ◌⟶◌
-- `a → b`
abbrev pub ◌⟶◌ : Term → Term → Term
a ⟶ b = forall underscore a b

-- ---- literals

-- `True`, `False`, `1`, `2`, `"t"`
abbrev pub true_literal : Term
true_literal = bool true

-- `False`
abbrev pub false_literal : Term
false_literal = bool false

-- `1`
abbrev pub one : Term
one = natural 1

-- `2`
abbrev pub two : Term
two = natural 2

-- the text `"t"`
abbrev pub letter : Term
letter = plain_text (codes "t")

-- `[] : List Natural`
abbrev pub no_numbers : Term
no_numbers = empty_list (list_type natural_type)

-- ---- operators

-- `l + r`
abbrev pub plus : {A B : Type 0} → Tree A B → Tree A B → Tree A B
plus l r = operator bins.Plus l r

-- `l ≡ r`
abbrev pub equivalent : Term → Term → Term
equivalent l r = operator bins.Equivalent l r

-- ---- other forms

-- `assert : e`
abbrev pub assert : Term → Term
assert e = Node ops.Assert (plain_row (e ∷ []))

-- `merge h u : t`
abbrev pub merge_typed : Term → Term → Term → Term
merge_typed h u t = Node (ops.Merge true) (plain_row (h ∷ u ∷ t ∷ []))

-- an alternative without and with a type
abbrev pub untyped : Name → Alt
untyped x = record { label = x; typed = false }

-- an alternative of a union with a type
abbrev pub typed : Name → Alt
typed x = record { label = x; typed = true }

-- an import of code without a digest
abbrev pub code_at : Loc → Term
code_at l = Node (ops.Import (record { loc = l; mode = modes.Code; digest = None })) end

-- ---- records

-- `{ x : t }`, `{ x = e }`
abbrev pub with_type : Name → Term → Term
with_type x t = record_type ((x, t) ∷ [])

-- a record of one field
abbrev pub with_field : Name → Term → Term
with_field x e = record_literal ((x, e) ∷ [])

-- `{=}`, `{ a = p }`, `{ b = q }`, `{ a = p, b = q }`
abbrev pub no_fields : Term
no_fields = record_literal []

-- `{ a = p }`
abbrev pub with_a : Term
with_a = with_field a p

-- `{ b = q }`
abbrev pub with_b : Term
with_b = with_field b q

-- `{ a = p, b = q }`
abbrev pub with_both : Term
with_both = record_literal ((a, p) ∷ (b, q) ∷ [])
