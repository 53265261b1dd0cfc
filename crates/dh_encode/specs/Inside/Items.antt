-- The items of the parts of a node, and what can be encoded.
use Rattle.std.specs.Prelude.{ℕ, ◌≤◌, ◌^◌, Bool, true, false, List, [], ◌∷◌}
use Rattle.dh_syntax.specs.declared.expressions.Op.TheVariants as ops
use Rattle.dh_syntax.specs.declared.operators.Builtin.{Builtin}
use Rattle.dh_syntax.specs.declared.operators.Builtin.TheVariants as builtins
use Rattle.dh_syntax.specs.Bytes.Binary.{Part, plain, under, items, forms, function, interleaved}
use Rattle.dh_syntax.specs.Bytes.Cbor.{null, text}
use Rattle.dh_syntax.specs.Expressions.Arity.{IsWellFormed, AreWellFormed}
use Rattle.dh_syntax.specs.Expressions.Nesting.{nesting, parts_nesting}
use Rattle.dh_syntax.specs.Expressions.Tree.{Row, Node, Var, Name, Term}

-- the items of these parts, each written alone
abbrev pub row_items : Row Var Name → List (List ℕ)
row_items r = items (forms r)

-- an expression that is well formed and does not nest too deep for a recursion
abbrev pub CanEncode : Term → Type 0
CanEncode e = IsWellFormed e × (nesting e ≤ 2 ^ 20)

-- parts that are well formed and of which none nests too deep
abbrev pub CanEncodeAll : Row Var Name → Type 0
CanEncodeAll r = AreWellFormed r × (parts_nesting r ≤ 2 ^ 20)

-- what a node with these parts is written as, where it binds a variable in the second one
abbrev pub abstraction_of : ℕ → List Part → List ℕ
abstraction_of code (plain a ∷ under x b ∷ []) = (function code a.alone x b.alone).alone
abstraction_of code ps = null

-- the bytes of a λ or a ∀ with this code and these parts
abbrev pub abstraction_bytes : ℕ → Row Var Name → List ℕ
abstraction_bytes code r = abstraction_of code (forms r)

-- whether the built-in is `List`
abbrev pub is_list_name : Builtin → Bool
is_list_name builtins.List = true
is_list_name b = false

-- whether an expression is `List`
abbrev pub is_list : Term → Bool
is_list (Node (ops.Builtin b) r) = is_list_name b
is_list e = false

-- the variable of a let, and null where it has no written type
abbrev pub let_head : Bool → Name → List (List ℕ)
let_head true x = text x ∷ []
let_head false x = text x ∷ null ∷ []

-- the interpolations of a text, each with the piece behind it
abbrev pub behind : List (List ℕ) → List (List ℕ) → List (List ℕ)
behind ps [] = interleaved ps []
behind ps (e ∷ es) = e ∷ interleaved ps es
