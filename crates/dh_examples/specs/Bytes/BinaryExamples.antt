-- Worked examples of the binary form. The bytes of heads, numbers and strings are those of RFC 7049, appendix A.
use Rattle.std.specs.Prelude.{◌≡◌, ℕ, pos, negsuc, Bool, true, false, [], ◌∷◌, ◌++◌, Some, None, codes, refl, replicate}
use Rattle.dh_syntax.specs.declared.expressions.Op.TheVariants as ops
use Rattle.dh_syntax.specs.declared.locations.Loc.TheVariants as locs
use Rattle.dh_syntax.specs.declared.locations.Mode.TheVariants as mode
use Rattle.dh_syntax.specs.declared.operators.BinOp.{BinOp}
use Rattle.dh_syntax.specs.declared.operators.BinOp.TheVariants as op
use Rattle.dh_syntax.specs.declared.operators.Builtin.{Builtin}
use Rattle.dh_syntax.specs.declared.operators.Builtin.TheVariants as builtin
use Rattle.dh_syntax.specs.Bytes.Binary.{enc}
use Rattle.dh_syntax.specs.Bytes.Cbor.{bytes, text, array, natural, below_zero}
use Rattle.dh_syntax.specs.Expressions.Tree.{Row, Leaf, Node, end, kid, Name, Var, Term}

-- ---- heads, numbers and strings

zero_ : natural 0 ≡ 0x00 ∷ []
zero_ = refl

ten : natural 10 ≡ 0x0A ∷ []
ten = refl

twenty_three : natural 23 ≡ 0x17 ∷ []
twenty_three = refl

twenty_four : natural 24 ≡ 0x18 ∷ 0x18 ∷ []
twenty_four = refl

-- the greatest number of each head, and the least one of the next
widest_in_one_byte : natural 255 ≡ 0x18 ∷ 0xFF ∷ []
widest_in_one_byte = refl

least_in_two_bytes : natural 256 ≡ 0x19 ∷ 0x01 ∷ 0x00 ∷ []
least_in_two_bytes = refl

widest_in_two_bytes : natural 65535 ≡ 0x19 ∷ 0xFF ∷ 0xFF ∷ []
widest_in_two_bytes = refl

least_in_four_bytes : natural 65536 ≡ 0x1A ∷ 0x00 ∷ 0x01 ∷ 0x00 ∷ 0x00 ∷ []
least_in_four_bytes = refl

widest_in_four_bytes : natural 4294967295 ≡ 0x1A ∷ 0xFF ∷ 0xFF ∷ 0xFF ∷ 0xFF ∷ []
widest_in_four_bytes = refl

least_in_eight_bytes : natural 4294967296 ≡ 0x1B ∷ 0x00 ∷ 0x00 ∷ 0x00 ∷ 0x01 ∷ 0x00 ∷ 0x00 ∷ 0x00 ∷ 0x00 ∷ []
least_in_eight_bytes = refl

hundred : natural 100 ≡ 0x18 ∷ 0x64 ∷ []
hundred = refl

thousand : natural 1000 ≡ 0x19 ∷ 0x03 ∷ 0xE8 ∷ []
thousand = refl

million : natural 1000000 ≡ 0x1A ∷ 0x00 ∷ 0x0F ∷ 0x42 ∷ 0x40 ∷ []
million = refl

billions : natural 1000000000000 ≡ 0x1B ∷ 0x00 ∷ 0x00 ∷ 0x00 ∷ 0xE8 ∷ 0xD4 ∷ 0xA5 ∷ 0x10 ∷ 0x00 ∷ []
billions = refl

sixty_four_bits : natural 18446744073709551615 ≡ 0x1B ∷ 0xFF ∷ 0xFF ∷ 0xFF ∷ 0xFF ∷ 0xFF ∷ 0xFF ∷ 0xFF ∷ 0xFF ∷ []
sixty_four_bits = refl

bignum : natural 18446744073709551616 ≡ 0xC2 ∷ 0x49 ∷ 0x01 ∷ 0x00 ∷ 0x00 ∷ 0x00 ∷ 0x00 ∷ 0x00 ∷ 0x00 ∷ 0x00 ∷ 0x00 ∷ []
bignum = refl

minus_one : below_zero 0 ≡ 0x20 ∷ []
minus_one = refl

minus_ten : below_zero 9 ≡ 0x29 ∷ []
minus_ten = refl

minus_hundred : below_zero 99 ≡ 0x38 ∷ 0x63 ∷ []
minus_hundred = refl

minus_thousand : below_zero 999 ≡ 0x39 ∷ 0x03 ∷ 0xE7 ∷ []
minus_thousand = refl

minus_two_to_64 : below_zero 18446744073709551615 ≡ 0x3B ∷ 0xFF ∷ 0xFF ∷ 0xFF ∷ 0xFF ∷ 0xFF ∷ 0xFF ∷ 0xFF ∷ 0xFF ∷ []
minus_two_to_64 = refl

negative_bignum : below_zero 18446744073709551616 ≡ 0xC3 ∷ 0x49 ∷ 0x01 ∷ 0x00 ∷ 0x00 ∷ 0x00 ∷ 0x00 ∷ 0x00 ∷ 0x00 ∷ 0x00 ∷ 0x00 ∷ []
negative_bignum = refl

no_bytes : bytes [] ≡ 0x40 ∷ []
no_bytes = refl

four_bytes : bytes (1 ∷ 2 ∷ 3 ∷ 4 ∷ []) ≡ 0x44 ∷ 0x01 ∷ 0x02 ∷ 0x03 ∷ 0x04 ∷ []
four_bytes = refl

no_text : text [] ≡ 0x60 ∷ []
no_text = refl

letter : text (codes "a") ≡ 0x61 ∷ 0x61 ∷ []
letter = refl

four_letters : text (codes "IETF") ≡ 0x64 ∷ 0x49 ∷ 0x45 ∷ 0x54 ∷ 0x46 ∷ []
four_letters = refl

no_items : array [] ≡ 0x80 ∷ []
no_items = refl

three_items : array (natural 1 ∷ natural 2 ∷ natural 3 ∷ []) ≡ 0x83 ∷ 0x01 ∷ 0x02 ∷ 0x03 ∷ []
three_items = refl

-- ---- expressions

-- a natural literal
abbrev num : ℕ → Term
num n = Node (ops.Nat n) end

-- a literal of `Bool`
abbrev bool : Bool → Term
bool b = Node (ops.Bool b) end

-- a built-in as an expression
abbrev name_of : Builtin → Term
name_of b = Node (ops.Builtin b) end

-- a variable with this name and index
abbrev var : Name → ℕ → Term
var x n = Leaf (record { name = x; index = n })

-- a row of one part, without a binder
abbrev one : Term → Row Var Name
one e = kid None e end

-- a row of two parts, without a binder
abbrev two : Term → Term → Row Var Name
two e f = kid None e (one f)

-- a row of three parts, without a binder
abbrev three : Term → Term → Term → Row Var Name
three e f g = kid None e (two f g)

-- an operator between two expressions
abbrev bin : BinOp → Term → Term → Term
bin o l r = Node (ops.Bin o) (two l r)

-- a function applied to an argument
abbrev app : Term → Term → Term
app f a = Node ops.App (two f a)

-- a type, and a body in which this name is bound
abbrev in_binder : Term → Name → Term → Row Var Name
in_binder type x body = kid None type (kid (Some x) body end)

-- `λ(x : type) → body`
abbrev lam : Name → Term → Term → Term
lam x type body = Node ops.Lam (in_binder type x body)

-- the name `x`
abbrev x_ : Name
x_ = codes "x"

-- the name `y`
abbrev y_ : Name
y_ = codes "y"

-- the name `_`
abbrev under_ : Name
under_ = codes "_"

-- the type `Bool`
abbrev Bool_ : Term
Bool_ = name_of builtin.Bool

-- the type `Natural`
abbrev Natural_ : Term
Natural_ = name_of builtin.Natural

-- `1 + 2`
sum : enc (bin op.Plus (num 1) (num 2)) ≡ 0x84 ∷ 0x03 ∷ 0x04 ∷ 0x82 ∷ 0x0F ∷ 0x01 ∷ 0x82 ∷ 0x0F ∷ 0x02 ∷ []
sum = refl

-- `(True && False) || True`
truth_values : enc (bin op.Or (bin op.And (bool true) (bool false)) (bool true)) ≡ 0x84 ∷ 0x03 ∷ 0x00 ∷ 0x84 ∷ 0x03 ∷ 0x01 ∷ 0xF5 ∷ 0xF4 ∷ 0xF5 ∷ []
truth_values = refl

-- `2 * 3 + 4`
product_in_sum : enc (bin op.Plus (bin op.Times (num 2) (num 3)) (num 4)) ≡ 0x84 ∷ 0x03 ∷ 0x04 ∷ 0x84 ∷ 0x03 ∷ 0x05 ∷ 0x82 ∷ 0x0F ∷ 0x02 ∷ 0x82 ∷ 0x0F ∷ 0x03 ∷ 0x82 ∷ 0x0F ∷ 0x04 ∷ []
product_in_sum = refl

-- `340282366920938463463374607431768211455`
widest : enc (num 340282366920938463463374607431768211455) ≡ 0x82 ∷ 0x0F ∷ 0xC2 ∷ 0x50 ∷ 0xFF ∷ 0xFF ∷ 0xFF ∷ 0xFF ∷ 0xFF ∷ 0xFF ∷ 0xFF ∷ 0xFF ∷ 0xFF ∷ 0xFF ∷ 0xFF ∷ 0xFF ∷ 0xFF ∷ 0xFF ∷ 0xFF ∷ 0xFF ∷ []
widest = refl

-- `-1`
negative : enc (Node (ops.Int (negsuc 0)) end) ≡ 0x82 ∷ 0x10 ∷ 0x20 ∷ []
negative = refl

-- `1 +2`
applied_to_integer : enc (app (num 1) (Node (ops.Int (pos 2)) end)) ≡ 0x83 ∷ 0x00 ∷ 0x82 ∷ 0x0F ∷ 0x01 ∷ 0x82 ∷ 0x10 ∷ 0x02 ∷ []
applied_to_integer = refl

-- `x`
variable : enc (var x_ 0) ≡ 0x82 ∷ 0x61 ∷ 0x78 ∷ 0x00 ∷ []
variable = refl

-- `_@3`
underscore : enc (var under_ 3) ≡ 0x03 ∷ []
underscore = refl

-- `λ(x : Bool) → x`
lambda : enc (lam x_ Bool_ (var x_ 0)) ≡ 0x84 ∷ 0x01 ∷ 0x61 ∷ 0x78 ∷ 0x64 ∷ 0x42 ∷ 0x6F ∷ 0x6F ∷ 0x6C ∷ 0x82 ∷ 0x61 ∷ 0x78 ∷ 0x00 ∷ []
lambda = refl

-- `λ(_ : Bool) → λ(_ : Bool) → _@1`
nameless_lambda : enc (lam under_ Bool_ (lam under_ Bool_ (var under_ 1))) ≡ 0x83 ∷ 0x01 ∷ 0x64 ∷ 0x42 ∷ 0x6F ∷ 0x6F ∷ 0x6C ∷ 0x83 ∷ 0x01 ∷ 0x64 ∷ 0x42 ∷ 0x6F ∷ 0x6F ∷ 0x6C ∷ 0x01 ∷ []
nameless_lambda = refl

-- `λ(y : Natural) → λ(y : Natural) → y@1`
two_binders : enc (lam y_ Natural_ (lam y_ Natural_ (var y_ 1))) ≡ 0x84 ∷ 0x01 ∷ 0x61 ∷ 0x79 ∷ 0x67 ∷ 0x4E ∷ 0x61 ∷ 0x74 ∷ 0x75 ∷ 0x72 ∷ 0x61 ∷ 0x6C ∷ 0x84 ∷ 0x01 ∷ 0x61 ∷ 0x79 ∷ 0x67 ∷ 0x4E ∷ 0x61 ∷ 0x74 ∷ 0x75 ∷ 0x72 ∷ 0x61 ∷ 0x6C ∷ 0x82 ∷ 0x61 ∷ 0x79 ∷ 0x01 ∷ []
two_binders = refl

-- `Bool → Bool`
function_type : enc (Node ops.Pi (in_binder Bool_ under_ Bool_)) ≡ 0x83 ∷ 0x02 ∷ 0x64 ∷ 0x42 ∷ 0x6F ∷ 0x6F ∷ 0x6C ∷ 0x64 ∷ 0x42 ∷ 0x6F ∷ 0x6F ∷ 0x6C ∷ []
function_type = refl

-- `∀(x : Bool) → x`
named_function_type : enc (Node ops.Pi (in_binder Bool_ x_ (var x_ 0))) ≡ 0x84 ∷ 0x02 ∷ 0x61 ∷ 0x78 ∷ 0x64 ∷ 0x42 ∷ 0x6F ∷ 0x6F ∷ 0x6C ∷ 0x82 ∷ 0x61 ∷ 0x78 ∷ 0x00 ∷ []
named_function_type = refl

-- `x y x`
spine : enc (app (app (var x_ 0) (var y_ 0)) (var x_ 0)) ≡ 0x84 ∷ 0x00 ∷ 0x82 ∷ 0x61 ∷ 0x78 ∷ 0x00 ∷ 0x82 ∷ 0x61 ∷ 0x79 ∷ 0x00 ∷ 0x82 ∷ 0x61 ∷ 0x78 ∷ 0x00 ∷ []
spine = refl

-- `x (y x)`
argument : enc (app (var x_ 0) (app (var y_ 0) (var x_ 0))) ≡ 0x83 ∷ 0x00 ∷ 0x82 ∷ 0x61 ∷ 0x78 ∷ 0x00 ∷ 0x83 ∷ 0x00 ∷ 0x82 ∷ 0x61 ∷ 0x79 ∷ 0x00 ∷ 0x82 ∷ 0x61 ∷ 0x78 ∷ 0x00 ∷ []
argument = refl

-- `let x = True let y : Bool = x in y`
lets : enc (Node (ops.Let false) (kid None (bool true) (kid (Some x_) (Node (ops.Let true) (kid None Bool_ (kid None (var x_ 0) (kid (Some y_) (var y_ 0) end)))) end))) ≡ 0x88 ∷ 0x18 ∷ 0x19 ∷ 0x61 ∷ 0x78 ∷ 0xF6 ∷ 0xF5 ∷ 0x61 ∷ 0x79 ∷ 0x64 ∷ 0x42 ∷ 0x6F ∷ 0x6F ∷ 0x6C ∷ 0x82 ∷ 0x61 ∷ 0x78 ∷ 0x00 ∷ 0x82 ∷ 0x61 ∷ 0x79 ∷ 0x00 ∷ []
lets = refl

-- `(let x = True in x) y`, whose let is no part of the spine
applied_let : enc (app (Node (ops.Let false) (in_binder (bool true) x_ (var x_ 0))) (var y_ 0)) ≡ 0x83 ∷ 0x00 ∷ 0x85 ∷ 0x18 ∷ 0x19 ∷ 0x61 ∷ 0x78 ∷ 0xF6 ∷ 0xF5 ∷ 0x82 ∷ 0x61 ∷ 0x78 ∷ 0x00 ∷ 0x82 ∷ 0x61 ∷ 0x79 ∷ 0x00 ∷ []
applied_let = refl

-- `let x = True in x y`, whose body is one item
let_of_application : enc (Node (ops.Let false) (in_binder (bool true) x_ (app (var x_ 0) (var y_ 0)))) ≡ 0x85 ∷ 0x18 ∷ 0x19 ∷ 0x61 ∷ 0x78 ∷ 0xF6 ∷ 0xF5 ∷ 0x83 ∷ 0x00 ∷ 0x82 ∷ 0x61 ∷ 0x78 ∷ 0x00 ∷ 0x82 ∷ 0x61 ∷ 0x79 ∷ 0x00 ∷ []
let_of_application = refl

-- `if True then 1 else 2`
if_then_else : enc (Node ops.If (three (bool true) (num 1) (num 2))) ≡ 0x84 ∷ 0x0E ∷ 0xF5 ∷ 0x82 ∷ 0x0F ∷ 0x01 ∷ 0x82 ∷ 0x0F ∷ 0x02 ∷ []
if_then_else = refl

-- `[] : List Bool`
empty_list : enc (Node ops.EmptyList (one (app (name_of builtin.List) Bool_))) ≡ 0x82 ∷ 0x04 ∷ 0x64 ∷ 0x42 ∷ 0x6F ∷ 0x6F ∷ 0x6C ∷ []
empty_list = refl

-- `[] : x y`
empty_list_at_application : enc (Node ops.EmptyList (one (app (var x_ 0) (var y_ 0)))) ≡ 0x82 ∷ 0x18 ∷ 0x1C ∷ 0x83 ∷ 0x00 ∷ 0x82 ∷ 0x61 ∷ 0x78 ∷ 0x00 ∷ 0x82 ∷ 0x61 ∷ 0x79 ∷ 0x00 ∷ []
empty_list_at_application = refl

-- `[] : List x y`
empty_list_at_two_arguments : enc (Node ops.EmptyList (one (app (app (name_of builtin.List) (var x_ 0)) (var y_ 0)))) ≡ 0x82 ∷ 0x18 ∷ 0x1C ∷ 0x84 ∷ 0x00 ∷ 0x64 ∷ 0x4C ∷ 0x69 ∷ 0x73 ∷ 0x74 ∷ 0x82 ∷ 0x61 ∷ 0x78 ∷ 0x00 ∷ 0x82 ∷ 0x61 ∷ 0x79 ∷ 0x00 ∷ []
empty_list_at_two_arguments = refl

-- `[] : List`
empty_list_at_list : enc (Node ops.EmptyList (one (name_of builtin.List))) ≡ 0x82 ∷ 0x18 ∷ 0x1C ∷ 0x64 ∷ 0x4C ∷ 0x69 ∷ 0x73 ∷ 0x74 ∷ []
empty_list_at_list = refl

-- `[] : x`
empty_list_at_x : enc (Node ops.EmptyList (one (var x_ 0))) ≡ 0x82 ∷ 0x18 ∷ 0x1C ∷ 0x82 ∷ 0x61 ∷ 0x78 ∷ 0x00 ∷ []
empty_list_at_x = refl

-- `[ 0 ]`
list : enc (Node ops.List (one (num 0))) ≡ 0x83 ∷ 0x04 ∷ 0xF6 ∷ 0x82 ∷ 0x0F ∷ 0x00 ∷ []
list = refl

-- `Some True`
some : enc (Node ops.Some (one (bool true))) ≡ 0x83 ∷ 0x05 ∷ 0xF6 ∷ 0xF5 ∷ []
some = refl

-- `merge x y`
merge : enc (Node (ops.Merge false) (two (var x_ 0) (var y_ 0))) ≡ 0x83 ∷ 0x06 ∷ 0x82 ∷ 0x61 ∷ 0x78 ∷ 0x00 ∷ 0x82 ∷ 0x61 ∷ 0x79 ∷ 0x00 ∷ []
merge = refl

-- `merge x y : Bool`
annotated_merge : enc (Node (ops.Merge true) (three (var x_ 0) (var y_ 0) Bool_)) ≡ 0x84 ∷ 0x06 ∷ 0x82 ∷ 0x61 ∷ 0x78 ∷ 0x00 ∷ 0x82 ∷ 0x61 ∷ 0x79 ∷ 0x00 ∷ 0x64 ∷ 0x42 ∷ 0x6F ∷ 0x6F ∷ 0x6C ∷ []
annotated_merge = refl

-- `{ x : Bool }`
record_type : enc (Node (ops.RecordType (x_ ∷ [])) (one Bool_)) ≡ 0x82 ∷ 0x07 ∷ 0xA1 ∷ 0x61 ∷ 0x78 ∷ 0x64 ∷ 0x42 ∷ 0x6F ∷ 0x6F ∷ 0x6C ∷ []
record_type = refl

-- `{ x = True, y = False }`
record_literal : enc (Node (ops.Record (x_ ∷ y_ ∷ [])) (two (bool true) (bool false))) ≡ 0x82 ∷ 0x08 ∷ 0xA2 ∷ 0x61 ∷ 0x78 ∷ 0xF5 ∷ 0x61 ∷ 0x79 ∷ 0xF4 ∷ []
record_literal = refl

-- `{=}`
empty_record : enc (Node (ops.Record []) end) ≡ 0x82 ∷ 0x08 ∷ 0xA0 ∷ []
empty_record = refl

-- `x.y`
field : enc (Node (ops.Field y_) (one (var x_ 0))) ≡ 0x83 ∷ 0x09 ∷ 0x82 ∷ 0x61 ∷ 0x78 ∷ 0x00 ∷ 0x61 ∷ 0x79 ∷ []
field = refl

-- `x.{ x, y }`
projection : enc (Node (ops.Project (x_ ∷ y_ ∷ [])) (one (var x_ 0))) ≡ 0x84 ∷ 0x0A ∷ 0x82 ∷ 0x61 ∷ 0x78 ∷ 0x00 ∷ 0x61 ∷ 0x78 ∷ 0x61 ∷ 0x79 ∷ []
projection = refl

-- `x.(y)`
projection_by_type : enc (Node ops.ProjectType (two (var x_ 0) (var y_ 0))) ≡ 0x83 ∷ 0x0A ∷ 0x82 ∷ 0x61 ∷ 0x78 ∷ 0x00 ∷ 0x81 ∷ 0x82 ∷ 0x61 ∷ 0x79 ∷ 0x00 ∷ []
projection_by_type = refl

-- `< x | y : Bool >`
union : enc (Node (ops.Union (record { label = x_; typed = false } ∷ record { label = y_; typed = true } ∷ [])) (one Bool_)) ≡ 0x82 ∷ 0x0B ∷ 0xA2 ∷ 0x61 ∷ 0x78 ∷ 0xF6 ∷ 0x61 ∷ 0x79 ∷ 0x64 ∷ 0x42 ∷ 0x6F ∷ 0x6F ∷ 0x6C ∷ []
union = refl

-- `< x : Bool | y : Natural >`
union_of_types : enc (Node (ops.Union (record { label = x_; typed = true } ∷ record { label = y_; typed = true } ∷ [])) (two Bool_ Natural_)) ≡ 0x82 ∷ 0x0B ∷ 0xA2 ∷ 0x61 ∷ 0x78 ∷ 0x64 ∷ 0x42 ∷ 0x6F ∷ 0x6F ∷ 0x6C ∷ 0x61 ∷ 0x79 ∷ 0x67 ∷ 0x4E ∷ 0x61 ∷ 0x74 ∷ 0x75 ∷ 0x72 ∷ 0x61 ∷ 0x6C ∷ []
union_of_types = refl

-- `"hi"`
text_literal : enc (Node (ops.Text (codes "hi" ∷ [])) end) ≡ 0x82 ∷ 0x12 ∷ 0x62 ∷ 0x68 ∷ 0x69 ∷ []
text_literal = refl

-- `"h${x}i"`
interpolation : enc (Node (ops.Text (codes "h" ∷ codes "i" ∷ [])) (one (var x_ 0))) ≡ 0x84 ∷ 0x12 ∷ 0x61 ∷ 0x68 ∷ 0x82 ∷ 0x61 ∷ 0x78 ∷ 0x00 ∷ 0x61 ∷ 0x69 ∷ []
interpolation = refl

-- `assert : x`
assertion : enc (Node ops.Assert (one (var x_ 0))) ≡ 0x82 ∷ 0x13 ∷ 0x82 ∷ 0x61 ∷ 0x78 ∷ 0x00 ∷ []
assertion = refl

-- `x : Bool`
annotation : enc (Node ops.Annot (two (var x_ 0) Bool_)) ≡ 0x83 ∷ 0x18 ∷ 0x1A ∷ 0x82 ∷ 0x61 ∷ 0x78 ∷ 0x00 ∷ 0x64 ∷ 0x42 ∷ 0x6F ∷ 0x6F ∷ 0x6C ∷ []
annotation = refl

-- `toMap x`
to_map : enc (Node (ops.ToMap false) (one (var x_ 0))) ≡ 0x82 ∷ 0x18 ∷ 0x1B ∷ 0x82 ∷ 0x61 ∷ 0x78 ∷ 0x00 ∷ []
to_map = refl

-- `toMap x : y`
annotated_to_map : enc (Node (ops.ToMap true) (two (var x_ 0) (var y_ 0))) ≡ 0x83 ∷ 0x18 ∷ 0x1B ∷ 0x82 ∷ 0x61 ∷ 0x78 ∷ 0x00 ∷ 0x82 ∷ 0x61 ∷ 0x79 ∷ 0x00 ∷ []
annotated_to_map = refl

-- `x with y.x = True`
with_path : enc (Node (ops.With (y_ ∷ x_ ∷ [])) (two (var x_ 0) (bool true))) ≡ 0x84 ∷ 0x18 ∷ 0x1D ∷ 0x82 ∷ 0x61 ∷ 0x78 ∷ 0x00 ∷ 0x82 ∷ 0x61 ∷ 0x79 ∷ 0x61 ∷ 0x78 ∷ 0xF5 ∷ []
with_path = refl

-- `x::y`
completion : enc (bin op.Complete (var x_ 0) (var y_ 0)) ≡ 0x84 ∷ 0x03 ∷ 0x0D ∷ 0x82 ∷ 0x61 ∷ 0x78 ∷ 0x00 ∷ 0x82 ∷ 0x61 ∷ 0x79 ∷ 0x00 ∷ []
completion = refl

-- `./x/y`
local_import : enc (Node (ops.Import (record { loc = locs.Here (x_ ∷ y_ ∷ []); mode = mode.Code; digest = None })) end) ≡ 0x86 ∷ 0x18 ∷ 0x18 ∷ 0xF6 ∷ 0x00 ∷ 0x03 ∷ 0x61 ∷ 0x78 ∷ 0x61 ∷ 0x79 ∷ []
local_import = refl

-- `/x as Text`
absolute_import : enc (Node (ops.Import (record { loc = locs.Abs (x_ ∷ []); mode = mode.Text; digest = None })) end) ≡ 0x85 ∷ 0x18 ∷ 0x18 ∷ 0xF6 ∷ 0x01 ∷ 0x02 ∷ 0x61 ∷ 0x78 ∷ []
absolute_import = refl

-- `../x as Location`
parent_import : enc (Node (ops.Import (record { loc = locs.Parent (x_ ∷ []); mode = mode.Location; digest = None })) end) ≡ 0x85 ∷ 0x18 ∷ 0x18 ∷ 0xF6 ∷ 0x02 ∷ 0x04 ∷ 0x61 ∷ 0x78 ∷ []
parent_import = refl

-- `~/x`
home_import : enc (Node (ops.Import (record { loc = locs.Home (x_ ∷ []); mode = mode.Code; digest = None })) end) ≡ 0x85 ∷ 0x18 ∷ 0x18 ∷ 0xF6 ∷ 0x00 ∷ 0x05 ∷ 0x61 ∷ 0x78 ∷ []
home_import = refl

-- `https://x/y?z`
https_import : enc (Node (ops.Import (record { loc = locs.Https (record { host = x_; comps = y_ ∷ []; query = Some (codes "z") }); mode = mode.Code; digest = None })) end) ≡ 0x88 ∷ 0x18 ∷ 0x18 ∷ 0xF6 ∷ 0x00 ∷ 0x01 ∷ 0xF6 ∷ 0x61 ∷ 0x78 ∷ 0x61 ∷ 0x79 ∷ 0x61 ∷ 0x7A ∷ []
https_import = refl

-- `http://x/y`
http_import : enc (Node (ops.Import (record { loc = locs.Http (record { host = x_; comps = y_ ∷ []; query = None }); mode = mode.Code; digest = None })) end) ≡ 0x88 ∷ 0x18 ∷ 0x18 ∷ 0xF6 ∷ 0x00 ∷ 0x00 ∷ 0xF6 ∷ 0x61 ∷ 0x78 ∷ 0x61 ∷ 0x79 ∷ 0xF6 ∷ []
http_import = refl

-- `env:x`
environment_import : enc (Node (ops.Import (record { loc = locs.Env x_; mode = mode.Code; digest = None })) end) ≡ 0x85 ∷ 0x18 ∷ 0x18 ∷ 0xF6 ∷ 0x00 ∷ 0x06 ∷ 0x61 ∷ 0x78 ∷ []
environment_import = refl

-- `missing`
missing_import : enc (Node (ops.Import (record { loc = locs.Missing; mode = mode.Code; digest = None })) end) ≡ 0x84 ∷ 0x18 ∷ 0x18 ∷ 0xF6 ∷ 0x00 ∷ 0x07 ∷ []
missing_import = refl

-- `missing sha256:` and 64 zeros
frozen_import : enc (Node (ops.Import (record { loc = locs.Missing; mode = mode.Code; digest = Some (record { 0 = replicate 32 0 }) })) end) ≡ 0x84 ∷ 0x18 ∷ 0x18 ∷ 0x58 ∷ 0x22 ∷ 0x12 ∷ 0x20 ∷ replicate 32 0 ++ 0x00 ∷ 0x07 ∷ []
frozen_import = refl
