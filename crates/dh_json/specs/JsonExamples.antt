-- JSON values of small expressions.
use Rattle.std.specs.Prelude.{◌≡◌, ◌^◌, ◌-◌, negsuc, true, false, List, [], ◌∷◌, Ok, Err, refl}
use Rattle.serde_json.specs.Data.{Data, unsigned, negative, null, boolean, number, string, array, object, no_items, item, no_members, member}
use Rattle.dh_syntax.specs.declared.expressions.Alt.{Alt}
use Rattle.dh_syntax.specs.declared.expressions.Op.TheVariants as ops
use Rattle.dh_syntax.specs.declared.operators.Builtin.TheVariants as builtins
use Rattle.dh_syntax.specs.Expressions.Forms.{app, bool, builtin, integer, lambda, natural, plain_row}
use Rattle.dh_syntax.specs.Expressions.Tree.{Node, Leaf, Term, Name}
use Rattle.dh_json.specs.JsonValue.{json}

-- the union type of these alternatives, with the types that they have
abbrev union : List Alt → List Term → Term
union alts ts = Node (ops.Union alts) (plain_row ts)

-- the selection of this field
abbrev field : Name → Term → Term
field x u = Node (ops.Field x) (plain_row (u ∷ []))

-- the record of these labels and values
abbrev record_of : List Name → List Term → Term
record_of xs es = Node (ops.Record xs) (plain_row es)

-- the list of these elements
abbrev list : List Term → Term
list es = Node ops.List (plain_row es)

-- `< X | Y : Natural >`
abbrev xy : Term
xy = union (record { label = 88 ∷ []; typed = false } ∷ record { label = 89 ∷ []; typed = true } ∷ []) (builtin builtins.Natural ∷ [])

-- `{ a = 1, b = [ True ], c = None Natural, d = < X | Y : Natural >.X }`
abbrev four : Term
four = record_of ((97 ∷ []) ∷ (98 ∷ []) ∷ (99 ∷ []) ∷ (100 ∷ []) ∷ []) (natural 1 ∷ list (bool true ∷ []) ∷ app (builtin builtins.None) (builtin builtins.Natural) ∷ field (88 ∷ []) xy ∷ [])

four_value : Data
four_value = object (member (97 ∷ []) (number (unsigned 1)) (member (98 ∷ []) (array (item (boolean true) no_items)) (member (99 ∷ []) null (member (100 ∷ []) (string (88 ∷ [])) no_members))))

four_is : json four ≡ Ok four_value
unfolding four_value
four_is = refl

-- `< X | Y : Natural >.Y 3`
applied_is : json (app (field (89 ∷ []) xy) (natural 3)) ≡ Ok (number (unsigned 3))
applied_is = refl

-- `< X | Y : Natural >.Y` has no value
bare_is : json (field (89 ∷ []) xy) ≡ Err []
bare_is = refl

-- `{ f = λ(x : Bool) → x }` has none at 0
function_is : json (record_of ((102 ∷ []) ∷ []) (lambda (120 ∷ []) (builtin builtins.Bool) (Leaf (record { name = 120 ∷ []; index = 0 })) ∷ [])) ≡ Err (0 ∷ [])
function_is = refl

-- the second element of a list, applied to its alternative: `[ 1, < X | Y : Natural >.Y Bool ]` has none at 1/1
second_is : json (list (natural 1 ∷ app (field (89 ∷ []) xy) (builtin builtins.Bool) ∷ [])) ≡ Err (1 ∷ 1 ∷ [])
second_is = refl

-- the greatest natural number of 64 bits, and one more
greatest_is : json {A = _} {B = Name} (natural {A = Unit {0}} (2 ^ 64 - 1)) ≡ Ok (number (unsigned (2 ^ 64 - 1)))
greatest_is = refl

greater_is : json {A = _} {B = Name} (natural {A = Unit {0}} (2 ^ 64)) ≡ Err []
greater_is = refl

-- the least integer, and one less
least_is : json {A = _} {B = Name} (integer {A = Unit {0}} (negsuc (2 ^ 63 - 1))) ≡ Ok (number (negative (negsuc (2 ^ 63 - 1))))
least_is = refl

less_is : json {A = _} {B = Name} (integer {A = Unit {0}} (negsuc (2 ^ 63))) ≡ Err []
less_is = refl
