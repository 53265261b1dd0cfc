-- Worked examples of bytes that are read as expressions.
use Rattle.std.specs.Prelude.{pos, negsuc, true, false, [], ◌∷◌, Some, None, codes, replicate, refl}
use Rattle.std.proofs.Common.{lit≤}
use Rattle.std.specs.Char.{encode_utf8}
use Rattle.std.specs.Str.{is_utf8, chars}
use Rattle.dh_syntax.specs.declared.expressions.Op.TheVariants as ops
use Rattle.dh_syntax.specs.declared.locations.Loc.TheVariants as locs
use Rattle.dh_syntax.specs.declared.locations.Mode.TheVariants as mode
use Rattle.dh_syntax.specs.declared.operators.BinOp.TheVariants as op
use Rattle.dh_syntax.specs.declared.operators.Builtin.TheVariants as builtin
use Rattle.dh_syntax.specs.Bytes.BinaryHeads.{characters, simple}
use Rattle.dh_syntax.specs.Bytes.BinaryItems.{single, tagged}
use Rattle.dh_syntax.specs.Bytes.BinaryRead.{Reads}
use Rattle.dh_examples.specs.Bytes.ExampleBytes.{hex, u, minus, b, t, no, array, map}
use Rattle.dh_examples.specs.Vocabulary.{assert, bool_type, code_at, merge_typed, one_part, two_parts, typed, underscore, untyped, var, with_field, x, x0, y, y0}
use Rattle.dh_syntax.specs.Expressions.Forms.{annotation, app, bool, builtin, empty_list, field, forall, if_else, integer, lambda, let_in, let_typed, merge, natural, operator, plain_text, projection, projection_by_type, some, to_map, to_map_typed, update}
use Rattle.dh_syntax.specs.Expressions.Tree.{Node, end}

-- ---- one for each node

-- `_`
underscore_variable : Reads (hex "00") (var underscore 0)
underscore_variable = (u 0, refl, refl, lit≤ tt)

-- `_@7`
outer_underscore : Reads (hex "07") (var underscore 7)
outer_underscore = (u 7, refl, refl, lit≤ tt)

widest_index : Reads (hex "1A 7F FF FF FF") (var underscore 2147483647)
widest_index = (u 2147483647, refl, refl, lit≤ tt)

-- `x@1`
named_variable : Reads (hex "82 61 78 01") (var x 1)
named_variable = (array (t "x" ∷ u 1 ∷ []), refl, refl, lit≤ tt)

built_in : Reads (hex "6C 4E 61 74 75 72 61 6C 2F 66 6F 6C 64") (builtin builtin.NaturalFold)
built_in = (t "Natural/fold", refl, refl, lit≤ tt)

truth_values : Reads (hex "F5") (bool true)
truth_values = (single (simple 21), refl, refl, lit≤ tt)

falsehood : Reads (hex "F4") (bool false)
falsehood = (single (simple 20), refl, refl, lit≤ tt)

-- `1`
natural_number : Reads (hex "82 0F 01") (natural 1)
natural_number = (array (u 15 ∷ u 1 ∷ []), refl, refl, lit≤ tt)

widest_natural : Reads (hex "82 0F C2 50 FF FF FF FF FF FF FF FF FF FF FF FF FF FF FF FF") (natural 340282366920938463463374607431768211455)
widest_natural = (array (u 15 ∷ tagged 2 (b "FF FF FF FF FF FF FF FF FF FF FF FF FF FF FF FF") ∷ []), refl, refl, lit≤ tt)

-- `+2`
integer_number : Reads (hex "82 10 02") (integer (pos 2))
integer_number = (array (u 16 ∷ u 2 ∷ []), refl, refl, lit≤ tt)

-- `-1`
negative_number : Reads (hex "82 10 20") (integer (negsuc 0))
negative_number = (array (u 16 ∷ minus 0 ∷ []), refl, refl, lit≤ tt)

least_integer : Reads (hex "82 10 C3 50 7F FF FF FF FF FF FF FF FF FF FF FF FF FF FF FF") (integer (negsuc 170141183460469231731687303715884105727))
least_integer = (array (u 16 ∷ tagged 3 (b "7F FF FF FF FF FF FF FF FF FF FF FF FF FF FF FF") ∷ []), refl, refl, lit≤ tt)

greatest_integer : Reads (hex "82 10 C2 50 7F FF FF FF FF FF FF FF FF FF FF FF FF FF FF FF") (integer (pos 170141183460469231731687303715884105727))
greatest_integer = (array (u 16 ∷ tagged 2 (b "7F FF FF FF FF FF FF FF FF FF FF FF FF FF FF FF") ∷ []), refl, refl, lit≤ tt)

-- `"hi"`
text_ : Reads (hex "82 12 62 68 69") (plain_text (codes "hi"))
unfolding is_utf8 chars encode_utf8
text_ = (array (u 18 ∷ t "hi" ∷ []), refl, refl, lit≤ tt)

-- `"a${x}é"`
interpolation : Reads (hex "84 12 61 61 82 61 78 00 62 C3 A9") (Node (ops.Text (codes "a" ∷ (0xC3 ∷ 0xA9 ∷ []) ∷ [])) (one_part x0))
unfolding is_utf8 chars encode_utf8
interpolation = (array (u 18 ∷ t "a" ∷ array (t "x" ∷ u 0 ∷ []) ∷ single (characters (0xC3 ∷ 0xA9 ∷ [])) ∷ []), refl, refl, lit≤ tt)

-- `λ(x : Bool) → x`
a_lambda : Reads (hex "84 01 61 78 64 42 6F 6F 6C 82 61 78 00") (lambda x bool_type x0)
a_lambda = (array (u 1 ∷ t "x" ∷ t "Bool" ∷ array (t "x" ∷ u 0 ∷ []) ∷ []), refl, refl, lit≤ tt)

-- `λ(_ : Bool) → _`
nameless_lambda : Reads (hex "83 01 64 42 6F 6F 6C 00") (lambda underscore bool_type (var underscore 0))
nameless_lambda = (array (u 1 ∷ t "Bool" ∷ u 0 ∷ []), refl, refl, lit≤ tt)

-- `∀(x : Bool) → x`
function_type : Reads (hex "84 02 61 78 64 42 6F 6F 6C 82 61 78 00") (forall x bool_type x0)
function_type = (array (u 2 ∷ t "x" ∷ t "Bool" ∷ array (t "x" ∷ u 0 ∷ []) ∷ []), refl, refl, lit≤ tt)

-- `Bool → Bool`
nameless_function_type : Reads (hex "83 02 64 42 6F 6F 6C 64 42 6F 6F 6C") (forall underscore bool_type bool_type)
nameless_function_type = (array (u 2 ∷ t "Bool" ∷ t "Bool" ∷ []), refl, refl, lit≤ tt)

-- `let x = True in x`
let_ : Reads (hex "85 18 19 61 78 F6 F5 82 61 78 00") (let_in x (bool true) x0)
let_ = (array (u 25 ∷ t "x" ∷ no ∷ single (simple 21) ∷ array (t "x" ∷ u 0 ∷ []) ∷ []), refl, refl, lit≤ tt)

-- `let x : Bool = True in x`
typed_let : Reads (hex "85 18 19 61 78 64 42 6F 6F 6C F5 82 61 78 00") (let_typed x bool_type (bool true) x0)
typed_let = (array (u 25 ∷ t "x" ∷ t "Bool" ∷ single (simple 21) ∷ array (t "x" ∷ u 0 ∷ []) ∷ []), refl, refl, lit≤ tt)

-- `let _ = True in _`
let_of_underscore : Reads (hex "85 18 19 61 5F F6 F5 00") (let_in underscore (bool true) (var underscore 0))
let_of_underscore = (array (u 25 ∷ t "_" ∷ no ∷ single (simple 21) ∷ u 0 ∷ []), refl, refl, lit≤ tt)

-- `let x = True let y : Bool = x in y`
lets_in_one : Reads (hex "88 18 19 61 78 F6 F5 61 79 64 42 6F 6F 6C 82 61 78 00 82 61 79 00") (let_in x (bool true) (let_typed y bool_type x0 y0))
lets_in_one = (array (u 25 ∷ t "x" ∷ no ∷ single (simple 21) ∷ t "y" ∷ t "Bool" ∷ array (t "x" ∷ u 0 ∷ []) ∷ array (t "y" ∷ u 0 ∷ []) ∷ []), refl, refl, lit≤ tt)

-- `x y x`
application : Reads (hex "84 00 82 61 78 00 82 61 79 00 82 61 78 00") (app (app x0 y0) x0)
application = (array (u 0 ∷ array (t "x" ∷ u 0 ∷ []) ∷ array (t "y" ∷ u 0 ∷ []) ∷ array (t "x" ∷ u 0 ∷ []) ∷ []), refl, refl, lit≤ tt)

-- `if True then 1 else 2`
if_ : Reads (hex "84 0E F5 82 0F 01 82 0F 02") (if_else (bool true) (natural 1) (natural 2))
if_ = (array (u 14 ∷ single (simple 21) ∷ array (u 15 ∷ u 1 ∷ []) ∷ array (u 15 ∷ u 2 ∷ []) ∷ []), refl, refl, lit≤ tt)

-- `1 + 2`
sum : Reads (hex "84 03 04 82 0F 01 82 0F 02") (operator op.Plus (natural 1) (natural 2))
sum = (array (u 3 ∷ u 4 ∷ array (u 15 ∷ u 1 ∷ []) ∷ array (u 15 ∷ u 2 ∷ []) ∷ []), refl, refl, lit≤ tt)

operator_or : Reads (hex "84 03 00 00 01") (operator op.Or (var underscore 0) (var underscore 1))
operator_or = (array (u 3 ∷ u 0 ∷ u 0 ∷ u 1 ∷ []), refl, refl, lit≤ tt)

operator_and : Reads (hex "84 03 01 00 01") (operator op.And (var underscore 0) (var underscore 1))
operator_and = (array (u 3 ∷ u 1 ∷ u 0 ∷ u 1 ∷ []), refl, refl, lit≤ tt)

operator_equal : Reads (hex "84 03 02 00 01") (operator op.Equal (var underscore 0) (var underscore 1))
operator_equal = (array (u 3 ∷ u 2 ∷ u 0 ∷ u 1 ∷ []), refl, refl, lit≤ tt)

operator_not_equal : Reads (hex "84 03 03 00 01") (operator op.NotEqual (var underscore 0) (var underscore 1))
operator_not_equal = (array (u 3 ∷ u 3 ∷ u 0 ∷ u 1 ∷ []), refl, refl, lit≤ tt)

operator_times : Reads (hex "84 03 05 00 01") (operator op.Times (var underscore 0) (var underscore 1))
operator_times = (array (u 3 ∷ u 5 ∷ u 0 ∷ u 1 ∷ []), refl, refl, lit≤ tt)

operator_text_append : Reads (hex "84 03 06 00 01") (operator op.TextAppend (var underscore 0) (var underscore 1))
operator_text_append = (array (u 3 ∷ u 6 ∷ u 0 ∷ u 1 ∷ []), refl, refl, lit≤ tt)

operator_list_append : Reads (hex "84 03 07 00 01") (operator op.ListAppend (var underscore 0) (var underscore 1))
operator_list_append = (array (u 3 ∷ u 7 ∷ u 0 ∷ u 1 ∷ []), refl, refl, lit≤ tt)

operator_combine : Reads (hex "84 03 08 00 01") (operator op.Combine (var underscore 0) (var underscore 1))
operator_combine = (array (u 3 ∷ u 8 ∷ u 0 ∷ u 1 ∷ []), refl, refl, lit≤ tt)

operator_prefer : Reads (hex "84 03 09 00 01") (operator op.Prefer (var underscore 0) (var underscore 1))
operator_prefer = (array (u 3 ∷ u 9 ∷ u 0 ∷ u 1 ∷ []), refl, refl, lit≤ tt)

operator_combine_types : Reads (hex "84 03 0A 00 01") (operator op.CombineTypes (var underscore 0) (var underscore 1))
operator_combine_types = (array (u 3 ∷ u 10 ∷ u 0 ∷ u 1 ∷ []), refl, refl, lit≤ tt)

operator_fallback : Reads (hex "84 03 0B 00 01") (operator op.Fallback (var underscore 0) (var underscore 1))
operator_fallback = (array (u 3 ∷ u 11 ∷ u 0 ∷ u 1 ∷ []), refl, refl, lit≤ tt)

operator_equivalent : Reads (hex "84 03 0C 00 01") (operator op.Equivalent (var underscore 0) (var underscore 1))
operator_equivalent = (array (u 3 ∷ u 12 ∷ u 0 ∷ u 1 ∷ []), refl, refl, lit≤ tt)

operator_complete : Reads (hex "84 03 0D 00 01") (operator op.Complete (var underscore 0) (var underscore 1))
operator_complete = (array (u 3 ∷ u 13 ∷ u 0 ∷ u 1 ∷ []), refl, refl, lit≤ tt)

-- `[] : List Bool`
empty_list_ : Reads (hex "82 04 64 42 6F 6F 6C") (empty_list (app (builtin builtin.List) bool_type))
empty_list_ = (array (u 4 ∷ t "Bool" ∷ []), refl, refl, lit≤ tt)

-- `[] : x`
empty_list_of_type : Reads (hex "82 18 1C 82 61 78 00") (empty_list x0)
empty_list_of_type = (array (u 28 ∷ array (t "x" ∷ u 0 ∷ []) ∷ []), refl, refl, lit≤ tt)

-- `[ True, False ]`
list_ : Reads (hex "84 04 F6 F5 F4") (Node ops.List (two_parts (bool true) (bool false)))
list_ = (array (u 4 ∷ no ∷ single (simple 21) ∷ single (simple 20) ∷ []), refl, refl, lit≤ tt)

-- `Some True`
some_ : Reads (hex "83 05 F6 F5") (some (bool true))
some_ = (array (u 5 ∷ no ∷ single (simple 21) ∷ []), refl, refl, lit≤ tt)

-- `merge x y`
merge_ : Reads (hex "83 06 82 61 78 00 82 61 79 00") (merge x0 y0)
merge_ = (array (u 6 ∷ array (t "x" ∷ u 0 ∷ []) ∷ array (t "y" ∷ u 0 ∷ []) ∷ []), refl, refl, lit≤ tt)

-- `merge x y : Bool`
annotated_merge : Reads (hex "84 06 82 61 78 00 82 61 79 00 64 42 6F 6F 6C") (merge_typed x0 y0 bool_type)
annotated_merge = (array (u 6 ∷ array (t "x" ∷ u 0 ∷ []) ∷ array (t "y" ∷ u 0 ∷ []) ∷ t "Bool" ∷ []), refl, refl, lit≤ tt)

-- `{ x : Bool }`
record_type : Reads (hex "82 07 A1 61 78 64 42 6F 6F 6C") (Node (ops.RecordType (x ∷ [])) (one_part bool_type))
record_type = (array (u 7 ∷ map (t "x" ∷ t "Bool" ∷ []) ∷ []), refl, refl, lit≤ tt)

-- `{ x = True, y = False }`
record_ : Reads (hex "82 08 A2 61 78 F5 61 79 F4") (Node (ops.Record (x ∷ y ∷ [])) (two_parts (bool true) (bool false)))
record_ = (array (u 8 ∷ map (t "x" ∷ single (simple 21) ∷ t "y" ∷ single (simple 20) ∷ []) ∷ []), refl, refl, lit≤ tt)

-- `{=}`
empty_record : Reads (hex "82 08 A0") (Node (ops.Record []) end)
empty_record = (array (u 8 ∷ map ([]) ∷ []), refl, refl, lit≤ tt)

-- `x.y`
field_ : Reads (hex "83 09 82 61 78 00 61 79") (field x0 y)
field_ = (array (u 9 ∷ array (t "x" ∷ u 0 ∷ []) ∷ t "y" ∷ []), refl, refl, lit≤ tt)

-- `x.{ x, y }`
a_projection : Reads (hex "84 0A 82 61 78 00 61 78 61 79") (projection x0 (x ∷ y ∷ []))
a_projection = (array (u 10 ∷ array (t "x" ∷ u 0 ∷ []) ∷ t "x" ∷ t "y" ∷ []), refl, refl, lit≤ tt)

-- `x.{}`
empty_projection : Reads (hex "82 0A 82 61 78 00") (projection x0 [])
empty_projection = (array (u 10 ∷ array (t "x" ∷ u 0 ∷ []) ∷ []), refl, refl, lit≤ tt)

-- `x.(y)`
a_projection_by_type : Reads (hex "83 0A 82 61 78 00 81 82 61 79 00") (projection_by_type x0 y0)
a_projection_by_type = (array (u 10 ∷ array (t "x" ∷ u 0 ∷ []) ∷ array (array (t "y" ∷ u 0 ∷ []) ∷ []) ∷ []), refl, refl, lit≤ tt)

-- `< x | y : Bool >`
union_ : Reads (hex "82 0B A2 61 78 F6 61 79 64 42 6F 6F 6C") (Node (ops.Union (untyped x ∷ typed y ∷ [])) (one_part bool_type))
union_ = (array (u 11 ∷ map (t "x" ∷ no ∷ t "y" ∷ t "Bool" ∷ []) ∷ []), refl, refl, lit≤ tt)

-- `assert : x`
assertion : Reads (hex "82 13 82 61 78 00") (assert x0)
assertion = (array (u 19 ∷ array (t "x" ∷ u 0 ∷ []) ∷ []), refl, refl, lit≤ tt)

-- `x : Bool`
an_annotation : Reads (hex "83 18 1A 82 61 78 00 64 42 6F 6F 6C") (annotation x0 bool_type)
an_annotation = (array (u 26 ∷ array (t "x" ∷ u 0 ∷ []) ∷ t "Bool" ∷ []), refl, refl, lit≤ tt)

-- `toMap x`
to_map_ : Reads (hex "82 18 1B 82 61 78 00") (to_map x0)
to_map_ = (array (u 27 ∷ array (t "x" ∷ u 0 ∷ []) ∷ []), refl, refl, lit≤ tt)

-- `toMap x : y`
annotated_to_map : Reads (hex "83 18 1B 82 61 78 00 82 61 79 00") (to_map_typed x0 y0)
annotated_to_map = (array (u 27 ∷ array (t "x" ∷ u 0 ∷ []) ∷ array (t "y" ∷ u 0 ∷ []) ∷ []), refl, refl, lit≤ tt)

-- `x with y.x = True`
update_ : Reads (hex "84 18 1D 82 61 78 00 82 61 79 61 78 F5") (update x0 (y ∷ x ∷ []) (bool true))
update_ = (array (u 29 ∷ array (t "x" ∷ u 0 ∷ []) ∷ array (t "y" ∷ t "x" ∷ []) ∷ single (simple 21) ∷ []), refl, refl, lit≤ tt)

-- `./x/y`
local_import : Reads (hex "86 18 18 F6 00 03 61 78 61 79") (code_at (locs.Here (x ∷ y ∷ [])))
local_import = (array (u 24 ∷ no ∷ u 0 ∷ u 3 ∷ t "x" ∷ t "y" ∷ []), refl, refl, lit≤ tt)

-- `/x as Text`
absolute_import : Reads (hex "85 18 18 F6 01 02 61 78") (Node (ops.Import (record { loc = locs.Abs (x ∷ []); mode = mode.Text; digest = None })) end)
absolute_import = (array (u 24 ∷ no ∷ u 1 ∷ u 2 ∷ t "x" ∷ []), refl, refl, lit≤ tt)

-- `../x as Location`
parent_import : Reads (hex "85 18 18 F6 02 04 61 78") (Node (ops.Import (record { loc = locs.Parent (x ∷ []); mode = mode.Location; digest = None })) end)
parent_import = (array (u 24 ∷ no ∷ u 2 ∷ u 4 ∷ t "x" ∷ []), refl, refl, lit≤ tt)

-- `~/x`
home_import : Reads (hex "85 18 18 F6 00 05 61 78") (code_at (locs.Home (x ∷ [])))
home_import = (array (u 24 ∷ no ∷ u 0 ∷ u 5 ∷ t "x" ∷ []), refl, refl, lit≤ tt)

-- `https://x/y?z`
https_import : Reads (hex "88 18 18 F6 00 01 F6 61 78 61 79 61 7A") (code_at (locs.Https (record { host = x; comps = y ∷ []; query = Some (codes "z") })))
https_import = (array (u 24 ∷ no ∷ u 0 ∷ u 1 ∷ no ∷ t "x" ∷ t "y" ∷ t "z" ∷ []), refl, refl, lit≤ tt)

-- `http://x/y/`
http_import : Reads (hex "89 18 18 F6 00 00 F6 61 78 61 79 60 F6") (code_at (locs.Http (record { host = x; comps = y ∷ [] ∷ []; query = None })))
http_import = (array (u 24 ∷ no ∷ u 0 ∷ u 0 ∷ no ∷ t "x" ∷ t "y" ∷ t "" ∷ no ∷ []), refl, refl, lit≤ tt)

-- `env:x`
environment_import : Reads (hex "85 18 18 F6 00 06 61 78") (code_at (locs.Env x))
environment_import = (array (u 24 ∷ no ∷ u 0 ∷ u 6 ∷ t "x" ∷ []), refl, refl, lit≤ tt)

-- `missing`
missing_import : Reads (hex "84 18 18 F6 00 07") (code_at locs.Missing)
missing_import = (array (u 24 ∷ no ∷ u 0 ∷ u 7 ∷ []), refl, refl, lit≤ tt)

-- `missing sha256:` and 64 zeros
frozen_import : Reads (hex "84 18 18 58 22 12 20 00 00 00 00 00 00 00 00 00 00 00 00 00 00 00 00 00 00 00 00 00 00 00 00 00 00 00 00 00 00 00 00 00 07") (Node (ops.Import (record { loc = locs.Missing; mode = mode.Code; digest = Some (record { 0 = replicate 32 0 }) })) end)
frozen_import = (array (u 24 ∷ b "12 20 00 00 00 00 00 00 00 00 00 00 00 00 00 00 00 00 00 00 00 00 00 00 00 00 00 00 00 00 00 00 00 00" ∷ u 0 ∷ u 7 ∷ []), refl, refl, lit≤ tt)

-- ---- further spellings

-- `1 + 2` with an array head of two bytes
longer_array : Reads (hex "98 04 03 04 82 0F 01 82 0F 02") (operator op.Plus (natural 1) (natural 2))
longer_array = (array (u 3 ∷ u 4 ∷ array (u 15 ∷ u 1 ∷ []) ∷ array (u 15 ∷ u 2 ∷ []) ∷ []), refl, refl, lit≤ tt)

-- the same with heads of three, five and nine bytes
longer_heads : Reads (hex "99 00 04 1A 00 00 00 03 1B 00 00 00 00 00 00 00 04 82 0F 01 82 0F 02") (operator op.Plus (natural 1) (natural 2))
longer_heads = (array (u 3 ∷ u 4 ∷ array (u 15 ∷ u 1 ∷ []) ∷ array (u 15 ∷ u 2 ∷ []) ∷ []), refl, refl, lit≤ tt)

-- `x`
longer_strings : Reads (hex "82 78 01 78 19 00 00") (var x 0)
longer_strings = (array (t "x" ∷ u 0 ∷ []), refl, refl, lit≤ tt)

longer_truth : Reads (hex "F8 15") (bool true)
longer_truth = (single (simple 21), refl, refl, lit≤ tt)

-- `Some True`
longer_null : Reads (hex "83 05 F8 16 F5") (some (bool true))
longer_null = (array (u 5 ∷ no ∷ single (simple 21) ∷ []), refl, refl, lit≤ tt)

longer_map : Reads (hex "82 08 B8 01 61 78 F5") (with_field x (bool true))
longer_map = (array (u 8 ∷ map (t "x" ∷ single (simple 21) ∷ []) ∷ []), refl, refl, lit≤ tt)

-- `{ x = True, y = False }`
keys_in_any_order : Reads (hex "82 08 A2 61 79 F4 61 78 F5") (Node (ops.Record (x ∷ y ∷ [])) (two_parts (bool true) (bool false)))
keys_in_any_order = (array (u 8 ∷ map (t "y" ∷ single (simple 20) ∷ t "x" ∷ single (simple 21) ∷ []) ∷ []), refl, refl, lit≤ tt)

shorter_keys_later : Reads (hex "82 07 A2 61 78 64 42 6F 6F 6C 60 64 42 6F 6F 6C") (Node (ops.RecordType ([] ∷ x ∷ [])) (two_parts bool_type bool_type))
shorter_keys_later = (array (u 7 ∷ map (t "x" ∷ t "Bool" ∷ t "" ∷ t "Bool" ∷ []) ∷ []), refl, refl, lit≤ tt)

-- `< x | y : Bool >`
alternatives_in_any_order : Reads (hex "82 0B A2 61 79 64 42 6F 6F 6C 61 78 F6") (Node (ops.Union (untyped x ∷ typed y ∷ [])) (one_part bool_type))
alternatives_in_any_order = (array (u 11 ∷ map (t "y" ∷ t "Bool" ∷ t "x" ∷ no ∷ []) ∷ []), refl, refl, lit≤ tt)

-- `x.{ x, y }`
labels_in_any_order : Reads (hex "84 0A 82 61 78 00 61 79 61 78") (projection x0 (x ∷ y ∷ []))
labels_in_any_order = (array (u 10 ∷ array (t "x" ∷ u 0 ∷ []) ∷ t "y" ∷ t "x" ∷ []), refl, refl, lit≤ tt)

-- `x with y.x = True`, where no label need be new
path_keeps_its_order : Reads (hex "84 18 1D 82 61 78 00 83 61 79 61 78 61 79 F5") (update x0 (y ∷ x ∷ y ∷ []) (bool true))
path_keeps_its_order = (array (u 29 ∷ array (t "x" ∷ u 0 ∷ []) ∷ array (t "y" ∷ t "x" ∷ t "y" ∷ []) ∷ single (simple 21) ∷ []), refl, refl, lit≤ tt)

-- `x y x`
nested_applications : Reads (hex "83 00 83 00 82 61 78 00 82 61 79 00 82 61 78 00") (app (app x0 y0) x0)
nested_applications = (array (u 0 ∷ array (u 0 ∷ array (t "x" ∷ u 0 ∷ []) ∷ array (t "y" ∷ u 0 ∷ []) ∷ []) ∷ array (t "x" ∷ u 0 ∷ []) ∷ []), refl, refl, lit≤ tt)

-- `let x = True let y : Bool = x in y`
nested_lets : Reads (hex "85 18 19 61 78 F6 F5 85 18 19 61 79 64 42 6F 6F 6C 82 61 78 00 82 61 79 00") (let_in x (bool true) (let_typed y bool_type x0 y0))
nested_lets = (array (u 25 ∷ t "x" ∷ no ∷ single (simple 21) ∷ array (u 25 ∷ t "y" ∷ t "Bool" ∷ array (t "x" ∷ u 0 ∷ []) ∷ array (t "y" ∷ u 0 ∷ []) ∷ []) ∷ []), refl, refl, lit≤ tt)

-- `[] : List Bool`
long_empty_list : Reads (hex "82 18 1C 83 00 64 4C 69 73 74 64 42 6F 6F 6C") (empty_list (app (builtin builtin.List) bool_type))
long_empty_list = (array (u 28 ∷ array (u 0 ∷ t "List" ∷ t "Bool" ∷ []) ∷ []), refl, refl, lit≤ tt)

-- `1`
small_bignum : Reads (hex "82 0F C2 41 01") (natural 1)
small_bignum = (array (u 15 ∷ tagged 2 (b "01") ∷ []), refl, refl, lit≤ tt)

-- `0`
empty_bignum : Reads (hex "82 0F C2 40") (natural 0)
empty_bignum = (array (u 15 ∷ tagged 2 (b "") ∷ []), refl, refl, lit≤ tt)

-- `1`
long_bignum : Reads (hex "82 0F C2 50 00 00 00 00 00 00 00 00 00 00 00 00 00 00 00 01") (natural 1)
long_bignum = (array (u 15 ∷ tagged 2 (b "00 00 00 00 00 00 00 00 00 00 00 00 00 00 00 01") ∷ []), refl, refl, lit≤ tt)

-- `+1`
small_integer_bignum : Reads (hex "82 10 C2 41 01") (integer (pos 1))
small_integer_bignum = (array (u 16 ∷ tagged 2 (b "01") ∷ []), refl, refl, lit≤ tt)

-- `-1`
small_negative_bignum : Reads (hex "82 10 C3 40") (integer (negsuc 0))
small_negative_bignum = (array (u 16 ∷ tagged 3 (b "") ∷ []), refl, refl, lit≤ tt)

-- `18446744073709551615`, `-18446744073709551616`
widest_head : Reads (hex "82 0F 1B FF FF FF FF FF FF FF FF") (natural 18446744073709551615)
widest_head = (array (u 15 ∷ u 18446744073709551615 ∷ []), refl, refl, lit≤ tt)

widest_negative_head : Reads (hex "82 10 3B FF FF FF FF FF FF FF FF") (integer (negsuc 18446744073709551615))
widest_negative_head = (array (u 16 ∷ minus 18446744073709551615 ∷ []), refl, refl, lit≤ tt)

-- `{ _ = True }`
underscore_key : Reads (hex "82 08 A1 61 5F F5") (with_field underscore (bool true))
underscore_key = (array (u 8 ∷ map (t "_" ∷ single (simple 21) ∷ []) ∷ []), refl, refl, lit≤ tt)

tag_of_cbor : Reads (hex "D9 D9 F7 F5") (bool true)
tag_of_cbor = (tagged 55799 (single (simple 21)), refl, refl, lit≤ tt)

tags_of_cbor : Reads (hex "D9 D9 F7 DA 00 00 D9 F7 F5") (bool true)
tags_of_cbor = (tagged 55799 (tagged 55799 (single (simple 21))), refl, refl, lit≤ tt)

-- a text with U+FFFF
non_characters : Reads (hex "82 12 63 EF BF BF") (plain_text (0xEF ∷ 0xBF ∷ 0xBF ∷ []))
unfolding is_utf8 chars encode_utf8
non_characters = (array (u 18 ∷ single (characters (0xEF ∷ 0xBF ∷ 0xBF ∷ [])) ∷ []), refl, refl, lit≤ tt)
