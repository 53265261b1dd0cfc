-- Worked examples of printed text.
use Rattle.std.specs.Prelude.{◌≡◌, pos, negsuc, true, false, [], ◌∷◌, ◌++◌, Some, None, codes, encode_utf8_all, replicate, refl}
use Rattle.std.specs.Char.{encode_utf8}
use Rattle.std.specs.Fmt.{digits}
use Rattle.dh_syntax.specs.declared.expressions.Op.TheVariants as ops
use Rattle.dh_syntax.specs.declared.locations.Loc.TheVariants as locs
use Rattle.dh_syntax.specs.declared.locations.Mode.TheVariants as mode
use Rattle.dh_syntax.specs.declared.operators.BinOp.TheVariants as op
use Rattle.dh_syntax.specs.declared.operators.Builtin.TheVariants as builtin
use Rattle.dh_syntax.specs.Expressions.Tree.{Node, end, Term}
use Rattle.dh_syntax.specs.Text.Printed.{text_of}
use Rattle.dh_examples.specs.Vocabulary.{assert, bool_type, code_at, merge_typed, natural_type, one_part, three_parts, two_parts, typed, underscore, untyped, var, with_field, x, x0, y, y0}
use Rattle.dh_syntax.specs.Expressions.Forms.{annotation, app, bool, builtin, empty_list, field, forall, if_else, integer, lambda, let_in, let_typed, merge, natural, operator, plain_text, projection, projection_by_type, some, to_map, to_map_typed, update}
use Prim.Native.String.{String}

-- the expression is printed as this text
Prints : Term → String → Type 0
unfolding encode_utf8 digits
Prints e s = text_of e ≡ encode_utf8_all (codes s)

-- ---- variables and labels

plain_variable : Prints x0 "x"
unfolding Prints
plain_variable = refl

outer_variable : Prints (var x 2) "x@2"
unfolding Prints
outer_variable = refl

underscore_variable : Prints (var underscore 0) "_"
unfolding Prints
underscore_variable = refl

long_label : Prints (var (codes "a-b/c_1") 0) "a-b/c_1"
unfolding Prints
long_label = refl

quoted_keyword : Prints (var (codes "in") 0) "`in`"
unfolding Prints
quoted_keyword = refl

quoted_keyword_some : Prints (var (codes "Some") 0) "`Some`"
unfolding Prints
quoted_keyword_some = refl

quoted_keyword_not_a_number : Prints (var (codes "NaN") 0) "`NaN`"
unfolding Prints
quoted_keyword_not_a_number = refl

quoted_builtin_label : Prints (var (codes "List/head") 0) "`List/head`"
unfolding Prints
quoted_builtin_label = refl

quoted_truth_label : Prints (var (codes "True") 0) "`True`"
unfolding Prints
quoted_truth_label = refl

quoted_left_out_label : Prints (var (codes "Double") 0) "`Double`"
unfolding Prints
quoted_left_out_label = refl

quoted_left_out_long_label : Prints (var (codes "Integer/toDouble") 0) "`Integer/toDouble`"
unfolding Prints
quoted_left_out_long_label = refl

quoted_outer_variable : Prints (var (codes "as") 1) "`as`@1"
unfolding Prints
quoted_outer_variable = refl

quoted_space : Prints (var (codes "a b") 0) "`a b`"
unfolding Prints
quoted_space = refl

quoted_digit : Prints (var (codes "1") 0) "`1`"
unfolding Prints
quoted_digit = refl

quoted_empty : Prints (var [] 0) "``"
unfolding Prints
quoted_empty = refl

label_that_begins_as_a_keyword : Prints (var (codes "inner") 0) "inner"
unfolding Prints
label_that_begins_as_a_keyword = refl

-- ---- numbers, truth values and built-ins

natural_zero : Prints (natural 0) "0"
unfolding Prints
natural_zero = refl

a_natural : Prints (natural 1024) "1024"
unfolding Prints
a_natural = refl

widest_natural : Prints (natural 340282366920938463463374607431768211455) "340282366920938463463374607431768211455"
unfolding Prints
widest_natural = refl

integer_zero : Prints (integer (pos 0)) "+0"
unfolding Prints
integer_zero = refl

positive_integer : Prints (integer (pos 7)) "+7"
unfolding Prints
positive_integer = refl

negative_integer : Prints (integer (negsuc 6)) "-7"
unfolding Prints
negative_integer = refl

least_integer : Prints (integer (negsuc 170141183460469231731687303715884105727)) "-170141183460469231731687303715884105728"
unfolding Prints
least_integer = refl

true_ : Prints (bool true) "True"
unfolding Prints
true_ = refl

false_ : Prints (bool false) "False"
unfolding Prints
false_ = refl

fold : Prints (builtin builtin.NaturalFold) "Natural/fold"
unfolding Prints
fold = refl

kind : Prints (builtin builtin.Kind) "Kind"
unfolding Prints
kind = refl

-- ---- texts

a_plain_text : Prints (plain_text (codes "hi")) "\"hi\""
unfolding Prints
a_plain_text = refl

empty_text : Prints (plain_text []) "\"\""
unfolding Prints
empty_text = refl

escapes : Prints (plain_text (codes "\"\\$" ++ 8 ∷ 12 ∷ 10 ∷ 13 ∷ 9 ∷ [])) "\"\\\"\\\\\\$\\b\\f\\n\\r\\t\""
unfolding Prints
escapes = refl

controls : Prints (plain_text (0 ∷ 31 ∷ [])) "\"\\u0000\\u001F\""
unfolding Prints
controls = refl

delete : Prints (plain_text (127 ∷ [])) "\"\u{7f}\""
unfolding Prints
delete = refl

text_past_ascii : Prints (plain_text (encode_utf8_all (codes "é☺"))) "\"é☺\""
unfolding Prints
text_past_ascii = refl

lines : Prints (plain_text (codes "a\n  b\n")) "\"a\\n  b\\n\""
unfolding Prints
lines = refl

interpolation : Prints (Node (ops.Text ([] ∷ codes "!" ∷ [])) (one_part (var (codes "t") 0))) "\"${t}!\""
unfolding Prints
interpolation = refl

two_interpolations : Prints (Node (ops.Text (codes "a" ∷ codes "$" ∷ [] ∷ [])) (two_parts x0 (operator op.TextAppend x0 y0))) "\"a${x}\\$${x ++ y}\""
unfolding Prints
two_interpolations = refl

shown_text : Prints (plain_text (codes "\"a\\u0024\"")) "\"\\\"a\\\\u0024\\\"\""
unfolding Prints
shown_text = refl

-- ---- functions and lets

a_lambda : Prints (lambda x bool_type x0) "λ(x : Bool) → x"
unfolding Prints
a_lambda = refl

lambda_of_underscore : Prints (lambda underscore bool_type (var underscore 0)) "λ(_ : Bool) → _"
unfolding Prints
lambda_of_underscore = refl

two_lambdas : Prints (lambda y natural_type (lambda y natural_type (var y 1))) "λ(y : Natural) → λ(y : Natural) → y@1"
unfolding Prints
two_lambdas = refl

lambda_with_quoted_label : Prints (lambda (codes "let") bool_type x0) "λ(`let` : Bool) → x"
unfolding Prints
lambda_with_quoted_label = refl

function_type : Prints (forall x natural_type natural_type) "∀(x : Natural) → Natural"
unfolding Prints
function_type = refl

plain_function_type : Prints (forall underscore natural_type natural_type) "Natural → Natural"
unfolding Prints
plain_function_type = refl

function_type_of_functions : Prints (forall underscore (forall underscore natural_type natural_type) (forall underscore natural_type natural_type)) "(Natural → Natural) → Natural → Natural"
unfolding Prints
function_type_of_functions = refl

function_type_of_equivalence : Prints (forall underscore (operator op.Equivalent x0 y0) natural_type) "x ≡ y → Natural"
unfolding Prints
function_type_of_equivalence = refl

function_type_of_annotation : Prints (forall underscore (annotation x0 y0) natural_type) "(x : y) → Natural"
unfolding Prints
function_type_of_annotation = refl

let_ : Prints (let_in x (natural 1) x0) "let x = 1 in x"
unfolding Prints
let_ = refl

typed_let : Prints (let_typed x natural_type (natural 1) x0) "let x : Natural = 1 in x"
unfolding Prints
typed_let = refl

nested_lets : Prints (let_in x (natural 1) (let_in y x0 y0)) "let x = 1 in let y = x in y"
unfolding Prints
nested_lets = refl

let_in_value : Prints (let_in x (let_in y (natural 1) y0) x0) "let x = let y = 1 in y in x"
unfolding Prints
let_in_value = refl

-- ---- forms that go on to the right

if_ : Prints (if_else x0 (natural 1) (natural 2)) "if x then 1 else 2"
unfolding Prints
if_ = refl

if_in_if : Prints (if_else (if_else x0 x0 y0) (lambda x bool_type x0) (annotation x0 y0)) "if if x then x else y then λ(x : Bool) → x else x : y"
unfolding Prints
if_in_if = refl

assertion : Prints (assert (operator op.Equivalent (natural 2) (natural 2))) "assert : 2 ≡ 2"
unfolding Prints
assertion = refl

an_annotation : Prints (annotation x0 y0) "x : y"
unfolding Prints
an_annotation = refl

annotation_of_operation : Prints (annotation (operator op.Equivalent x0 y0) (forall underscore x0 y0)) "x ≡ y : x → y"
unfolding Prints
annotation_of_operation = refl

annotation_of_annotation : Prints (annotation (annotation x0 y0) (annotation x0 y0)) "(x : y) : x : y"
unfolding Prints
annotation_of_annotation = refl

annotation_of_merge : Prints (annotation (merge x0 y0) bool_type) "(merge x y) : Bool"
unfolding Prints
annotation_of_merge = refl

annotation_of_annotated_merge : Prints (annotation (merge_typed x0 y0 bool_type) bool_type) "(merge x y : Bool) : Bool"
unfolding Prints
annotation_of_annotated_merge = refl

annotation_of_applied_merge : Prints (annotation (app (merge x0 y0) x0) bool_type) "merge x y x : Bool"
unfolding Prints
annotation_of_applied_merge = refl

annotation_of_map : Prints (annotation (to_map x0) bool_type) "(toMap x) : Bool"
unfolding Prints
annotation_of_map = refl

annotation_of_some : Prints (annotation (some x0) bool_type) "Some x : Bool"
unfolding Prints
annotation_of_some = refl

empty_list_ : Prints (empty_list (app (builtin builtin.List) bool_type)) "[] : List Bool"
unfolding Prints
empty_list_ = refl

update_ : Prints (update x0 (x ∷ []) (natural 1)) "x with x = 1"
unfolding Prints
update_ = refl

update_along_path : Prints (update x0 (x ∷ y ∷ codes "Type" ∷ []) (operator op.Plus (natural 1) (natural 2))) "x with x.y.`Type` = 1 + 2"
unfolding Prints
update_along_path = refl

two_updates : Prints (update (update x0 (x ∷ []) (natural 1)) (y ∷ []) (if_else x0 y0 y0)) "(x with x = 1) with y = (if x then y else y)"
unfolding Prints
two_updates = refl

update_of_application : Prints (update (app x0 y0) (x ∷ []) y0) "(x y) with x = y"
unfolding Prints
update_of_application = refl

update_of_import : Prints (update (code_at (locs.Here (x ∷ []))) (x ∷ []) y0) "./x with x = y"
unfolding Prints
update_of_import = refl

update_of_completion : Prints (update (operator op.Complete x0 y0) (x ∷ []) y0) "x::y with x = y"
unfolding Prints
update_of_completion = refl

annotated_merge : Prints (merge_typed x0 (app x0 y0) (forall underscore x0 y0)) "merge x (x y) : x → y"
unfolding Prints
annotated_merge = refl

annotated_map : Prints (to_map_typed (field x0 y) (annotation x0 y0)) "toMap x.y : x : y"
unfolding Prints
annotated_map = refl

-- ---- applications

application : Prints (app (app x0 y0) x0) "x y x"
unfolding Prints
application = refl

application_in_argument : Prints (app x0 (app y0 x0)) "x (y x)"
unfolding Prints
application_in_argument = refl

integer_in_argument : Prints (app (natural 1) (integer (pos 2))) "1 +2"
unfolding Prints
integer_in_argument = refl

selection_in_argument : Prints (app x0 (field y0 x)) "x y.x"
unfolding Prints
selection_in_argument = refl

import_in_argument : Prints (app x0 (code_at locs.Missing)) "x missing"
unfolding Prints
import_in_argument = refl

completion_in_argument : Prints (app x0 (operator op.Complete x0 y0)) "x x::y"
unfolding Prints
completion_in_argument = refl

completion_as_function : Prints (app (operator op.Complete x0 y0) x0) "x::y x"
unfolding Prints
completion_as_function = refl

lambda_as_function : Prints (app (lambda x bool_type x0) x0) "(λ(x : Bool) → x) x"
unfolding Prints
lambda_as_function = refl

some_ : Prints (some (natural 1)) "Some 1"
unfolding Prints
some_ = refl

some_of_some : Prints (some (some (natural 1))) "Some (Some 1)"
unfolding Prints
some_of_some = refl

some_as_function : Prints (app (some x0) y0) "Some x y"
unfolding Prints
some_as_function = refl

some_of_selection : Prints (some (field x0 y)) "Some x.y"
unfolding Prints
some_of_selection = refl

merge_ : Prints (merge x0 y0) "merge x y"
unfolding Prints
merge_ = refl

merge_of_applications : Prints (merge (app x0 y0) (app x0 y0)) "merge (x y) (x y)"
unfolding Prints
merge_of_applications = refl

map_ : Prints (to_map x0) "toMap x"
unfolding Prints
map_ = refl

map_of_some : Prints (to_map (some x0)) "toMap (Some x)"
unfolding Prints
map_of_some = refl

-- ---- selections

field_ : Prints (field x0 y) "x.y"
unfolding Prints
field_ = refl

field_of_field : Prints (field (field x0 y) x) "x.y.x"
unfolding Prints
field_of_field = refl

field_of_import : Prints (field (code_at (locs.Here (x ∷ []))) y) "(./x).y"
unfolding Prints
field_of_import = refl

field_of_application : Prints (field (app x0 y0) y) "(x y).y"
unfolding Prints
field_of_application = refl

field_of_number : Prints (field (natural 1) x) "1.x"
unfolding Prints
field_of_number = refl

quoted_field : Prints (field x0 (codes "in")) "x.`in`"
unfolding Prints
quoted_field = refl

a_projection : Prints (projection x0 (x ∷ y ∷ [])) "x.{ x, y }"
unfolding Prints
a_projection = refl

empty_projection : Prints (projection x0 []) "x.{}"
unfolding Prints
empty_projection = refl

projection_of_completion : Prints (projection (operator op.Complete x0 y0) (x ∷ [])) "(x::y).{ x }"
unfolding Prints
projection_of_completion = refl

a_projection_by_type : Prints (projection_by_type x0 (forall underscore x0 y0)) "x.(x → y)"
unfolding Prints
a_projection_by_type = refl

-- ---- lists, records and unions

list : Prints (Node ops.List (three_parts (natural 1) (annotation x0 y0) (natural 3))) "[ 1, x : y, 3 ]"
unfolding Prints
list = refl

list_of_one : Prints (Node ops.List (one_part (natural 1))) "[ 1 ]"
unfolding Prints
list_of_one = refl

record_ : Prints (with_field x (natural 1)) "{ x = 1 }"
unfolding Prints
record_ = refl

record_of_records : Prints (Node (ops.Record (codes "a" ∷ codes "b" ∷ [])) (two_parts (Node (ops.Record (x ∷ y ∷ [])) (two_parts (natural 2) (bool true))) (natural 1))) "{ a = { x = 2, y = True }, b = 1 }"
unfolding Prints
record_of_records = refl

empty_record : Prints (Node (ops.Record []) end) "{=}"
unfolding Prints
empty_record = refl

record_type : Prints (Node (ops.RecordType (codes "if" ∷ x ∷ [])) (two_parts bool_type (forall underscore x0 y0))) "{ `if` : Bool, x : x → y }"
unfolding Prints
record_type = refl

empty_record_type : Prints (Node (ops.RecordType []) end) "{}"
unfolding Prints
empty_record_type = refl

union_ : Prints (Node (ops.Union (untyped (codes "A") ∷ typed (codes "B") ∷ untyped (codes "Some") ∷ [])) (one_part bool_type)) "< A | B : Bool | `Some` >"
unfolding Prints
union_ = refl

union_of_one : Prints (Node (ops.Union (typed x ∷ [])) (one_part (annotation x0 y0))) "< x : x : y >"
unfolding Prints
union_of_one = refl

empty_union : Prints (Node (ops.Union []) end) "<>"
unfolding Prints
empty_union = refl

location_of_url : Prints (app (field (Node (ops.Union (typed (codes "Environment") ∷ typed (codes "Local") ∷ untyped (codes "Missing") ∷ typed (codes "Remote") ∷ [])) (three_parts (builtin builtin.Text) (builtin builtin.Text) (builtin builtin.Text))) (codes "Remote")) (plain_text (codes "https://a.b/c"))) "< Environment : Text | Local : Text | Missing | Remote : Text >.Remote \"https://a.b/c\""
unfolding Prints
location_of_url = refl

-- ---- imports

import_ : Prints (code_at (locs.Https (record { host = codes "a.b"; comps = codes "c" ∷ []; query = Some (codes "q") }))) "https://a.b/c?q"
unfolding Prints
import_ = refl

import_as_text : Prints (Node (ops.Import (record { loc = locs.Env (codes "HOME"); mode = mode.Text; digest = None })) end) "env:HOME as Text"
unfolding Prints
import_as_text = refl

import_as_location : Prints (Node (ops.Import (record { loc = locs.Abs (codes "a b" ∷ codes "c" ∷ []); mode = mode.Location; digest = None })) end) "/\"a b\"/c as Location"
unfolding Prints
import_as_location = refl

frozen_import : Prints (Node (ops.Import (record { loc = locs.Parent (x ∷ []); mode = mode.Text; digest = Some (record { 0 = 0xAB ∷ replicate 31 0 }) })) end) "../x sha256:ab00000000000000000000000000000000000000000000000000000000000000 as Text"
unfolding Prints
frozen_import = refl

-- ---- whole expressions

if_in_lambda : Prints (lambda (codes "p") bool_type (natural 1)) "λ(p : Bool) → 1"
unfolding Prints
if_in_lambda = refl

field_in_lambda : Prints (lambda x (Node (ops.RecordType (codes "a" ∷ codes "b" ∷ [])) (two_parts natural_type natural_type)) (field x0 (codes "a"))) "λ(x : { a : Natural, b : Natural }) → x.a"
unfolding Prints
field_in_lambda = refl

interpolation_in_lambda : Prints (lambda (codes "t") (builtin builtin.Text) (Node (ops.Text ([] ∷ codes "!" ∷ [])) (one_part (var (codes "t") 0)))) "λ(t : Text) → \"${t}!\""
unfolding Prints
interpolation_in_lambda = refl

equivalence : Prints (operator op.Equivalent (natural 2) (natural 2)) "2 ≡ 2"
unfolding Prints
equivalence = refl
