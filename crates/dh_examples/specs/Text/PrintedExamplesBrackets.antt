-- Worked examples of printed text: brackets, levels and labels in backticks.
use Rattle.std.specs.Prelude.{◌≡◌, pos, true, [], ◌∷◌, codes, encode_utf8_all, refl}
use Rattle.std.specs.Char.{encode_utf8}
use Rattle.std.specs.Fmt.{digits}
use Rattle.dh_syntax.specs.declared.expressions.Op.TheVariants as ops
use Rattle.dh_syntax.specs.declared.locations.Loc.TheVariants as locs
use Rattle.dh_syntax.specs.declared.operators.BinOp.TheVariants as op
use Rattle.dh_syntax.specs.Expressions.Tree.{Node, end, Term}
use Rattle.dh_syntax.specs.Text.Printed.{text_of}
use Rattle.dh_examples.specs.Vocabulary.{assert, bool_type, code_at, merge_typed, one_part, typed, underscore, var, with_field, x, x0, y, y0}
use Rattle.dh_syntax.specs.Expressions.Forms.{annotation, app, bool, empty_list, field, forall, if_else, integer, lambda, let_in, let_typed, merge, operator, plain_text, projection, projection_by_type, some, to_map, to_map_typed, update}
use Prim.Native.String.{String}

-- the expression is printed as this text
Prints : Term → String → Type 0
unfolding encode_utf8 digits
Prints e s = text_of e ≡ encode_utf8_all (codes s)

-- ---- forms that stand in brackets before an annotation

lambda_annotated : Prints (annotation (lambda x bool_type x0) y0) "(λ(x : Bool) → x) : y"
unfolding Prints
lambda_annotated = refl

function_type_annotated : Prints (annotation (forall x bool_type x0) y0) "(∀(x : Bool) → x) : y"
unfolding Prints
function_type_annotated = refl

plain_function_type_annotated : Prints (annotation (forall underscore x0 y0) y0) "(x → y) : y"
unfolding Prints
plain_function_type_annotated = refl

if_annotated : Prints (annotation (if_else x0 x0 x0) y0) "(if x then x else x) : y"
unfolding Prints
if_annotated = refl

let_annotated : Prints (annotation (let_in x x0 x0) y0) "(let x = x in x) : y"
unfolding Prints
let_annotated = refl

typed_let_annotated : Prints (annotation (let_typed x y0 x0 x0) y0) "(let x : y = x in x) : y"
unfolding Prints
typed_let_annotated = refl

update_annotated : Prints (annotation (update x0 (x ∷ []) x0) y0) "(x with x = x) : y"
unfolding Prints
update_annotated = refl

assertion_annotated : Prints (annotation (assert x0) y0) "(assert : x) : y"
unfolding Prints
assertion_annotated = refl

empty_list_annotated : Prints (annotation (empty_list x0) y0) "([] : x) : y"
unfolding Prints
empty_list_annotated = refl

annotated_map_annotated : Prints (annotation (to_map_typed x0 y0) y0) "(toMap x : y) : y"
unfolding Prints
annotated_map_annotated = refl

-- ---- parts that are any expressions

annotation_in_lambda : Prints (lambda x (annotation x0 y0) (annotation x0 y0)) "λ(x : x : y) → x : y"
unfolding Prints
annotation_in_lambda = refl

annotation_in_function_type : Prints (forall x (annotation x0 y0) (annotation x0 y0)) "∀(x : x : y) → x : y"
unfolding Prints
annotation_in_function_type = refl

annotation_in_result : Prints (forall underscore x0 (annotation x0 y0)) "x → x : y"
unfolding Prints
annotation_in_result = refl

annotations_in_let : Prints (let_in x (annotation x0 y0) (annotation x0 y0)) "let x = x : y in x : y"
unfolding Prints
annotations_in_let = refl

annotations_in_typed_let : Prints (let_typed x (annotation x0 y0) (annotation y0 x0) (annotation x0 y0)) "let x : x : y = y : x in x : y"
unfolding Prints
annotations_in_typed_let = refl

annotation_in_assertion : Prints (assert (annotation x0 y0)) "assert : x : y"
unfolding Prints
annotation_in_assertion = refl

annotation_in_empty_list : Prints (empty_list (annotation x0 y0)) "[] : x : y"
unfolding Prints
annotation_in_empty_list = refl

annotation_in_merge : Prints (merge_typed x0 y0 (annotation x0 y0)) "merge x y : x : y"
unfolding Prints
annotation_in_merge = refl

annotation_in_type : Prints (projection_by_type x0 (annotation x0 y0)) "x.(x : y)"
unfolding Prints
annotation_in_type = refl

annotation_in_field : Prints (with_field x (annotation x0 y0)) "{ x = x : y }"
unfolding Prints
annotation_in_field = refl

annotation_in_record_type : Prints (Node (ops.RecordType (x ∷ [])) (one_part (annotation x0 y0))) "{ x : x : y }"
unfolding Prints
annotation_in_record_type = refl

annotation_in_text : Prints (Node (ops.Text ([] ∷ [] ∷ [])) (one_part (annotation x0 y0))) "\"${x : y}\""
unfolding Prints
annotation_in_text = refl

equivalence_in_update : Prints (update x0 (x ∷ []) (operator op.Equivalent x0 y0)) "x with x = x ≡ y"
unfolding Prints
equivalence_in_update = refl

-- ---- levels of parts

some_of_import : Prints (some (code_at (locs.Here (x ∷ [])))) "Some ./x"
unfolding Prints
some_of_import = refl

merge_of_imports : Prints (merge (code_at locs.Missing) (code_at locs.Missing)) "merge missing missing"
unfolding Prints
merge_of_imports = refl

map_of_import : Prints (to_map (code_at locs.Missing)) "toMap missing"
unfolding Prints
map_of_import = refl

some_of_merge : Prints (some (merge x0 y0)) "Some (merge x y)"
unfolding Prints
some_of_merge = refl

some_of_map : Prints (some (to_map x0)) "Some (toMap x)"
unfolding Prints
some_of_map = refl

annotated_merge_of_applications : Prints (merge_typed (app x0 y0) (app x0 y0) x0) "merge (x y) (x y) : x"
unfolding Prints
annotated_merge_of_applications = refl

annotated_map_of_application : Prints (to_map_typed (app x0 y0) x0) "toMap (x y) : x"
unfolding Prints
annotated_map_of_application = refl

annotated_merge_of_imports : Prints (merge_typed (code_at locs.Missing) (code_at locs.Missing) x0) "merge missing missing : x"
unfolding Prints
annotated_merge_of_imports = refl

annotated_map_of_import : Prints (to_map_typed (code_at locs.Missing) x0) "toMap missing : x"
unfolding Prints
annotated_map_of_import = refl

field_of_projection : Prints (field (projection x0 (x ∷ [])) y) "x.{ x }.y"
unfolding Prints
field_of_projection = refl

field_of_projection_by_type : Prints (field (projection_by_type x0 y0) y) "x.(y).y"
unfolding Prints
field_of_projection_by_type = refl

projection_of_field : Prints (projection (field x0 y) (x ∷ [])) "x.y.{ x }"
unfolding Prints
projection_of_field = refl

projection_by_type_of_field : Prints (projection_by_type (field x0 y) y0) "x.y.(y)"
unfolding Prints
projection_by_type_of_field = refl

projection_by_type_of_import : Prints (projection_by_type (code_at locs.Missing) y0) "(missing).(y)"
unfolding Prints
projection_by_type_of_import = refl

field_of_text : Prints (field (plain_text (codes "a")) x) "\"a\".x"
unfolding Prints
field_of_text = refl

field_of_integer : Prints (field (integer (pos 1)) x) "+1.x"
unfolding Prints
field_of_integer = refl

field_of_truth : Prints (field (bool true) x) "True.x"
unfolding Prints
field_of_truth = refl

field_of_builtin : Prints (field bool_type x) "Bool.x"
unfolding Prints
field_of_builtin = refl

field_of_list : Prints (field (Node ops.List (one_part x0)) x) "[ x ].x"
unfolding Prints
field_of_list = refl

field_of_record : Prints (field (with_field x y0) x) "{ x = y }.x"
unfolding Prints
field_of_record = refl

field_of_empty_record : Prints (field (Node (ops.Record []) end) x) "{=}.x"
unfolding Prints
field_of_empty_record = refl

field_of_record_type : Prints (field (Node (ops.RecordType []) end) x) "{}.x"
unfolding Prints
field_of_record_type = refl

-- ---- labels in backticks

let_of_quoted_label : Prints (let_in (codes "in") x0 x0) "let `in` = x in x"
unfolding Prints
let_of_quoted_label = refl

typed_let_of_quoted_label : Prints (let_typed (codes "in") y0 x0 x0) "let `in` : y = x in x"
unfolding Prints
typed_let_of_quoted_label = refl

function_type_of_quoted_label : Prints (forall (codes "if") x0 x0) "∀(`if` : x) → x"
unfolding Prints
function_type_of_quoted_label = refl

field_of_quoted_label : Prints (with_field (codes "if") x0) "{ `if` = x }"
unfolding Prints
field_of_quoted_label = refl

projection_of_quoted_label : Prints (projection x0 (codes "if" ∷ x ∷ [])) "x.{ `if`, x }"
unfolding Prints
projection_of_quoted_label = refl

alternative_of_quoted_label : Prints (Node (ops.Union (typed (codes "if") ∷ [])) (one_part x0)) "< `if` : x >"
unfolding Prints
alternative_of_quoted_label = refl

no_operator_in_label : Prints (var (codes "a=b") 0) "`a=b`"
unfolding Prints
no_operator_in_label = refl

label_that_begins_with_a_dash : Prints (var (codes "-a") 0) "`-a`"
unfolding Prints
label_that_begins_with_a_dash = refl
