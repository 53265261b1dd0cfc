-- Worked examples of printed operators.
use Rattle.std.specs.Prelude.{◌≡◌, [], ◌∷◌, codes, encode_utf8_all, refl}
use Rattle.std.specs.Char.{encode_utf8}
use Rattle.std.specs.Fmt.{digits}
use Rattle.dh_syntax.specs.declared.expressions.Op.TheVariants as ops
use Rattle.dh_syntax.specs.declared.locations.Loc.TheVariants as locs
use Rattle.dh_syntax.specs.declared.operators.BinOp.TheVariants as op
use Rattle.dh_syntax.specs.Expressions.Tree.{Node, end, Term}
use Rattle.dh_syntax.specs.Text.Printed.{text_of}
use Rattle.dh_examples.specs.Vocabulary.{bool_type, code_at, x, x0, y, y0}
use Rattle.dh_syntax.specs.Expressions.Forms.{annotation, app, field, lambda, natural, operator}
use Prim.Native.String.{String}

-- the expression is printed as this text
Prints : Term → String → Type 0
unfolding encode_utf8 digits
Prints e s = text_of e ≡ encode_utf8_all (codes s)

-- ---- operators, each between operators of its own level and beside one of the next lower level

equivalent_groups_to_the_left : Prints (operator op.Equivalent (operator op.Equivalent x0 y0) (operator op.Equivalent x0 y0)) "x ≡ y ≡ (x ≡ y)"
unfolding Prints
equivalent_groups_to_the_left = refl

equivalent_of_fallback : Prints (operator op.Equivalent (operator op.Fallback x0 y0) (operator op.Fallback x0 y0)) "x ? y ≡ x ? y"
unfolding Prints
equivalent_of_fallback = refl

fallback_of_equivalent : Prints (operator op.Fallback (operator op.Equivalent x0 y0) (operator op.Equivalent x0 y0)) "(x ≡ y) ? (x ≡ y)"
unfolding Prints
fallback_of_equivalent = refl

fallback_groups_to_the_left : Prints (operator op.Fallback (operator op.Fallback x0 y0) (operator op.Fallback x0 y0)) "x ? y ? (x ? y)"
unfolding Prints
fallback_groups_to_the_left = refl

fallback_of_or : Prints (operator op.Fallback (operator op.Or x0 y0) (operator op.Or x0 y0)) "x || y ? x || y"
unfolding Prints
fallback_of_or = refl

or_of_fallback : Prints (operator op.Or (operator op.Fallback x0 y0) (operator op.Fallback x0 y0)) "(x ? y) || (x ? y)"
unfolding Prints
or_of_fallback = refl

or_groups_to_the_left : Prints (operator op.Or (operator op.Or x0 y0) (operator op.Or x0 y0)) "x || y || (x || y)"
unfolding Prints
or_groups_to_the_left = refl

or_of_plus : Prints (operator op.Or (operator op.Plus x0 y0) (operator op.Plus x0 y0)) "x + y || x + y"
unfolding Prints
or_of_plus = refl

plus_of_or : Prints (operator op.Plus (operator op.Or x0 y0) (operator op.Or x0 y0)) "(x || y) + (x || y)"
unfolding Prints
plus_of_or = refl

plus_groups_to_the_left : Prints (operator op.Plus (operator op.Plus x0 y0) (operator op.Plus x0 y0)) "x + y + (x + y)"
unfolding Prints
plus_groups_to_the_left = refl

plus_of_text_append : Prints (operator op.Plus (operator op.TextAppend x0 y0) (operator op.TextAppend x0 y0)) "x ++ y + x ++ y"
unfolding Prints
plus_of_text_append = refl

text_append_of_plus : Prints (operator op.TextAppend (operator op.Plus x0 y0) (operator op.Plus x0 y0)) "(x + y) ++ (x + y)"
unfolding Prints
text_append_of_plus = refl

text_append_groups_to_the_left : Prints (operator op.TextAppend (operator op.TextAppend x0 y0) (operator op.TextAppend x0 y0)) "x ++ y ++ (x ++ y)"
unfolding Prints
text_append_groups_to_the_left = refl

text_append_of_list_append : Prints (operator op.TextAppend (operator op.ListAppend x0 y0) (operator op.ListAppend x0 y0)) "x # y ++ x # y"
unfolding Prints
text_append_of_list_append = refl

list_append_of_text_append : Prints (operator op.ListAppend (operator op.TextAppend x0 y0) (operator op.TextAppend x0 y0)) "(x ++ y) # (x ++ y)"
unfolding Prints
list_append_of_text_append = refl

list_append_groups_to_the_left : Prints (operator op.ListAppend (operator op.ListAppend x0 y0) (operator op.ListAppend x0 y0)) "x # y # (x # y)"
unfolding Prints
list_append_groups_to_the_left = refl

list_append_of_and : Prints (operator op.ListAppend (operator op.And x0 y0) (operator op.And x0 y0)) "x && y # x && y"
unfolding Prints
list_append_of_and = refl

and_of_list_append : Prints (operator op.And (operator op.ListAppend x0 y0) (operator op.ListAppend x0 y0)) "(x # y) && (x # y)"
unfolding Prints
and_of_list_append = refl

and_groups_to_the_left : Prints (operator op.And (operator op.And x0 y0) (operator op.And x0 y0)) "x && y && (x && y)"
unfolding Prints
and_groups_to_the_left = refl

and_of_combine : Prints (operator op.And (operator op.Combine x0 y0) (operator op.Combine x0 y0)) "x ∧ y && x ∧ y"
unfolding Prints
and_of_combine = refl

combine_of_and : Prints (operator op.Combine (operator op.And x0 y0) (operator op.And x0 y0)) "(x && y) ∧ (x && y)"
unfolding Prints
combine_of_and = refl

combine_groups_to_the_left : Prints (operator op.Combine (operator op.Combine x0 y0) (operator op.Combine x0 y0)) "x ∧ y ∧ (x ∧ y)"
unfolding Prints
combine_groups_to_the_left = refl

combine_of_prefer : Prints (operator op.Combine (operator op.Prefer x0 y0) (operator op.Prefer x0 y0)) "x ⫽ y ∧ x ⫽ y"
unfolding Prints
combine_of_prefer = refl

prefer_of_combine : Prints (operator op.Prefer (operator op.Combine x0 y0) (operator op.Combine x0 y0)) "(x ∧ y) ⫽ (x ∧ y)"
unfolding Prints
prefer_of_combine = refl

prefer_groups_to_the_left : Prints (operator op.Prefer (operator op.Prefer x0 y0) (operator op.Prefer x0 y0)) "x ⫽ y ⫽ (x ⫽ y)"
unfolding Prints
prefer_groups_to_the_left = refl

prefer_of_combine_types : Prints (operator op.Prefer (operator op.CombineTypes x0 y0) (operator op.CombineTypes x0 y0)) "x ⩓ y ⫽ x ⩓ y"
unfolding Prints
prefer_of_combine_types = refl

combine_types_of_prefer : Prints (operator op.CombineTypes (operator op.Prefer x0 y0) (operator op.Prefer x0 y0)) "(x ⫽ y) ⩓ (x ⫽ y)"
unfolding Prints
combine_types_of_prefer = refl

combine_types_groups_to_the_left : Prints (operator op.CombineTypes (operator op.CombineTypes x0 y0) (operator op.CombineTypes x0 y0)) "x ⩓ y ⩓ (x ⩓ y)"
unfolding Prints
combine_types_groups_to_the_left = refl

combine_types_of_times : Prints (operator op.CombineTypes (operator op.Times x0 y0) (operator op.Times x0 y0)) "x * y ⩓ x * y"
unfolding Prints
combine_types_of_times = refl

times_of_combine_types : Prints (operator op.Times (operator op.CombineTypes x0 y0) (operator op.CombineTypes x0 y0)) "(x ⩓ y) * (x ⩓ y)"
unfolding Prints
times_of_combine_types = refl

times_groups_to_the_left : Prints (operator op.Times (operator op.Times x0 y0) (operator op.Times x0 y0)) "x * y * (x * y)"
unfolding Prints
times_groups_to_the_left = refl

times_of_equal : Prints (operator op.Times (operator op.Equal x0 y0) (operator op.Equal x0 y0)) "x == y * x == y"
unfolding Prints
times_of_equal = refl

equal_of_times : Prints (operator op.Equal (operator op.Times x0 y0) (operator op.Times x0 y0)) "(x * y) == (x * y)"
unfolding Prints
equal_of_times = refl

equal_groups_to_the_left : Prints (operator op.Equal (operator op.Equal x0 y0) (operator op.Equal x0 y0)) "x == y == (x == y)"
unfolding Prints
equal_groups_to_the_left = refl

equal_of_not_equal : Prints (operator op.Equal (operator op.NotEqual x0 y0) (operator op.NotEqual x0 y0)) "x != y == x != y"
unfolding Prints
equal_of_not_equal = refl

not_equal_of_equal : Prints (operator op.NotEqual (operator op.Equal x0 y0) (operator op.Equal x0 y0)) "(x == y) != (x == y)"
unfolding Prints
not_equal_of_equal = refl

not_equal_groups_to_the_left : Prints (operator op.NotEqual (operator op.NotEqual x0 y0) (operator op.NotEqual x0 y0)) "x != y != (x != y)"
unfolding Prints
not_equal_groups_to_the_left = refl

equivalent_of_annotations : Prints (operator op.Equivalent (annotation x0 y0) (annotation x0 y0)) "(x : y) ≡ (x : y)"
unfolding Prints
equivalent_of_annotations = refl

not_equal_of_applications : Prints (operator op.NotEqual (app x0 y0) (app x0 y0)) "x y != x y"
unfolding Prints
not_equal_of_applications = refl

application_of_not_equal : Prints (app (operator op.NotEqual x0 y0) (operator op.NotEqual x0 y0)) "(x != y) (x != y)"
unfolding Prints
application_of_not_equal = refl

plus_of_lambda : Prints (operator op.Plus (lambda x bool_type x0) x0) "(λ(x : Bool) → x) + x"
unfolding Prints
plus_of_lambda = refl

completion : Prints (operator op.Complete x0 y0) "x::y"
unfolding Prints
completion = refl

completion_of_selections : Prints (operator op.Complete (field x0 y) (field x0 y)) "x.y::x.y"
unfolding Prints
completion_of_selections = refl

completion_of_completions : Prints (operator op.Complete (operator op.Complete x0 y0) (operator op.Complete x0 y0)) "(x::y)::(x::y)"
unfolding Prints
completion_of_completions = refl

completion_of_imports : Prints (operator op.Complete (code_at (locs.Here (x ∷ []))) (Node (ops.Record []) end)) "(./x)::{=}"
unfolding Prints
completion_of_imports = refl

completion_of_application : Prints (operator op.Complete (app x0 y0) y0) "(x y)::y"
unfolding Prints
completion_of_application = refl

completion_in_operation : Prints (operator op.Times (operator op.Complete x0 y0) (operator op.Complete x0 y0)) "x::y * x::y"
unfolding Prints
completion_in_operation = refl

sum : Prints (operator op.Plus (natural 1) (natural 2)) "1 + 2"
unfolding Prints
sum = refl
