-- Typing of `if`, operators, lists, optional values, texts, assertions, equivalences and annotations: each rule where it
-- holds and where it fails.
use Rattle.std.specs.Prelude.{◌≡◌, refl, pos, [], ◌∷◌, Some, codes}
use Rattle.dh_syntax.specs.declared.operators.BinOp.TheVariants as bins
use Rattle.dh_syntax.specs.declared.operators.Builtin.TheVariants as builtins
use Rattle.dh_syntax.specs.Names.Alpha.{alpha}
use Rattle.dh_syntax.specs.Expressions.Forms.{natural, integer, text, builtin, operator, if_else, lambda, forall, let_in, list, empty_list, list_type, some, annotation}
use Rattle.dh_syntax.specs.Typing.Inference.{Ill}
use Rattle.dh_syntax.specs.Typing.NamedTyping.{infer}
use Rattle.dh_examples.specs.Typing.Judged.{at, at_root, refused, type_of}
use Rattle.dh_examples.specs.Vocabulary.{assert, bool_type, equivalent, kind, letter, natural_type, one, optional_type, plus, sort, text_type, true_literal, two, type, var, x, y}
use Rattle.dh_syntax.specs.Typing.TypeRules as rule

-- ---- literals

natural_literal : type_of one ≡ Some natural_type
natural_literal = refl

integer_literal : type_of (integer (pos 1)) ≡ Some (builtin builtins.Integer)
integer_literal = refl

bool_literal : type_of true_literal ≡ Some bool_type
bool_literal = refl

-- ---- 10, 11, 12: `if`

if_value : type_of (if_else true_literal one two) ≡ Some natural_type
unfolding alpha
if_value = refl

if_condition : refused (if_else one one two) ≡ at_root 10
if_condition = refl

-- `if True then Natural else Bool`
if_types : refused (if_else true_literal natural_type bool_type) ≡ at_root 11
if_types = refl

-- `if True then Kind else Kind`
if_kinds : refused (if_else true_literal kind kind) ≡ at_root 11
if_kinds = refl

if_differ : refused (if_else true_literal one letter) ≡ at_root 12
unfolding alpha
if_differ = refl

-- the first branch is the one that must be in Type, and that is asked before they are compared
if_first_type : refused (if_else true_literal natural_type one) ≡ at_root 11
if_first_type = refl

if_second_type : refused (if_else true_literal one natural_type) ≡ at_root 12
unfolding alpha
if_second_type = refl

-- of two types that differ only in names the first one: `if True then λ(x : Bool) → x else λ(y : Bool) → y`
if_names : type_of (if_else true_literal (lambda x bool_type (var x 0)) (lambda y bool_type (var y 0))) ≡ Some (forall x bool_type bool_type)
unfolding alpha
if_names = refl

if_part_ill : refused (if_else one one (plus one true_literal)) ≡ at (2 ∷ []) 14
if_part_ill = refl

-- ---- 13, 14: operators

or_bool : type_of (operator bins.Or true_literal true_literal) ≡ Some bool_type
or_bool = refl

and_bool : type_of (operator bins.And true_literal true_literal) ≡ Some bool_type
and_bool = refl

equal_bool : type_of (operator bins.Equal true_literal true_literal) ≡ Some bool_type
equal_bool = refl

not_equal_bool : type_of (operator bins.NotEqual true_literal true_literal) ≡ Some bool_type
not_equal_bool = refl

plus_natural : type_of (plus one two) ≡ Some natural_type
plus_natural = refl

times_natural : type_of (operator bins.Times one two) ≡ Some natural_type
times_natural = refl

append_text : type_of (operator bins.TextAppend letter letter) ≡ Some text_type
append_text = refl

append_lists : type_of (operator bins.ListAppend (list (one ∷ [])) (empty_list (list_type natural_type))) ≡ Some (list_type natural_type)
unfolding alpha
append_lists = refl

or_left : refused (operator bins.Or one true_literal) ≡ at_root 13
or_left = refl

and_right : refused (operator bins.And true_literal one) ≡ at_root 14
and_right = refl

plus_left : refused (plus true_literal one) ≡ at_root 13
plus_left = refl

-- `1 + True`
plus_right : refused (plus one true_literal) ≡ at_root 14
plus_right = refl

times_right : refused (operator bins.Times one (integer (pos 1))) ≡ at_root 14
times_right = refl

append_left : refused (operator bins.TextAppend one letter) ≡ at_root 13
append_left = refl

append_lists_left : refused (operator bins.ListAppend one (list (one ∷ []))) ≡ at_root 13
unfolding alpha
append_lists_left = refl

append_lists_right : refused (operator bins.ListAppend (list (one ∷ [])) (list (true_literal ∷ []))) ≡ at_root 14
unfolding alpha
append_lists_right = refl

-- where both sides are wrong the left one is refused
plus_both : refused (plus true_literal true_literal) ≡ at_root 13
plus_both = refl

append_lists_both : refused (operator bins.ListAppend one one) ≡ at_root 13
append_lists_both = refl

-- an optional value is no list
append_optional : refused (operator bins.ListAppend (some one) (some one)) ≡ at_root 13
append_optional = refl

-- of two types that differ only in names the left one: `[ λ(x : Bool) → x ] # [ λ(y : Bool) → y ]`
append_lists_names : type_of (operator bins.ListAppend (list (lambda x bool_type (var x 0) ∷ [])) (list (lambda y bool_type (var y 0) ∷ [])))
    ≡ Some (list_type (forall x bool_type bool_type))
unfolding alpha
append_lists_names = refl

-- both sides are typed before the checks
plus_sides_ill : refused (plus true_literal (plus one true_literal)) ≡ at (1 ∷ []) 14
plus_sides_ill = refl

-- ---- 15, 16, 17, 18: lists and optional values

no_elements : type_of (empty_list (list_type bool_type)) ≡ Some (list_type bool_type)
unfolding alpha
no_elements = refl

-- `let x = List Bool in [] : x`
no_elements_named : type_of (let_in x (list_type bool_type) (empty_list (var x 0))) ≡ Some (list_type bool_type)
unfolding alpha
no_elements_named = refl

no_elements_annotation : refused (empty_list bool_type) ≡ at_root 15
no_elements_annotation = refl

-- `[] : Sort`: this annotation has no type
no_elements_sort : refused (empty_list sort) ≡ at_root 15
no_elements_sort = refl

-- `[] : List Type`
no_elements_ill : refused (empty_list (list_type type)) ≡ at (0 ∷ []) 8
unfolding alpha
no_elements_ill = refl

elements : type_of (list (one ∷ two ∷ [])) ≡ Some (list_type natural_type)
unfolding alpha
elements = refl

-- `[ λ(x : Bool) → x, λ(y : Bool) → y ]`
elements_other_names : type_of (list (lambda x bool_type (var x 0) ∷ lambda y bool_type (var y 0) ∷ [])) ≡ Some (list_type (forall x bool_type bool_type))
unfolding alpha
elements_other_names = refl

elements_types : refused (list (bool_type ∷ [])) ≡ at_root 16
elements_types = refl

-- the first element must be in Type, and that is asked before the others are compared with it
elements_first : refused (list (natural_type ∷ one ∷ [])) ≡ at_root 16
elements_first = refl

elements_second : refused (list (one ∷ natural_type ∷ [])) ≡ at_root 17
unfolding alpha
elements_second = refl

elements_differ : refused (list (one ∷ two ∷ true_literal ∷ [])) ≡ at_root 17
unfolding alpha
elements_differ = refl

element_ill : refused (list (one ∷ true_literal ∷ plus one true_literal ∷ [])) ≡ at (2 ∷ []) 14
element_ill = refl

optional_value : type_of (some one) ≡ Some (optional_type natural_type)
optional_value = refl

optional_type_value : refused (some natural_type) ≡ at_root 18
optional_type_value = refl

optional_kind : refused (some kind) ≡ at_root 18
optional_kind = refl

-- a type that has no type itself is in no universe: `Some x` where x has the type y, which is not bound
optional_of_ill : infer 100 1000 100 ((x, var y 0) ∷ []) 0 (some (var x 0)) ≡ Ill [] rule.SomeNotInType
optional_of_ill = refl

-- ---- 46: texts

interpolated : type_of (text ([] ∷ codes ", " ∷ [] ∷ []) (letter ∷ letter ∷ [])) ≡ Some text_type
interpolated = refl

interpolated_natural : refused (text ([] ∷ codes ", " ∷ [] ∷ []) (letter ∷ one ∷ [])) ≡ at_root 46
interpolated_natural = refl

-- ---- 47, 48, 49: assertions

-- `assert : 1 + 1 ≡ 2`
holds : type_of (assert (equivalent (plus one one) two)) ≡ Some (equivalent two two)
unfolding alpha
holds = refl

-- `assert : Type`
assert_kind : refused (assert type) ≡ at_root 47
assert_kind = refl

assert_value : refused (assert one) ≡ at_root 47
assert_value = refl

assert_type : refused (assert natural_type) ≡ at_root 48
assert_type = refl

assert_sort : refused (assert sort) ≡ at (0 ∷ []) 2
assert_sort = refl

-- `assert : 1 + 1 ≡ 3`
fails : refused (assert (equivalent (plus one one) (natural 3))) ≡ at_root 49
unfolding alpha
fails = refl

-- `λ(x : Natural) → assert : x ≡ x + 0` and `λ(x : Natural) → assert : x ≡ x * x`
holds_open : type_of (lambda x natural_type (assert (equivalent (var x 0) (plus (var x 0) (natural 0)))))
    ≡ Some (forall x natural_type (equivalent (var x 0) (var x 0)))
unfolding alpha
holds_open = refl

fails_open : refused (lambda x natural_type (assert (equivalent (var x 0) (operator bins.Times (var x 0) (var x 0))))) ≡ at (1 ∷ []) 49
unfolding alpha
fails_open = refl

-- ---- 50, 51: `l ≡ r`

sides : type_of (equivalent one two) ≡ Some type
unfolding alpha
sides = refl

sides_differ : refused (equivalent one true_literal) ≡ at_root 50
unfolding alpha
sides_differ = refl

-- `Bool ≡ 1`: the sides are compared first
sides_differ_first : refused (equivalent bool_type one) ≡ at_root 50
unfolding alpha
sides_differ_first = refl

-- `Bool ≡ Natural`
sides_types : refused (equivalent bool_type natural_type) ≡ at_root 51
unfolding alpha
sides_types = refl

-- `Type ≡ Type`, `Kind ≡ Kind`
sides_kinds : refused (equivalent type type) ≡ at_root 51
unfolding alpha
sides_kinds = refl

sides_sorts : refused (equivalent kind kind) ≡ at_root 51
unfolding alpha
sides_sorts = refl

-- ---- 52: annotations

annotated : type_of (annotation one natural_type) ≡ Some natural_type
unfolding alpha
annotated = refl

-- `λ(x : Bool) → x : ∀(y : Bool) → Bool` has the type that stands there
annotated_names : type_of (annotation (lambda x bool_type (var x 0)) (forall y bool_type bool_type)) ≡ Some (forall y bool_type bool_type)
unfolding alpha
annotated_names = refl

-- `1 : if True then Natural else Bool` is refused at the annotation
annotation_ill : refused (annotation one (if_else true_literal natural_type bool_type)) ≡ at (1 ∷ []) 11
annotation_ill = refl

-- `Kind : Sort`: this annotation has no type
annotated_sort : type_of (annotation kind sort) ≡ Some sort
unfolding alpha
annotated_sort = refl

annotated_not_sort : refused (annotation type sort) ≡ at_root 52
unfolding alpha
annotated_not_sort = refl

annotation_differs : refused (annotation one bool_type) ≡ at_root 52
unfolding alpha
annotation_differs = refl
