-- Typing of variables, constants, functions and `let`: each rule where it holds and where it fails.
use Rattle.std.specs.Prelude.{◌≡◌, refl, [], ◌∷◌, Some, codes}
use Rattle.dh_syntax.specs.declared.operators.Builtin.TheVariants as builtins
use Rattle.dh_syntax.specs.Names.Alpha.{alpha}
use Rattle.dh_examples.specs.Typing.Judged.{at, at_root, refused, type_of}
use Rattle.dh_examples.specs.Vocabulary.{bool_type, kind, natural_type, one, optional_type, plus, sort, text_type, true_literal, type, var, x, y, ◌⟶◌}
use Rattle.dh_syntax.specs.Expressions.Forms.{app, call, lambda, forall, let_in, let_typed, list_type}

-- ---- 1, 2: variables and constants

unbound : refused (var x 0) ≡ at_root 1
unbound = refl

-- `λ(x : Bool) → x@1`
unbound_below : refused (lambda x bool_type (var x 1)) ≡ at (1 ∷ []) 1
unbound_below = refl

-- `λ(x : Bool) → λ(x : Natural) → x@1`
outer : type_of (lambda x bool_type (lambda x natural_type (var x 1))) ≡ Some (forall x bool_type (forall x natural_type bool_type))
outer = refl

-- `λ(x : Type) → λ(y : x) → λ(x : Bool) → y` has the type `∀(x : Type) → ∀(y : x) → ∀(x : Bool) → x@1`
shifted_type : type_of (lambda x type (lambda y (var x 0) (lambda x bool_type (var y 0))))
    ≡ Some (forall x type (forall y (var x 0) (forall x bool_type (var x 1))))
shifted_type = refl

-- `λ(x : Bool) → λ(x : Natural) → λ(y : Text) → x@1`: a binder of another name does not count
outer_past : type_of (lambda x bool_type (lambda x natural_type (lambda y text_type (var x 1))))
    ≡ Some (forall x bool_type (forall x natural_type (forall y text_type bool_type)))
outer_past = refl

-- `λ(x : Type) → λ(x : x) → x` has the type `∀(x : Type) → ∀(x : x) → x@1`: the type of a variable is seen from below its own binder
own_name : type_of (lambda x type (lambda x (var x 0) (var x 0))) ≡ Some (forall x type (forall x (var x 0) (var x 1)))
own_name = refl

type_type : type_of type ≡ Some kind
type_type = refl

kind_type : type_of kind ≡ Some sort
kind_type = refl

sort_type : refused sort ≡ at_root 2
sort_type = refl

-- ---- 3, 4: λ

-- `λ(x : Natural) → x`
identity : type_of (lambda x natural_type (var x 0)) ≡ Some (forall x natural_type natural_type)
identity = refl

-- `λ(x : Type) → λ(y : x) → y`
polymorphic : type_of (lambda x type (lambda y (var x 0) (var y 0))) ≡ Some (forall x type (forall y (var x 0) (var x 0)))
polymorphic = refl

-- `λ(x : Kind) → x`
of_kind : type_of (lambda x kind (var x 0)) ≡ Some (forall x kind kind)
of_kind = refl

-- the type of the variable is the normal form of the domain: `λ(x : (λ(y : Kind) → y) Type) → λ(y : x) → y`
domain_found : type_of (lambda x (app (lambda y kind (var y 0)) type) (lambda y (var x 0) (var y 0)))
    ≡ Some (forall x type (forall y (var x 0) (var x 0)))
unfolding alpha
domain_found = refl

-- `λ(x : Sort) → 1`
domain_sort : refused (lambda x sort one) ≡ at (0 ∷ []) 2
domain_sort = refl

-- `λ(x : 1) → x`
domain_value : refused (lambda x one (var x 0)) ≡ at_root 3
domain_value = refl

-- `λ(x : Bool) → Kind`
body_kind : refused (lambda x bool_type kind) ≡ at_root 4
body_kind = refl

-- ---- 5, 6: ∀

-- `∀(x : Bool) → Natural`, `∀(x : Type) → x` and `Kind → Bool` are in Type
forall_type : type_of (forall x bool_type natural_type) ≡ Some type
forall_type = refl

forall_each_type : type_of (forall x type (var x 0)) ≡ Some type
forall_each_type = refl

forall_each_kind : type_of (kind ⟶ bool_type) ≡ Some type
forall_each_kind = refl

-- `Bool → Type` and `Type → Type` are in Kind
type_function : type_of (bool_type ⟶ type) ≡ Some kind
type_function = refl

type_operator : type_of (type ⟶ type) ≡ Some kind
type_operator = refl

-- `Kind → Type` and `Bool → Kind` are in Sort
kind_function : type_of (kind ⟶ type) ≡ Some sort
kind_function = refl

kind_result : type_of (bool_type ⟶ kind) ≡ Some sort
kind_result = refl

forall_domain : refused (forall x one natural_type) ≡ at_root 5
forall_domain = refl

forall_domain_ill : refused (forall x (plus one true_literal) natural_type) ≡ at (0 ∷ []) 14
forall_domain_ill = refl

-- `∀(x : (λ(y : Kind) → y) Type) → x`
forall_domain_found : type_of (forall x (app (lambda y kind (var y 0)) type) (var x 0)) ≡ Some type
unfolding alpha
forall_domain_found = refl

-- `∀(x : Bool) → 1 + True`
forall_range_ill : refused (forall x bool_type (plus one true_literal)) ≡ at (1 ∷ []) 14
forall_range_ill = refl

forall_range : refused (forall x bool_type (var x 0)) ≡ at_root 6
forall_range = refl

-- ---- 7, 8: application

-- `(λ(x : Natural) → x) 1`
applied : type_of (app (lambda x natural_type (var x 0)) one) ≡ Some natural_type
unfolding alpha
applied = refl

-- `List/length Bool` has the type `List Bool → Natural`
partly_applied : type_of (call builtins.ListLength (bool_type ∷ [])) ≡ Some (list_type bool_type ⟶ natural_type)
unfolding alpha
partly_applied = refl

-- `λ(y : Type) → None y`
put_in : type_of (lambda y type (call builtins.None (var y 0 ∷ []))) ≡ Some (forall y type (optional_type (var y 0)))
unfolding alpha
put_in = refl

no_function : refused (app one one) ≡ at_root 7
no_function = refl

wrong_argument : refused (app (lambda x natural_type (var x 0)) true_literal) ≡ at_root 8
unfolding alpha
wrong_argument = refl

-- the function is typed before the argument, and both before the check
ill_function : refused (app (plus one true_literal) (plus one true_literal)) ≡ at (0 ∷ []) 14
ill_function = refl

ill_argument : refused (app one (plus one true_literal)) ≡ at (1 ∷ []) 14
ill_argument = refl

-- the types of bound variables may differ in their names: `(λ(f : ∀(x : Bool) → Bool) → f) (λ(y : Bool) → y)`
other_names : type_of (app (lambda (codes "f") (forall x bool_type bool_type) (var (codes "f") 0)) (lambda y bool_type (var y 0)))
    ≡ Some (forall x bool_type bool_type)
unfolding alpha
other_names = refl

-- ---- 9: `let`

-- `let x = 1 in x + x`
let_value : type_of (let_in x one (plus (var x 0) (var x 0))) ≡ Some natural_type
unfolding alpha
let_value = refl

-- `let x : Natural = 1 in x`
let_annotated : type_of (let_typed x natural_type one (var x 0)) ≡ Some natural_type
unfolding alpha
let_annotated = refl

-- `let x : Sort = Kind in x`: this annotation has no type
let_sort : type_of (let_typed x sort kind (var x 0)) ≡ Some sort
unfolding alpha
let_sort = refl

let_differs : refused (let_typed x bool_type one (var x 0)) ≡ at_root 9
unfolding alpha
let_differs = refl

let_annotation_ill : refused (let_typed x (plus one true_literal) (plus one true_literal) (var x 0)) ≡ at (0 ∷ []) 14
let_annotation_ill = refl

let_value_ill : refused (let_typed x bool_type (plus one true_literal) (var x 0)) ≡ at (1 ∷ []) 14
let_value_ill = refl

-- the value is typed even where its variable is not used
let_unused_ill : refused (let_in x (plus one true_literal) one) ≡ at (0 ∷ []) 14
let_unused_ill = refl

-- `let f = λ(x : Natural) → x in λ(f : Bool) → f@1 1` has the type `∀(f : Bool) → Natural`
let_past_binder : type_of (let_in (codes "f") (lambda x natural_type (var x 0)) (lambda (codes "f") bool_type (app (var (codes "f") 1) one)))
    ≡ Some (forall (codes "f") bool_type natural_type)
unfolding alpha
let_past_binder = refl

-- `let x = 1 in let y = True in y + x`: a place below a `let` is one of its body
let_path : refused (let_in x one (let_in y true_literal (plus (var y 0) (var x 0)))) ≡ at (1 ∷ 1 ∷ []) 13
let_path = refl

let_path_annotated : refused (let_typed x natural_type one (plus (var x 0) true_literal)) ≡ at (2 ∷ []) 14
unfolding alpha
let_path_annotated = refl
