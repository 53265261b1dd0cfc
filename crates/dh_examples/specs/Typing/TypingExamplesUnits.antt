-- What typing costs, worked out by hand. Paid are the normal forms that a rule needs, and the normal form of each type that
-- a rule makes. A type that stands in a context, that a part has or that is built in is not made again.
use Rattle.std.specs.Prelude.{◌≡◌, refl, [], ◌∷◌, codes}
use Rattle.dh_syntax.specs.declared.operators.BinOp.TheVariants as bins
use Rattle.dh_syntax.specs.Names.Alpha.{alpha}
use Rattle.dh_syntax.specs.Expressions.Forms.{operator, if_else, app, lambda, forall, let_in, let_typed, list, empty_list, list_type, some, record_type, record_literal, field, projection, projection_by_type, union, merge, to_map, to_map_typed, update, annotation}
use Rattle.dh_syntax.specs.Typing.Inference.{Has, Ill, IsOver}
use Rattle.dh_syntax.specs.Expressions.Tree.{Term}
use Rattle.dh_examples.specs.Typing.Judged.{inferred}
use Rattle.dh_examples.specs.Vocabulary.{a, assert, b, bool_type, c, equivalent, merge_typed, natural_type, one, optional_type, plus, text_type, true_literal, two, type, typed, untyped, var, with_field, with_type, x, y, ◌⟶◌}
use Rattle.dh_syntax.specs.Typing.TypeRules as rule

-- ---- literals, operators, `if`

-- no rule of `if True then 1 + 2 else 2` needs a normal form or makes a type
no_units : inferred 0 (if_else true_literal (plus one two) two) ≡ Has natural_type 0
unfolding alpha
no_units = refl

-- ---- functions

-- `λ(x : Natural) → x`: the domain is one node and the type `∀(x : Natural) → Natural` three
identity : inferred 4 (lambda x natural_type (var x 0)) ≡ Has (forall x natural_type natural_type) 0
identity = refl

identity_over : inferred 3 (lambda x natural_type (var x 0)) ≡ IsOver
identity_over = refl

-- `(λ(x : Natural) → x) 1`: then the range `Natural` with 1 for x
applied : inferred 5 (app (lambda x natural_type (var x 0)) one) ≡ Has natural_type 0
unfolding alpha
applied = refl

-- `(λ(x : Type) → λ(y : x) → y) Natural`: the domains `Type` and x, the types `∀(y : x) → x` and
-- `∀(x : Type) → ∀(y : x) → x`, and the range `∀(y : Natural) → Natural`: 1 + 1 + 3 + 5 + 3
instantiated : inferred 13 (app (lambda x type (lambda y (var x 0) (var y 0))) natural_type) ≡ Has (forall y natural_type natural_type) 0
unfolding alpha
instantiated = refl

-- `λ(x : Type → Type) → λ(y : x Natural) → y`: in the domain the domain `Type` (1), the domain itself (3); in the domain of
-- y the range `Type` (1), that domain itself (3), and the types `∀(y : x Natural) → x Natural` (7) and, with
-- `∀(x : Type → Type)`, the whole (11)
abbrev lifted : Term
lifted = lambda x (type ⟶ type) (lambda y (app (var x 0) natural_type) (var y 0))

of_type_functions : inferred 26 lifted
    ≡ Has (forall x (type ⟶ type) (forall y (app (var x 0) natural_type) (app (var x 0) natural_type))) 0
unfolding alpha
of_type_functions = refl

-- the same applied to `λ(a : Type) → a`, which costs 1 + 3; in the range `∀(y : (λ(a : Type) → a) Natural) → ..` two
-- applications are contracted, and three nodes are left
contracted_range : inferred 35 (app lifted (lambda a type (var a 0))) ≡ Has (forall y natural_type natural_type) 0
unfolding alpha
contracted_range = refl

-- `λ(x : (λ(a : Type) → a) Natural) → x`: in the domain the type of the function (1 + 3) and the range `Type` (1); the domain
-- contracts to Natural (2), and that stands in the type `∀(x : Natural) → Natural` (3)
found_domain : inferred 10 (lambda x (app (lambda a type (var a 0)) natural_type) (var x 0)) ≡ Has (forall x natural_type natural_type) 0
unfolding alpha
found_domain = refl

-- ---- `let`

-- `let x = 1 in x + x`: the value
let_value : inferred 1 (let_in x one (plus (var x 0) (var x 0))) ≡ Has natural_type 0
let_value = refl

-- `let x : Natural = 1 in x`: the annotation and the value
let_annotated : inferred 2 (let_typed x natural_type one (var x 0)) ≡ Has natural_type 0
unfolding alpha
let_annotated = refl

-- `let x = [ 1 ] in x`: `List Natural` (3), the value (2), and `List Natural` again for the value in the body
let_again : inferred 8 (let_in x (list (one ∷ [])) (var x 0)) ≡ Has (list_type natural_type) 0
unfolding alpha
let_again = refl

-- `let x = { a = 1, b = 2 } in [ x.a, x.b ]`: the type of the record (3), the record (3), its type at each x (3 + 3), and
-- `List Natural` (3); to select, the record itself is not normalised
let_fields : inferred 15 (let_in x (record_literal ((a, one) ∷ (b, two) ∷ [])) (list (field (var x 0) a ∷ field (var x 0) b ∷ [])))
    ≡ Has (list_type natural_type) 0
unfolding alpha
let_fields = refl

-- `let x = 1 + 1 in assert : x ≡ 2`: the value (2), and in its normal form in the body the equivalence (3)
let_normal : inferred 5 (let_in x (plus one one) (assert (equivalent (var x 0) two))) ≡ Has (equivalent two two) 0
unfolding alpha
let_normal = refl

-- ---- lists and optional values

elements : inferred 3 (list (one ∷ two ∷ [])) ≡ Has (list_type natural_type) 0
unfolding alpha
elements = refl

optional : inferred 3 (some one) ≡ Has (optional_type natural_type) 0
optional = refl

-- `[] : List Bool`: the range `Type` in the type of the annotation, and the annotation; it is not made again
no_elements : inferred 4 (empty_list (list_type bool_type)) ≡ Has (list_type bool_type) 0
unfolding alpha
no_elements = refl

-- ---- records and unions

-- `{ a = 1, b = True }.a`: the type of the record
select : inferred 3 (field (record_literal ((a, one) ∷ (b, true_literal) ∷ [])) a) ≡ Has natural_type 0
select = refl

-- `{ a = 1, b = True }.c`: to refuse it the record itself is normalised too (3)
select_nothing : inferred 6 (field (record_literal ((a, one) ∷ (b, true_literal) ∷ [])) c) ≡ Ill [] rule.NothingToSelect
select_nothing = refl

select_nothing_over : inferred 5 (field (record_literal ((a, one) ∷ (b, true_literal) ∷ [])) c) ≡ IsOver
select_nothing_over = refl

-- `{ a = 1, b = True }.{ b }`: the type of the record (3), and `{ b : Bool }` (2)
project : inferred 5 (projection (record_literal ((a, one) ∷ (b, true_literal) ∷ [])) (b ∷ [])) ≡ Has (with_type b bool_type) 0
project = refl

-- `1.({ b : Bool })`: the type is not normalised where there is no record
project_value : inferred 0 (projection_by_type one (with_type b bool_type)) ≡ Ill [] rule.TypedProjectionNoRecord
project_value = refl

-- `{ a = 1, b = True }.({ b : Bool })`: the type of the record (3), and the record type (2)
project_by_type : inferred 5 (projection_by_type (record_literal ((a, one) ∷ (b, true_literal) ∷ [])) (with_type b bool_type)) ≡ Has (with_type b bool_type) 0
unfolding alpha
project_by_type = refl

-- `{ a = 1 } ⫽ { b = True }`: the types of both records (2 + 2), and that of the whole (3)
prefer : inferred 7 (operator bins.Prefer (with_field a one) (with_field b true_literal)) ≡ Has (record_type ((a, natural_type) ∷ (b, bool_type) ∷ [])) 0
prefer = refl

-- `{ a = 1 } ∧ { b = True }`, likewise
combine : inferred 7 (operator bins.Combine (with_field a one) (with_field b true_literal)) ≡ Has (record_type ((a, natural_type) ∷ (b, bool_type) ∷ [])) 0
combine = refl

-- `{ a : Natural } ⩓ { b : Bool }`: both sides; the type is a universe
combine_types : inferred 4 (operator bins.CombineTypes (with_type a natural_type) (with_type b bool_type)) ≡ Has type 0
combine_types = refl

-- `Natural ⩓ { b : Bool }`: the left side alone
combine_types_left : inferred 1 (operator bins.CombineTypes natural_type (with_type b bool_type)) ≡ Ill [] rule.LeftNoRecordType
combine_types_left = refl

-- `{ a = 1 } with b.c = True`: the type of the record (2), and `{ a : Natural, b : { c : Bool } }` (4)
updated : inferred 6 (update (with_field a one) (b ∷ c ∷ []) true_literal) ≡ Has (record_type ((a, natural_type) ∷ (b, with_type c bool_type) ∷ [])) 0
updated = refl

-- `< a | b : Bool >.b`: the union (2), and `∀(b : Bool) → < a | b : Bool >` (4)
abbrev choice : Term
choice = union (untyped a ∷ typed b ∷ []) (bool_type ∷ [])

alternative : inferred 6 (field choice b) ≡ Has (forall b bool_type choice) 0
alternative = refl

-- `< a | b : Bool >.a`: the union, which is the type
empty_alternative : inferred 2 (field choice a) ≡ Has choice 0
empty_alternative = refl

-- `merge { a = 1, b = λ(x : Bool) → 2 } (< a | b : Bool >.b True)`: the handler of b (1 + 3), the type of the handlers (5),
-- the alternative (6), and the union as the range (2)
merged : inferred 17 (merge (record_literal ((a, one) ∷ (b, lambda x bool_type two) ∷ [])) (app (field choice b) true_literal)) ≡ Has natural_type 0
unfolding alpha
merged = refl

-- `λ(x : <>) → merge {=} x : Bool`: the domain (1), the type of the handlers (1), the annotation (1), and the type of the whole (3)
merged_nothing : inferred 6 (lambda x (union [] []) (merge_typed (record_literal []) (var x 0) bool_type)) ≡ Has (forall x (union [] []) bool_type) 0
merged_nothing = refl

-- `List { mapKey : Text, mapValue : Natural }`
abbrev map_type : Term
map_type = list_type (record_type ((codes "mapKey", text_type) ∷ (codes "mapValue", natural_type) ∷ []))

-- `toMap { a = 1 }`: the type of the record (2), and that of the map (5)
mapped : inferred 7 (to_map (with_field a one)) ≡ Has map_type 0
mapped = refl

-- with the annotation: in its type the range `Type` (1), and the annotation itself (5)
mapped_annotated : inferred 13 (to_map_typed (with_field a one) map_type) ≡ Has map_type 0
unfolding alpha
mapped_annotated = refl

-- without fields the annotation is the type: `{}` (1), and as before (1 + 5)
mapped_empty : inferred 7 (to_map_typed (record_literal []) map_type) ≡ Has map_type 0
unfolding alpha
mapped_empty = refl

-- `{ Type = { a : Natural, b : Bool }, default = { a = 1 } }`, which costs 2 for the type of `{ a = 1 }` and 4 for
-- `{ Type : Type, default : { a : Natural } }`
abbrev schema : Term
schema = record_literal ((codes "Type", record_type ((a, natural_type) ∷ (b, bool_type) ∷ [])) ∷ (codes "default", with_field a one) ∷ [])

-- `..::{ b = True }`: both sides (6 + 2), and then `(...default ⫽ { b = True }) : ...Type`: the same again (6 + 2), the type
-- of `⫽` (3), the schema once more (6), and the normal form of `...Type`, a contraction and three nodes (4)
completed : inferred 29 (operator bins.Complete schema (with_field b true_literal)) ≡ Has (record_type ((a, natural_type) ∷ (b, bool_type) ∷ [])) 0
unfolding alpha
completed = refl

-- ---- assertions, equivalences and annotations

-- `assert : 1 + 1 ≡ 2`: the sum is contracted, and three nodes are left
asserted : inferred 4 (assert (equivalent (plus one one) two)) ≡ Has (equivalent two two) 0
unfolding alpha
asserted = refl

-- `(λ(x : Bool) → x) ≡ (λ(x : Bool) → x)`: both sides (4 + 4); to find that `∀(x : Bool) → Bool` is in Type costs nothing
free_universe : inferred 8 (equivalent (lambda x bool_type (var x 0)) (lambda x bool_type (var x 0))) ≡ Has type 0
unfolding alpha
free_universe = refl

-- `1 : Natural`: the annotation
annotated : inferred 1 (annotation one natural_type) ≡ Has natural_type 0
unfolding alpha
annotated = refl

-- `assert : 1`: what is no type is not normalised
asserted_value : inferred 0 (assert one) ≡ Ill [] rule.AssertionNotInType
asserted_value = refl
