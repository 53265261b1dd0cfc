-- Typing of `merge` and `toMap`: each rule where it holds and where it fails.
use Rattle.std.specs.Prelude.{◌≡◌, refl, [], ◌∷◌, Some, codes}
use Rattle.dh_syntax.specs.Names.Alpha.{alpha}
use Rattle.dh_syntax.specs.Expressions.Forms.{app, lambda, forall, list_type, some, none, union, field, merge, record_type, record_literal, to_map, to_map_typed}
use Rattle.dh_examples.specs.Typing.Judged.{at, at_root, refused, type_of}
use Rattle.dh_examples.specs.Vocabulary.{a, assert, b, bool_type, equivalent, letter, merge_typed, natural_type, one, optional_type, plus, sort, text_type, true_literal, two, type, typed, untyped, var, with_field, with_type, x, y}
use Rattle.dh_syntax.specs.Expressions.Tree.{Term}

-- ---- `merge`

-- `< a | b : Bool >`, and of it `< a | b : Bool >.b True`
abbrev choice : Term
choice = union (untyped a ∷ typed b ∷ []) (bool_type ∷ [])

-- an alternative `b` of a union that is applied to `True`
abbrev chosen : Term
chosen = app (field choice b) true_literal

-- `{ a = e, b = f }`
abbrev handlers : Term → Term → Term
handlers e f = record_literal ((a, e) ∷ (b, f) ∷ [])

-- `merge { a = 1, b = λ(b : Bool) → 2 } (< a | b : Bool >.b True)`
merge_union : type_of (merge (handlers one (lambda b bool_type two)) chosen) ≡ Some natural_type
unfolding alpha
merge_union = refl

-- `merge { None = 1, Some = λ(x : Bool) → 2 } (Some True)`, and of `None Bool`
abbrev optional_handlers : Term
optional_handlers = record_literal ((codes "None", one) ∷ (codes "Some", lambda x bool_type two) ∷ [])

merge_some : type_of (merge optional_handlers (some true_literal)) ≡ Some natural_type
unfolding alpha
merge_some = refl

merge_none : type_of (merge optional_handlers (none bool_type)) ≡ Some natural_type
unfolding alpha
merge_none = refl

-- `λ(x : Type) → λ(y : x) → merge { a = λ(x : Bool) → y, b = y } ..` has the result x, seen from outside the handler's binder
merge_shifted : type_of (
    lambda x type (lambda y (var x 0) (lambda a (union (typed a ∷ untyped b ∷ []) (bool_type ∷ [])) (
    merge (handlers (lambda x bool_type (var y 0)) (var y 0)) (var a 0)))))
    ≡ Some (forall x type (forall y (var x 0) (forall a (union (typed a ∷ untyped b ∷ []) (bool_type ∷ [])) (var x 0))))
unfolding alpha
merge_shifted = refl

-- of the handlers' types the first one, also where an annotation stands beside it:
-- `merge { a = λ(x : Bool) → x, b = λ(b : Bool) → λ(y : Bool) → y } (< a | b : Bool >.b True)`
abbrev named_handlers : Term
named_handlers = handlers (lambda x bool_type (var x 0)) (lambda b bool_type (lambda y bool_type (var y 0)))

merge_names : type_of (merge named_handlers chosen) ≡ Some (forall x bool_type bool_type)
unfolding alpha
merge_names = refl

merge_annotated_names : type_of (merge_typed named_handlers chosen (forall y bool_type bool_type)) ≡ Some (forall x bool_type bool_type)
unfolding alpha
merge_annotated_names = refl

-- 34, 35
handlers_value : refused (merge one chosen) ≡ at_root 34
unfolding alpha
handlers_value = refl

merge_of_values : refused (merge one one) ≡ at_root 34
merge_of_values = refl

merge_of_value : refused (merge (handlers one one) one) ≡ at_root 35
merge_of_value = refl

-- a union itself is no alternative of it
merge_of_type : refused (merge (handlers one one) choice) ≡ at_root 35
merge_of_type = refl

-- 36: a handler too few, a handler too many
handler_missing : refused (merge (with_field a one) chosen) ≡ at_root 36
unfolding alpha
handler_missing = refl

handler_unused : refused (merge (handlers one one) (app (field (union (typed b ∷ []) (bool_type ∷ [])) b) true_literal)) ≡ at_root 36
unfolding alpha
handler_unused = refl

optional_handler_missing : refused (merge (with_field (codes "None") one) (some true_literal)) ≡ at_root 36
optional_handler_missing = refl

-- 37: no function, a function from another type
handler_value : refused (merge (handlers one two) chosen) ≡ at_root 37
unfolding alpha
handler_value = refl

handler_domain : refused (merge (handlers one (lambda x natural_type two)) chosen) ≡ at_root 37
unfolding alpha
handler_domain = refl

-- 38: `merge { a = 1, b = λ(x : Bool) → assert : x ≡ x } ..`
handler_depends : refused (merge (handlers one (lambda x bool_type (assert (equivalent (var x 0) (var x 0))))) chosen) ≡ at_root 38
unfolding alpha
handler_depends = refl

-- 39
handlers_differ : refused (merge (handlers letter (lambda x bool_type two)) chosen) ≡ at_root 39
unfolding alpha
handlers_differ = refl

-- each handler is checked before the next one: the one of b differs, and then the one of y is no function
handlers_in_order : refused (merge (record_literal ((a, letter) ∷ (b, two) ∷ (y, two) ∷ []))
    (field (union (untyped a ∷ untyped b ∷ typed y ∷ []) (bool_type ∷ [])) a)) ≡ at_root 39
unfolding alpha
handlers_in_order = refl

-- 40
merge_annotated : type_of (merge_typed (handlers one (lambda x bool_type two)) chosen natural_type) ≡ Some natural_type
unfolding alpha
merge_annotated = refl

merge_annotation_differs : refused (merge_typed (handlers one (lambda x bool_type two)) chosen bool_type) ≡ at_root 40
unfolding alpha
merge_annotation_differs = refl

-- handlers that give types: `merge { a = Natural, b = λ(x : Bool) → Bool } .. : Type`
merge_types : type_of (merge_typed (handlers natural_type (lambda x bool_type bool_type)) chosen type) ≡ Some type
unfolding alpha
merge_types = refl

-- the annotation `Sort` has no type
merge_annotation_sort : refused (merge_typed (handlers one (lambda x bool_type two)) chosen sort) ≡ at_root 40
unfolding alpha
merge_annotation_sort = refl

merge_annotation_ill : refused (merge_typed one one (plus one true_literal)) ≡ at (2 ∷ []) 14
merge_annotation_ill = refl

-- 41: `λ(x : <>) → merge {=} x`, and with an annotation, of which nothing more is asked
merge_nothing : refused (lambda x (union [] []) (merge (record_literal []) (var x 0))) ≡ at (1 ∷ []) 41
merge_nothing = refl

merge_nothing_annotated : type_of (lambda x (union [] []) (merge_typed (record_literal []) (var x 0) bool_type)) ≡ Some (forall x (union [] []) bool_type)
merge_nothing_annotated = refl

merge_nothing_to_value : type_of (lambda x (union [] []) (merge_typed (record_literal []) (var x 0) one)) ≡ Some (forall x (union [] []) one)
merge_nothing_to_value = refl

-- ---- `toMap`

-- `List { mapKey : Text, mapValue : t }`
abbrev map_type : Term → Term
map_type t = list_type (record_type ((codes "mapKey", text_type) ∷ (codes "mapValue", t) ∷ []))

map_fields : type_of (to_map (record_literal ((a, one) ∷ (b, two) ∷ []))) ≡ Some (map_type natural_type)
unfolding alpha
map_fields = refl

map_annotated : type_of (to_map_typed (with_field a one) (map_type natural_type)) ≡ Some (map_type natural_type)
unfolding alpha
map_annotated = refl

-- of the field's type the names stay, not those of the annotation: `toMap { a = λ(x : Bool) → x } : ..`
map_names : type_of (to_map_typed (with_field a (lambda x bool_type (var x 0))) (map_type (forall y bool_type bool_type))) ≡ Some (map_type (forall x bool_type bool_type))
unfolding alpha
map_names = refl

map_empty_annotated : type_of (to_map_typed (record_literal []) (map_type natural_type)) ≡ Some (map_type natural_type)
unfolding alpha
map_empty_annotated = refl

-- 42, 43
map_value : refused (to_map one) ≡ at_root 42
map_value = refl

map_differ : refused (to_map (record_literal ((a, one) ∷ (b, true_literal) ∷ []))) ≡ at_root 43
unfolding alpha
map_differ = refl

map_types : refused (to_map (with_field a natural_type)) ≡ at_root 43
map_types = refl

-- 44, 45
map_empty : refused (to_map (record_literal [])) ≡ at_root 44
map_empty = refl

map_annotation_differs : refused (to_map_typed (with_field a one) (map_type bool_type)) ≡ at_root 45
unfolding alpha
map_annotation_differs = refl

map_annotation_form : refused (to_map_typed (with_field a one) (list_type (with_type (codes "mapKey") text_type))) ≡ at_root 45
unfolding alpha
map_annotation_form = refl

map_annotation_key : refused (to_map_typed (record_literal []) (list_type (record_type ((codes "mapKey", natural_type) ∷ (codes "mapValue", text_type) ∷ [])))) ≡ at_root 45
unfolding alpha
map_annotation_key = refl

-- the labels of an entry, and no others
map_annotation_labels : refused (to_map_typed (record_literal []) (list_type (record_type ((codes "key", text_type) ∷ (codes "mapValue", text_type) ∷ [])))) ≡ at_root 45
unfolding alpha
map_annotation_labels = refl

map_annotation_value : refused (to_map_typed (record_literal []) (list_type (record_type ((codes "mapKey", text_type) ∷ (codes "value", text_type) ∷ [])))) ≡ at_root 45
unfolding alpha
map_annotation_value = refl

map_annotation_more :
    refused (to_map_typed (record_literal []) (list_type (record_type ((codes "mapKey", text_type) ∷ (codes "mapValue", text_type) ∷ (codes "z", text_type) ∷ [])))) ≡ at_root 45
unfolding alpha
map_annotation_more = refl

-- a map is a list
map_annotation_optional :
    refused (to_map_typed (record_literal []) (optional_type (record_type ((codes "mapKey", text_type) ∷ (codes "mapValue", text_type) ∷ [])))) ≡ at_root 45
unfolding alpha
map_annotation_optional = refl

-- the fields come before the annotation: `toMap { a = Natural } : Bool`
map_fields_first : refused (to_map_typed (with_field a natural_type) bool_type) ≡ at_root 43
map_fields_first = refl

map_annotation_sort : refused (to_map_typed (record_literal []) sort) ≡ at_root 45
map_annotation_sort = refl

map_annotation_ill : refused (to_map_typed one (plus one true_literal)) ≡ at (1 ∷ []) 14
map_annotation_ill = refl
