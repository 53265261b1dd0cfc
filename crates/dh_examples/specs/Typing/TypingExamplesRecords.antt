-- Typing of records, record types, unions, selection, projection, the operators on records, `with` and record
-- completion: each rule where it holds and where it fails.
use Rattle.std.specs.Prelude.{◌≡◌, refl, [], ◌∷◌, Some, codes}
use Rattle.dh_syntax.specs.declared.operators.BinOp.TheVariants as bins
use Rattle.dh_syntax.specs.Names.Alpha.{alpha}
use Rattle.dh_syntax.specs.Expressions.Forms.{operator, lambda, forall, let_in, app, record_type, record_literal, field, projection, projection_by_type, union, update}
use Rattle.dh_examples.specs.Typing.Judged.{at, at_root, refused, type_of}
use Rattle.dh_examples.specs.Vocabulary.{a, b, bool_type, c, kind, letter, natural_type, one, plus, sort, text_type, true_literal, type, typed, untyped, var, with_field, with_type, x}
use Rattle.dh_syntax.specs.Expressions.Tree.{Term}

-- `{ a : Natural, b : Bool }` and `{ a = 1, b = True }`
abbrev both_types : Term
both_types = record_type ((a, natural_type) ∷ (b, bool_type) ∷ [])

-- `{ a = 1, b = True }`
abbrev both : Term
both = record_literal ((a, one) ∷ (b, true_literal) ∷ [])

-- ---- 19, 20, 21: record types, records and unions

record_of_types : type_of both_types ≡ Some type
record_of_types = refl

record_of_nothing : type_of (record_type []) ≡ Some type
record_of_nothing = refl

-- `{ a : Natural, b : Type }`, `{ a : Kind, b : Type }`
record_of_kinds : type_of (record_type ((a, natural_type) ∷ (b, type) ∷ [])) ≡ Some kind
record_of_kinds = refl

record_of_sorts : type_of (record_type ((a, kind) ∷ (b, type) ∷ [])) ≡ Some sort
record_of_sorts = refl

record_type_value : refused (record_type ((a, one) ∷ (b, bool_type) ∷ [])) ≡ at_root 19
record_type_value = refl

-- all parts are typed before the checks
record_type_ill : refused (record_type ((a, one) ∷ (b, sort) ∷ [])) ≡ at (1 ∷ []) 2
record_type_ill = refl

record_of_values : type_of both ≡ Some both_types
record_of_values = refl

record_empty : type_of (record_literal []) ≡ Some (record_type [])
record_empty = refl

-- `{ a = Natural, b = Type }` has the type `{ a : Type, b : Kind }`
record_with_types : type_of (record_literal ((a, natural_type) ∷ (b, type) ∷ [])) ≡ Some (record_type ((a, type) ∷ (b, kind) ∷ []))
record_with_types = refl

record_with_kind : refused (record_literal ((a, one) ∷ (b, kind) ∷ [])) ≡ at_root 20
record_with_kind = refl

-- `< a | b : Natural >`, `<>`, `< a | b : Type >`
union_of_types : type_of (union (untyped a ∷ typed b ∷ []) (natural_type ∷ [])) ≡ Some type
union_of_types = refl

union_of_nothing : type_of (union [] []) ≡ Some type
union_of_nothing = refl

union_of_kinds : type_of (union (untyped a ∷ typed b ∷ []) (type ∷ [])) ≡ Some kind
union_of_kinds = refl

union_value : refused (union (untyped a ∷ typed b ∷ []) (one ∷ [])) ≡ at_root 21
union_value = refl

union_ill : refused (union (untyped a ∷ typed b ∷ []) (sort ∷ [])) ≡ at (0 ∷ []) 2
union_ill = refl

-- ---- 22: selection

select : type_of (field both b) ≡ Some bool_type
select = refl

-- `< a | b : Natural >.a` is one of it, and `< a | b : Natural >.b` a function to it
abbrev choice : Term
choice = union (untyped a ∷ typed b ∷ []) (natural_type ∷ [])

select_empty : type_of (field choice a) ≡ Some choice
select_empty = refl

select_holding : type_of (field choice b) ≡ Some (forall b natural_type choice)
select_holding = refl

-- `λ(b : Type) → < a : b >.a` has the type `∀(b : Type) → ∀(a : b) → < a : b >`
select_below : type_of (lambda b type (field (union (typed a ∷ []) (var b 0 ∷ [])) a))
    ≡ Some (forall b type (forall a (var b 0) (union (typed a ∷ []) (var b 0 ∷ []))))
select_below = refl

-- `λ(b : Type) → < b : b >.b` has the type `∀(b : Type) → ∀(b : b) → < b : b@1 >`
select_shifted : type_of (lambda b type (field (union (typed b ∷ []) (var b 0 ∷ [])) b))
    ≡ Some (forall b type (forall b (var b 0) (union (typed b ∷ []) (var b 1 ∷ []))))
select_shifted = refl

-- `< a : Bool | b : Natural >.b`: each alternative has its own type
select_second : type_of (field (union (typed a ∷ typed b ∷ []) (bool_type ∷ natural_type ∷ [])) b)
    ≡ Some (forall b natural_type (union (typed a ∷ typed b ∷ []) (bool_type ∷ natural_type ∷ [])))
select_second = refl

-- `let x = < a | b : Natural > in x.a`, and a union that contraction finds: `{ c = < a | b : Natural > }.c.a`
select_named : type_of (let_in x choice (field (var x 0) a)) ≡ Some choice
select_named = refl

select_found : type_of (field (field (with_field c choice) c) a) ≡ Some choice
select_found = refl

select_missing : refused (field both c) ≡ at_root 22
select_missing = refl

select_missing_alternative : refused (field choice c) ≡ at_root 22
select_missing_alternative = refl

select_value : refused (field one a) ≡ at_root 22
select_value = refl

select_ill : refused (field (plus one true_literal) a) ≡ at (0 ∷ []) 14
select_ill = refl

-- ---- 23, 24: projection

project : type_of (projection both (b ∷ [])) ≡ Some (with_type b bool_type)
project = refl

project_nothing : type_of (projection both []) ≡ Some (record_type [])
project_nothing = refl

project_value : refused (projection one (a ∷ [])) ≡ at_root 23
project_value = refl

-- `Natural.{}`
project_type : refused (projection natural_type []) ≡ at_root 23
project_type = refl

project_missing : refused (projection both (a ∷ c ∷ [])) ≡ at_root 24
project_missing = refl

-- ---- 25, 26, 27: projection by a type

project_by_type : type_of (projection_by_type both (with_type b bool_type)) ≡ Some (with_type b bool_type)
unfolding alpha
project_by_type = refl

-- the type is the normal form of the one that stands there: `{ a = 1, b = True }.((λ(x : Type) → { a : x }) Natural)`
project_by_found : type_of (projection_by_type both (app (lambda x type (with_type a (var x 0))) natural_type)) ≡ Some (with_type a natural_type)
unfolding alpha
project_by_found = refl

project_by_type_value : refused (projection_by_type one (with_type b bool_type)) ≡ at_root 25
project_by_type_value = refl

project_by_value : refused (projection_by_type both one) ≡ at_root 26
project_by_value = refl

project_by_missing : refused (projection_by_type both (with_type c bool_type)) ≡ at_root 27
project_by_missing = refl

project_by_differing : refused (projection_by_type both (with_type b natural_type)) ≡ at_root 27
unfolding alpha
project_by_differing = refl

-- both parts are typed first
project_by_ill : refused (projection_by_type one (with_type b one)) ≡ at (1 ∷ []) 19
project_by_ill = refl

-- ---- 28, 29, 30: `⫽` and `∧`

-- `{ a = 1, b = True } ⫽ { b = "t", c = 1 }`
prefer : type_of (operator bins.Prefer both (record_literal ((b, letter) ∷ (c, one) ∷ [])))
    ≡ Some (record_type ((a, natural_type) ∷ (b, text_type) ∷ (c, natural_type) ∷ []))
prefer = refl

prefer_left : refused (operator bins.Prefer one one) ≡ at_root 28
prefer_left = refl

prefer_right : refused (operator bins.Prefer both one) ≡ at_root 29
prefer_right = refl

-- `{ c = True } ∧ { a = 1 }`
combine : type_of (operator bins.Combine (with_field c true_literal) (with_field a one)) ≡ Some (record_type ((a, natural_type) ∷ (c, bool_type) ∷ []))
combine = refl

-- `{ a = { b = 1 }, c = 1 } ∧ { a = { c = True } }`
combine_inside : type_of (operator bins.Combine (record_literal ((a, with_field b one) ∷ (c, one) ∷ [])) (with_field a (with_field c true_literal)))
    ≡ Some (record_type ((a, record_type ((b, natural_type) ∷ (c, bool_type) ∷ [])) ∷ (c, natural_type) ∷ []))
combine_inside = refl

combine_left : refused (operator bins.Combine one both) ≡ at_root 28
combine_left = refl

combine_both : refused (operator bins.Combine one one) ≡ at_root 28
combine_both = refl

combine_right : refused (operator bins.Combine both one) ≡ at_root 29
combine_right = refl

combine_common : refused (operator bins.Combine both (with_field a one)) ≡ at_root 30
combine_common = refl

-- `{ a = { b = 1 } } ∧ { a = { b = 1 } }`, and a record beside a value
combine_common_inside : refused (operator bins.Combine (with_field a (with_field b one)) (with_field a (with_field b one))) ≡ at_root 30
combine_common_inside = refl

combine_record_beside_value : refused (operator bins.Combine (with_field a (with_field b one)) (with_field a one)) ≡ at_root 30
combine_record_beside_value = refl

-- ---- 31, 32, 33: `⩓`

-- `{ a : Natural } ⩓ { b : Bool }` is in Type, `{ a : Natural } ⩓ { b : Type }` in Kind
combine_types : type_of (operator bins.CombineTypes (with_type a natural_type) (with_type b bool_type)) ≡ Some type
combine_types = refl

combine_kinds : type_of (operator bins.CombineTypes (with_type a natural_type) (with_type b type)) ≡ Some kind
combine_kinds = refl

combine_sorts : type_of (operator bins.CombineTypes (with_type a kind) (with_type b type)) ≡ Some sort
combine_sorts = refl

combine_types_inside : type_of (operator bins.CombineTypes (with_type a (with_type b natural_type)) (with_type a (with_type c bool_type))) ≡ Some type
combine_types_inside = refl

combine_types_left : refused (operator bins.CombineTypes natural_type one) ≡ at_root 31
combine_types_left = refl

combine_types_value : refused (operator bins.CombineTypes both (with_type b bool_type)) ≡ at_root 31
combine_types_value = refl

combine_types_right : refused (operator bins.CombineTypes (with_type b bool_type) one) ≡ at_root 32
combine_types_right = refl

combine_types_common : refused (operator bins.CombineTypes both_types (with_type a natural_type)) ≡ at_root 33
combine_types_common = refl

-- ---- 54, 55: `with`

-- `{ a = 1, b = True } with a = "t"`, `.. with c = "t"`
update_field : type_of (update both (a ∷ []) letter) ≡ Some (record_type ((a, text_type) ∷ (b, bool_type) ∷ []))
update_field = refl

update_new : type_of (update both (c ∷ []) letter) ≡ Some (record_type ((a, natural_type) ∷ (b, bool_type) ∷ (c, text_type) ∷ []))
update_new = refl

-- `{ a = 1 } with b.c = True`, `{ a = { b = 1 } } with a.c = True`
update_made : type_of (update (with_field a one) (b ∷ c ∷ []) true_literal) ≡ Some (record_type ((a, natural_type) ∷ (b, with_type c bool_type) ∷ []))
update_made = refl

update_inside : type_of (update (with_field a (with_field b one)) (a ∷ c ∷ []) true_literal) ≡ Some (with_type a (record_type ((b, natural_type) ∷ (c, bool_type) ∷ [])))
update_inside = refl

update_value : refused (update one (a ∷ []) one) ≡ at_root 54
update_value = refl

-- `{ a = 1 } with a.b = True`
update_through_value : refused (update (with_field a one) (a ∷ b ∷ []) true_literal) ≡ at_root 54
update_through_value = refl

update_sort : refused (update both (a ∷ []) kind) ≡ at_root 55
update_sort = refl

update_value_sort : refused (update one (a ∷ []) kind) ≡ at_root 54
update_value_sort = refl

-- ---- 53: `t::r`

-- `{ Type = { a : Natural, b : Bool }, default = { a = 1 } }`
abbrev schema : Term
schema = record_literal ((codes "Type", both_types) ∷ (codes "default", with_field a one) ∷ [])

-- `..::{ b = True }`
completed : type_of (operator bins.Complete schema (with_field b true_literal)) ≡ Some both_types
unfolding alpha
completed = refl

-- `..::{=}` lacks b, and `1::{=}` has no default
completion_lacks : refused (operator bins.Complete schema (record_literal [])) ≡ at_root 53
unfolding alpha
completion_lacks = refl

completion_of_value : refused (operator bins.Complete one (record_literal [])) ≡ at_root 53
completion_of_value = refl

-- what fails in a side fails there
completion_left_ill : refused (operator bins.Complete (plus one true_literal) (plus one true_literal)) ≡ at (0 ∷ []) 14
completion_left_ill = refl

completion_right_ill : refused (operator bins.Complete one (plus one true_literal)) ≡ at (1 ∷ []) 14
completion_right_ill = refl

-- ---- 56: `?`

fallback : refused (operator bins.Fallback one one) ≡ at_root 56
fallback = refl
