-- Typing of whole expressions.
use Rattle.std.specs.Prelude.{◌≡◌, refl, [], ◌∷◌, Some, codes}
use Rattle.dh_syntax.specs.declared.operators.BinOp.TheVariants as bins
use Rattle.dh_syntax.specs.declared.operators.Builtin.TheVariants as builtins
use Rattle.dh_syntax.specs.Names.Alpha.{alpha}
use Rattle.dh_syntax.specs.Expressions.Forms.{natural, text, plain_text, operator, if_else, app, apply, call, lambda, forall, let_in, list, empty_list, list_type, record_type, record_literal, field, union, merge, to_map, update}
use Rattle.dh_syntax.specs.Normalising.Heads.{Answer, Found}
use Rattle.dh_syntax.specs.Normalising.Named.{names}
use Rattle.dh_syntax.specs.Expressions.Nesting.{nesting}
use Rattle.dh_syntax.specs.Normalising.Normal.{plain_answer}
use Rattle.dh_examples.specs.Typing.Judged.{at, at_root, refused, type_of}
use Rattle.dh_examples.specs.Vocabulary.{a, assert, b, bool_type, equivalent, letter, natural_type, one, plus, sort, text_type, true_literal, two, type, typed, untyped, var, with_field, with_type, x, y, ◌⟶◌}
use Rattle.dh_syntax.specs.Expressions.Tree.{Name, Term}

-- ---- types

-- `let T = Natural in λ(x : T) → x`
synonym : type_of (let_in (codes "T") natural_type (lambda x (var (codes "T") 0) (var x 0))) ≡ Some (forall x natural_type natural_type)
synonym = refl

-- `assert : 1 + 1 ≡ 2`
holds : type_of (assert (equivalent (plus one one) two)) ≡ Some (equivalent two two)
unfolding alpha
holds = refl

-- `merge { A = 1, B = λ(b : Bool) → 2 } (< A | B : Bool >.B True)`
merged : type_of (merge (record_literal ((codes "A", one) ∷ (codes "B", lambda b bool_type two) ∷ []))
    (app (field (union (untyped (codes "A") ∷ typed (codes "B") ∷ []) (bool_type ∷ [])) (codes "B")) true_literal))
    ≡ Some natural_type
unfolding alpha
merged = refl

-- `λ(t : Text) → "" ++ t ++ "!"`
appended : type_of (lambda (codes "t") text_type (operator bins.TextAppend (operator bins.TextAppend (plain_text []) (var (codes "t") 0)) (plain_text (codes "!"))))
    ≡ Some (forall (codes "t") text_type text_type)
appended = refl

-- `λ(p : Bool) → if p then 1 else 1`
branches : type_of (lambda (codes "p") bool_type (if_else (var (codes "p") 0) one one)) ≡ Some (forall (codes "p") bool_type natural_type)
unfolding alpha
branches = refl

-- `λ(x : { a : Natural, b : Natural }) → (x ⫽ { b = 2 }).b`
preferred : type_of (lambda x (record_type ((a, natural_type) ∷ (b, natural_type) ∷ [])) (field (operator bins.Prefer (var x 0) (with_field b two)) b))
    ≡ Some (forall x (record_type ((a, natural_type) ∷ (b, natural_type) ∷ [])) natural_type)
preferred = refl

-- `(λ(x : Type) → λ(y : x) → y) (List Natural) [ 1 ]`
instantiated : type_of (apply (lambda x type (lambda y (var x 0) (var y 0))) (list_type natural_type ∷ list (one ∷ []) ∷ [])) ≡ Some (list_type natural_type)
unfolding alpha
instantiated = refl

-- `Natural/fold 3 Natural (λ(x : Natural) → x + 1) 0`
fold : type_of (call builtins.NaturalFold (natural 3 ∷ natural_type ∷ lambda x natural_type (plus (var x 0) one) ∷ natural 0 ∷ [])) ≡ Some natural_type
unfolding alpha
fold = refl

-- `List/indexed Bool ([] : List Bool)`
indexed : type_of (call builtins.ListIndexed (bool_type ∷ empty_list (list_type bool_type) ∷ []))
    ≡ Some (list_type (record_type ((codes "index", natural_type) ∷ (codes "value", bool_type) ∷ [])))
unfolding alpha
indexed = refl

-- `toMap { x = 1, y = 2 }`
map : type_of (to_map (record_literal ((x, one) ∷ (y, two) ∷ [])))
    ≡ Some (list_type (record_type ((codes "mapKey", text_type) ∷ (codes "mapValue", natural_type) ∷ [])))
unfolding alpha
map = refl

-- `({ a = 1 } with b.c = True).b`
updated : type_of (field (update (with_field a one) (b ∷ codes "c" ∷ []) true_literal) b) ≡ Some (with_type (codes "c") bool_type)
updated = refl

-- `< Environment : Text | Local : Text | Missing | Remote : Text >.Remote "t"`
abbrev location : Term
location = union (typed (codes "Environment") ∷ typed (codes "Local") ∷ untyped (codes "Missing") ∷ typed (codes "Remote") ∷ []) (text_type ∷ text_type ∷ text_type ∷ [])

located : type_of (app (field location (codes "Remote")) letter) ≡ Some location
unfolding alpha
located = refl

missing : type_of (field location (codes "Missing")) ≡ Some location
missing = refl

-- ---- refusals

-- `Sort`, `λ(x : Sort) → 1`, `[] : Sort`
sort_alone : refused sort ≡ at_root 2
sort_alone = refl

sort_domain : refused (lambda x sort one) ≡ at (0 ∷ []) 2
sort_domain = refl

sort_elements : refused (empty_list sort) ≡ at_root 15
sort_elements = refl

-- `1 + True`, `[ 1 + True ]`, `λ(x : Bool) → x + 1`, `let x = 1 in x && True`
plus_bool : refused (plus one true_literal) ≡ at_root 14
plus_bool = refl

plus_bool_inside : refused (list (plus one true_literal ∷ [])) ≡ at (0 ∷ []) 14
plus_bool_inside = refl

plus_below : refused (lambda x bool_type (plus (var x 0) one)) ≡ at (1 ∷ []) 13
plus_below = refl

and_natural : refused (let_in x one (operator bins.And (var x 0) true_literal)) ≡ at (1 ∷ []) 13
and_natural = refl

-- `assert : 1 + 1 ≡ 3`
fails : refused (assert (equivalent (plus one one) (natural 3))) ≡ at_root 49
unfolding alpha
fails = refl

-- ---- a small program, its files put in as normal forms

-- the normal form
abbrev value_in : Answer Term → Term
value_in (Found e left) = e
value_in _ = sort

-- the normal form of an expression with names
abbrev value : Term → Term
value e = value_in (plain_answer names nesting 1000 e)

-- the label `name`
abbrev name : Name
name = codes "name"

-- the label `role`
abbrev role : Name
role = codes "role"

-- `< Admin | User : Natural >`
abbrev role_type : Term
role_type = union (untyped (codes "Admin") ∷ typed (codes "User") ∷ []) (natural_type ∷ [])

-- `{ name : Text, role : < Admin | User : Natural > }`
abbrev person_type : Term
person_type = record_type ((name, text_type) ∷ (role, role_type) ∷ [])

-- `{ Role = < Admin | User : Natural >, Person = { name : Text, role : < Admin | User : Natural > } }`
abbrev types : Term
types = record_literal ((codes "Person", person_type) ∷ (codes "Role", role_type) ∷ [])

types_typed : type_of types ≡ Some (record_type ((codes "Person", type) ∷ (codes "Role", type) ∷ []))
types_typed = refl

-- `merge { Admin = "admin", User = λ(n : Natural) → "user ${Natural/show n}" } p.role`
abbrev tail : Term
tail = merge (record_literal (
    (codes "Admin", plain_text (codes "admin"))
    ∷ (codes "User", lambda (codes "n") natural_type (text (codes "user " ∷ [] ∷ []) (call builtins.NaturalShow (var (codes "n") 0 ∷ []) ∷ [])))
    ∷ [])) (field (var (codes "p") 0) role)

-- `let T = ./types.dhall in λ(p : T.Person) → let tail = .. in "${p.name}: ${tail}"`
abbrev greet : Term
greet =
    let_in (codes "T") (value types) (lambda (codes "p") (field (var (codes "T") 0) (codes "Person")) (
    let_in (codes "tail") tail (text ([] ∷ codes ": " ∷ [] ∷ []) (field (var (codes "p") 0) name ∷ var (codes "tail") 0 ∷ []))))

greet_typed : type_of greet ≡ Some (forall (codes "p") person_type text_type)
unfolding alpha
greet_typed = refl

-- `λ(a : Type) → λ(b : Type) → λ(f : a → b) → λ(xs : List a) →
--    List/build b (λ(list : Type) → λ(cons : b → list → list) → List/fold a xs list (λ(x : a) → cons (f x)))`
abbrev mapping : Term
mapping =
    let list' = var (codes "list") 0 in
    lambda a type (lambda b type (lambda (codes "f") (var a 0 ⟶ var b 0) (lambda (codes "xs") (list_type (var a 0)) (
    call builtins.ListBuild (
    var b 0
    ∷ lambda (codes "list") type (lambda (codes "cons") (var b 0 ⟶ list' ⟶ list') (
    call builtins.ListFold (var a 0 ∷ var (codes "xs") 0 ∷ list' ∷ lambda x (var a 0) (app (var (codes "cons") 0) (app (var (codes "f") 0) (var x 0))) ∷ [])))
    ∷ [])))))

mapping_typed : type_of mapping
    ≡ Some (forall a type (forall b type (forall (codes "f") (var a 0 ⟶ var b 0) (forall (codes "xs") (list_type (var a 0)) (list_type (var b 0))))))
unfolding alpha
mapping_typed = refl

-- `let T = ./types.dhall let map = ./map.dhall
--  in map T.Person Text ./greet.dhall [ { name = "Ann", role = T.Role.Admin }, { name = "Bo", role = T.Role.User 7 } ]`
abbrev program : Term
program =
    let roles = field (var (codes "T") 0) (codes "Role") in
    let_in (codes "T") (value types) (let_in (codes "map") (value mapping) (
    apply (var (codes "map") 0) (
    field (var (codes "T") 0) (codes "Person") ∷ text_type ∷ value greet
    ∷ list (
    record_literal ((name, plain_text (codes "Ann")) ∷ (role, field roles (codes "Admin")) ∷ [])
    ∷ record_literal ((name, plain_text (codes "Bo")) ∷ (role, app (field roles (codes "User")) (natural 7)) ∷ [])
    ∷ [])
    ∷ [])))

program_typed : type_of program ≡ Some (list_type text_type)
unfolding alpha
program_typed = refl
