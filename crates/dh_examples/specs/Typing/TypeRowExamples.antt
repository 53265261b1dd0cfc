-- Rules on nodes of whose parts all is known that they need.
use Rattle.std.specs.Prelude.{◌≡◌, refl, true, [], ◌∷◌, Some, None}
use Rattle.dh_syntax.specs.declared.expressions.Op.TheVariants as ops
use Rattle.dh_syntax.specs.declared.operators.BinOp.TheVariants as bins
use Rattle.dh_syntax.specs.declared.operators.Builtin.TheVariants as builtins
use Rattle.dh_syntax.specs.Names.Alpha.{alpha}
use Rattle.dh_syntax.specs.Expressions.Forms.{forall, list_type, record_type, union}
use Rattle.dh_syntax.specs.Typing.NamedTyping.{scopes}
use Rattle.dh_syntax.specs.Expressions.Tree.{Node, end, kid, Term}
use Rattle.dh_syntax.specs.Typing.TypeRows.{type_row, type_op}
use Rattle.dh_syntax.specs.Typing.TypeRules as rule
use Rattle.dh_syntax.specs.Typing.TypeRulesRecords.{joined}
use Rattle.dh_examples.specs.Vocabulary.{a, b, c, bool_type, equivalent, natural_type, one, two, type, typed, untyped, with_type, x, y}
use Rattle.dh_syntax.specs.Typing.TypeRuling.{Known, Typed, No}

-- a part with a type in Type, one with a type in no universe, an annotation, and one without type
abbrev value : Term → Known Term
value t = record { normal = None; typed = Some t; universe = Some builtins.TypeConst }

-- a part with a type that is in no universe that is known
abbrev other : Term → Known Term
other t = record { normal = None; typed = Some t; universe = None }

-- a part with a normal form and a type in `Kind`
abbrev normal : Term → Term → Known Term
normal e t = record { normal = Some e; typed = Some t; universe = Some builtins.Kind }

-- a part with a normal form and no type
abbrev without_type : Term → Known Term
without_type e = record { normal = Some e; typed = None; universe = None }

-- `if`
if_rule : type_op scopes ops.If (value bool_type ∷ value natural_type ∷ value natural_type ∷ []) ≡ Some (Typed natural_type)
unfolding alpha
if_rule = refl

if_no_universe : type_op scopes ops.If (value bool_type ∷ other natural_type ∷ value natural_type ∷ []) ≡ Some (No rule.BranchesNotInType)
if_no_universe = refl

-- the type is given before it is normalised
list_rule : type_op scopes ops.List (value natural_type ∷ value natural_type ∷ []) ≡ Some (Typed (list_type natural_type))
unfolding alpha
list_rule = refl

-- `[] : t`, with t known, with the annotation `Sort`, and with a normal form that is missing
empty_list_rule : type_op scopes ops.EmptyList (normal (list_type bool_type) type ∷ []) ≡ Some (Typed (list_type bool_type))
empty_list_rule = refl

empty_list_untyped : type_op scopes ops.EmptyList (without_type bool_type ∷ []) ≡ Some (No rule.EmptyListAnnotation)
empty_list_untyped = refl

empty_list_unknown : type_op scopes ops.EmptyList (value type ∷ []) ≡ None
empty_list_unknown = refl

-- `e : t`
annotation_rule : type_op scopes ops.Annot (value (forall x bool_type bool_type) ∷ normal (forall y bool_type bool_type) type ∷ [])
    ≡ Some (Typed (forall y bool_type bool_type))
unfolding alpha
annotation_rule = refl

-- `assert : l ≡ r`
assert_rule : type_op scopes ops.Assert (normal (equivalent one two) type ∷ []) ≡ Some (No rule.AssertionFails)
unfolding alpha
assert_rule = refl

-- `e.x` needs the normal form of e only where e is no record with x
select_rule : type_row scopes (ops.Field a) (value (with_type a bool_type) ∷ []) ≡ Some (Typed bool_type)
select_rule = refl

select_unknown : type_row scopes (ops.Field b) (value (with_type a bool_type) ∷ []) ≡ None
select_unknown = refl

select_alternative : type_row scopes (ops.Field b) (normal (union (untyped a ∷ typed b ∷ []) (bool_type ∷ [])) type ∷ [])
    ≡ Some (Typed (forall b bool_type (union (untyped a ∷ typed b ∷ []) (bool_type ∷ []))))
select_alternative = refl

-- `⩓` needs the right side only where the left one is a record type
combine_types_rule : type_row scopes (ops.Bin bins.CombineTypes) (normal one natural_type ∷ value natural_type ∷ []) ≡ Some (No rule.LeftNoRecordType)
combine_types_rule = refl

combine_types_unknown : type_row scopes (ops.Bin bins.CombineTypes) (normal (with_type a bool_type) type ∷ value type ∷ []) ≡ None
combine_types_unknown = refl

-- `merge` with the annotation `Sort`
merge_untyped : type_row scopes (ops.Merge true) (value (with_type a natural_type) ∷ value (union (untyped a ∷ []) []) ∷ without_type type ∷ [])
    ≡ Some (No rule.MergeAnnotation)
unfolding alpha
merge_untyped = refl

-- each group has its own forms
if_no_row : type_row scopes ops.If (value bool_type ∷ value natural_type ∷ value natural_type ∷ []) ≡ None
if_no_row = refl

record_no_operator : type_op scopes (ops.Record (a ∷ [])) (value bool_type ∷ []) ≡ None
record_no_operator = refl

record_rule : type_row scopes (ops.Record (a ∷ b ∷ [])) (value bool_type ∷ other type ∷ []) ≡ Some (Typed (record_type ((a, bool_type) ∷ (b, type) ∷ [])))
record_rule = refl

-- record types are joined where no part stands under a binder
joined_types : joined (with_type a (with_type b bool_type)) (with_type a (with_type c natural_type)) ≡ Some (with_type a (record_type ((b, bool_type) ∷ (c, natural_type) ∷ [])))
joined_types = refl

joined_under_binder : joined (Node (ops.RecordType (a ∷ [])) (kid (Some x) bool_type end)) (with_type b natural_type) ≡ None
joined_under_binder = refl
