-- The rules of typing for records, record types, unions, selection, projection, the operators on records and `with`
-- (the standard's "Type inference", the sections named for these forms; the universe of a record type or a union and
-- the checks of the operators are this project's own).
use Rattle.std.specs.Prelude.{Bool, true, false, not, ◌&&◌, List, [], ◌∷◌, Option, Some, None, option_map, option_and_then, unwrap_or}
use Rattle.dh_syntax.specs.declared.expressions.Op.TheVariants as ops
use Rattle.dh_syntax.specs.declared.operators.Builtin.{Builtin}
use Rattle.dh_syntax.specs.declared.operators.Builtin.TheVariants as builtins
use Rattle.dh_syntax.specs.Expressions.Forms.{Fields, builtin, forall, plain_row, record_type}
use Rattle.dh_syntax.specs.Expressions.Labels.{field_at, fields_at, add_field, all_fields, prepend_field}
use Rattle.dh_syntax.specs.Typing.Scopes.{Scopes}
use Rattle.dh_syntax.specs.Expressions.Tree.{Tree, Row, Node, end, kid, Name}
use Rattle.dh_syntax.specs.Typing.TypeRules as rule
use Rattle.dh_syntax.specs.Typing.TypeRules.{Rule}
use Rattle.dh_syntax.specs.Typing.TypeRuling.{Ruling, Takes, Forms, WithNormal, require, given}
use Rattle.dh_syntax.specs.Typing.TypeViews.{one_of, is_constant, field_type, as_union_type, alternative_at}
use Rattle.dh_syntax.specs.Typing.Universes.{as_universe, greater, greatest}
use Rattle.dh_syntax.specs.Expressions.Views.{as_record_type}

-- one more universe, where all are
abbrev pub prepend_universe : Option Builtin → Option (List Builtin) → Option (List Builtin)
prepend_universe (Some c) (Some cs) = Some (c ∷ cs)
prepend_universe _ _ = None

module _ {A B : Type 0} where
  -- ---- record types and unions

  -- the universes that these are, where each is one
  abbrev pub universes : List (Tree A B) → Option (List Builtin)
  universes [] = Some []
  universes (t ∷ ts) = prepend_universe (as_universe t) (universes ts)

  -- `{ x : t, .. }` and `< A | B : t >`, whose parts have types that must be universes
  abbrev pub greatest_of : Rule → List (Tree A B) → Ruling (Tree A B)
  greatest_of no_universe ts = given (universes ts) no_universe (λ cs. Takes (builtin (greatest cs)))

  -- ---- joining record types

  -- the type of a field, joined with that of the field of the same label on the other side, if there is one
  abbrev pub joined_field : (Tree A B → Option (Tree A B)) → Tree A B → Option (Tree A B) → Option (Tree A B)
  joined_field join t (Some u) = join u
  joined_field join t None = Some t

  abbrev mutual
    -- both record types as one, the types of common fields joined in turn; none where one of these is no record type
    pub joined : Tree A B → Tree A B → Option (Tree A B)
    joined (Node (ops.RecordType xs) r) u = option_and_then (λ gs. option_map (λ fs. record_type (all_fields (λ d e. d) fs gs)) (joined_fields r xs gs)) (as_record_type u)
    joined _ u = None

    -- the fields with these labels and types, each joined with the one that has its label among the others
    pub joined_fields : Row A B → List Name → Fields A B → Option (Fields A B)
    joined_fields end xs gs = Some []
    joined_fields (kid None t r) (x ∷ xs) gs = prepend_field x (joined_field (λ u. joined t u) t (field_at x gs)) (joined_fields r xs gs)
    joined_fields _ _ gs = None

  -- ---- the type with a path set

  -- the type t with the type v at the end of the path; a label that is wanting on the way is made, and where what is on
  -- the way is no record type there is none
  abbrev pub type_with : List Name → Tree A B → Tree A B → Option (Tree A B)
  type_with [] v t = Some v
  type_with (x ∷ path) v t =
      option_and_then (λ fs.
      option_map (λ u. record_type (add_field (λ d e. e) fs x u)) (type_with path v (unwrap_or (field_at x fs) (record_type []))))
      (as_record_type t)

-- In the following, the arguments of a rule are the types of the parts, after what the node itself holds.
module _ {A B : Type 0} (S : Scopes A B) where
  -- `{ x = e, .. }`
  abbrev pub record_literal : List Name → List (Tree A B) → Ruling (Tree A B)
  record_literal xs ts =
      require (not (one_of (is_constant builtins.Sort) ts)) rule.FieldOfSort (
      Forms (Node (ops.RecordType xs) (plain_row ts)))

  -- ---- selection and projection

  -- `u.x` where u is a union: the function that makes the alternative x, or the alternative itself
  abbrev pub alternative : Name → Tree A B → Option (Tree A B) → Ruling (Tree A B)
  alternative x u (Some t) = Forms (forall (S.binder x) t (S.up (S.binder x) u))
  alternative x u None = Takes u

  -- the type, where it is there
  abbrev pub taken_or : Option (Tree A B) → Ruling (Tree A B) → Ruling (Tree A B)
  taken_or (Some t) other = Takes t
  taken_or None other = other

  -- `e.x`
  abbrev pub selection : Name → Tree A B → Ruling (Tree A B)
  selection x t =
      taken_or (field_type x t) (
      WithNormal 0 (λ u.
      given (as_union_type u) rule.NothingToSelect (λ alts.
      given (alternative_at x alts) rule.NothingToSelect (λ a.
      alternative x u a))))

  -- `e.{ x, .. }`
  abbrev pub projection : List Name → Tree A B → Ruling (Tree A B)
  projection xs t =
      given (as_record_type t) rule.ProjectionNoRecord (λ fs.
      given (fields_at xs fs) rule.ProjectionLacksField (λ gs.
      Forms (record_type gs)))

  -- whether a type is there and is this one
  abbrev pub is_there : Option (Tree A B) → Tree A B → Bool
  is_there (Some t) u = S.same t u
  is_there None u = false

  -- whether the second fields are among the first, with the same types
  abbrev pub all_there : Fields A B → Fields A B → Bool
  all_there fs [] = true
  all_there fs ((x, t) ∷ gs) = is_there (field_at x fs) t && all_there fs gs

  -- `e.(r)`
  abbrev pub typed_projection : Tree A B → Ruling (Tree A B)
  typed_projection t =
      given (as_record_type t) rule.TypedProjectionNoRecord (λ fs.
      WithNormal 1 (λ r.
      given (as_record_type r) rule.TypedProjectionNoRecordType (λ gs.
      require (all_there fs gs) rule.TypedProjectionDiffers (
      Takes r))))

  -- ---- operators

  -- `l ⫽ r`
  abbrev pub prefer : Tree A B → Tree A B → Ruling (Tree A B)
  prefer l r =
      given (as_record_type l) rule.LeftNoRecord (λ fs.
      given (as_record_type r) rule.RightNoRecord (λ gs.
      Forms (record_type (all_fields (λ d e. e) fs gs))))

  -- `l ∧ r`
  abbrev pub combine : Tree A B → Tree A B → Ruling (Tree A B)
  combine l r =
      given (as_record_type l) rule.LeftNoRecord (λ fs.
      given (as_record_type r) rule.RightNoRecord (λ gs.
      given (joined l r) rule.FieldsCollide (λ t.
      Forms t)))

  -- `l ⩓ r`; the types of l and r, which are record types, are universes
  abbrev pub combine_types : Tree A B → Tree A B → Ruling (Tree A B)
  combine_types t u =
      WithNormal 0 (λ l.
      given (as_record_type l) rule.LeftNoRecordType (λ fs.
      WithNormal 1 (λ r.
      given (as_record_type r) rule.RightNoRecordType (λ gs.
      given (joined l r) rule.FieldTypesCollide (λ j.
      given (as_universe t) rule.LeftNoRecordType (λ c.
      given (as_universe u) rule.RightNoRecordType (λ d.
      Takes (builtin (greater c d)))))))))

  -- ---- update

  -- `e with path = v`
  abbrev pub update : List Name → Tree A B → Tree A B → Ruling (Tree A B)
  update path t v =
      given (type_with path v t) rule.UpdateNoRecord (λ u.
      require (not (is_constant builtins.Sort v)) rule.UpdateOfSort (
      Forms u))
