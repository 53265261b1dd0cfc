-- The rules of typing for `merge` and `toMap`, and the group of rules on records and unions
-- (the standard's "Type inference", "Unions" and "Maps").
use Rattle.std.specs.Prelude.{Bool, true, false, List, [], ◌∷◌, Option, Some, None, is_some, codes, map}
use Rattle.dh_syntax.specs.declared.expressions.Op.{Op}
use Rattle.dh_syntax.specs.declared.expressions.Op.TheVariants as ops
use Rattle.dh_syntax.specs.declared.operators.BinOp.{BinOp}
use Rattle.dh_syntax.specs.declared.operators.BinOp.TheVariants as bins
use Rattle.dh_syntax.specs.declared.operators.Builtin.TheVariants as builtins
use Rattle.dh_syntax.specs.Expressions.Forms.{Fields, builtin, labels_of, list_type, record_type}
use Rattle.dh_syntax.specs.Expressions.Numbers.{bytes_eq}
use Rattle.dh_syntax.specs.Expressions.SameTree.{list_eq}
use Rattle.dh_syntax.specs.Typing.Scopes.{Scopes}
use Rattle.dh_syntax.specs.Expressions.Tree.{Tree}
use Rattle.dh_syntax.specs.Typing.TypeRules as rule
use Rattle.dh_syntax.specs.Typing.TypeRulesRecords.{greatest_of, record_literal, selection, projection, typed_projection, prefer, combine, combine_types, update}
use Rattle.dh_syntax.specs.Typing.TypeRuling.{Ruling, Takes, Forms, Refuses, WithNormal, WithUniverse, require, given}
use Rattle.dh_syntax.specs.Typing.TypeViews.{Alternatives, each, as_forall, as_merged, as_map_type}
use Rattle.dh_syntax.specs.Typing.Universes.{is_type}
use Rattle.dh_syntax.specs.Expressions.Views.{as_record_type}

-- In the following, the arguments of a rule are the types of the parts, after what the node itself holds.
module _ {A B : Type 0} (S : Scopes A B) where
  -- ---- `merge`

  -- the result of a handler for an alternative with or without a type
  abbrev pub handled : Option (Tree A B) → Tree A B → (Tree A B → Ruling (Tree A B)) → Ruling (Tree A B)
  handled None h next = next h
  handled (Some t) h next =
      given (as_forall h) rule.HandlerNoFunction (λ (d, x, b).
      require (S.same d t) rule.HandlerNoFunction (
      given (S.down x b) rule.HandlerResultDepends (λ r.
      next r)))

  -- a result beside the one of the handlers before, if there is one: the first one
  abbrev pub agreed : Option (Tree A B) → Tree A B → (Tree A B → Ruling (Tree A B)) → Ruling (Tree A B)
  agreed None r next = next r
  agreed (Some q) r next = require (S.same q r) rule.HandlerResultsDiffer (next q)

  -- the result of all handlers, one after the other; none where there is no handler
  abbrev pub all_handled : Option (Tree A B) → Fields A B → Alternatives A B → (Option (Tree A B) → Ruling (Tree A B)) → Ruling (Tree A B)
  all_handled result ((x, h) ∷ hs) ((y, t) ∷ alts) next = handled t h (λ r. agreed result r (λ q. all_handled (Some q) hs alts next))
  all_handled result hs alts next = next result

  -- the type of a `merge` with or without annotation and with or without a result
  abbrev pub merged : Bool → Option (Tree A B) → Ruling (Tree A B)
  merged true (Some r) = WithNormal 2 (λ t. require (S.same r t) rule.MergeAnnotation (Takes r))
  merged true None = WithNormal 2 (λ t. Takes t)
  merged false (Some r) = Takes r
  merged false None = Refuses rule.MergeEmpty

  -- `merge h u`, with or without annotation
  abbrev pub merge : Bool → Tree A B → Tree A B → Ruling (Tree A B)
  merge annotated h u =
      given (as_record_type h) rule.HandlersNoRecord (λ hs.
      given (as_merged u) rule.MergeNoUnion (λ alts.
      require (list_eq bytes_eq (labels_of hs) (map (λ a. a.0) alts)) rule.HandlerLabels (
      all_handled None hs alts (λ result. merged annotated result))))

  -- ---- `toMap`

  -- `List { mapKey : Text, mapValue : v }`
  abbrev pub map_type : Tree A B → Tree A B
  map_type v = list_type (record_type ((codes "mapKey", builtin builtins.Text) ∷ (codes "mapValue", v) ∷ []))

  -- the type of a `toMap` whose fields have the type v
  abbrev pub mapped : Bool → Tree A B → Ruling (Tree A B)
  mapped true v =
      WithNormal 1 (λ t.
      given (as_map_type t) rule.ToMapAnnotation (λ w.
      require (S.same v w) rule.ToMapAnnotation (
      Forms (map_type v))))
  mapped false v = Forms (map_type v)

  -- a `toMap` of a record with these types of its fields; a record type that has fields is in Type exactly where they all are
  abbrev pub entries : Bool → Fields A B → Ruling (Tree A B)
  entries annotated ((x, v) ∷ fs) =
      require (each (λ f. S.same v f.1) fs) rule.ToMapFieldsDiffer (
      WithUniverse 0 (λ u.
      require (is_type u) rule.ToMapFieldsDiffer (
      mapped annotated v)))
  entries true [] = WithNormal 1 (λ t. require (is_some (as_map_type t)) rule.ToMapAnnotation (Takes t))
  entries false [] = Refuses rule.ToMapEmpty

  -- `toMap e`, with or without annotation
  abbrev pub to_map : Bool → Tree A B → Ruling (Tree A B)
  to_map annotated t = given (as_record_type t) rule.ToMapNoRecord (λ fs. entries annotated fs)

  -- ---- the group

  -- the rule of an operator of this group
  abbrev pub record_operator : BinOp → Tree A B → Tree A B → Option (Ruling (Tree A B))
  record_operator bins.Prefer l r = Some (prefer S l r)
  record_operator bins.Combine l r = Some (combine S l r)
  record_operator bins.CombineTypes l r = Some (combine_types S l r)
  record_operator _ l r = None

  -- the rule of a node by the types of its parts; none for a node of another group
  abbrev pub record_ruling : Op → List (Tree A B) → Option (Ruling (Tree A B))
  record_ruling (ops.RecordType xs) ts = Some (greatest_of rule.FieldTypeNoUniverse ts)
  record_ruling (ops.Record xs) ts = Some (record_literal S xs ts)
  record_ruling (ops.Union alts) ts = Some (greatest_of rule.AlternativeNoUniverse ts)
  record_ruling (ops.Field x) (t ∷ []) = Some (selection S x t)
  record_ruling (ops.Project xs) (t ∷ []) = Some (projection S xs t)
  record_ruling ops.ProjectType (t ∷ u ∷ []) = Some (typed_projection S t)
  record_ruling (ops.Bin o) (l ∷ r ∷ []) = record_operator o l r
  record_ruling (ops.Merge annotated) (h ∷ u ∷ ts) = Some (merge annotated h u)
  record_ruling (ops.ToMap annotated) (t ∷ ts) = Some (to_map annotated t)
  record_ruling (ops.With path) (t ∷ v ∷ []) = Some (update S path t v)
  record_ruling op ts = None
