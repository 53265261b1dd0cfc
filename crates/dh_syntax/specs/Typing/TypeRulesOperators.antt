-- The rules of typing for `if`, operators on Bool, Natural, Text and List, lists, `Some`, texts, assertions,
-- equivalences and annotations (the standard's "Type inference", the sections named for these forms).
use Rattle.std.specs.Prelude.{List, [], ◌∷◌, Option, Some, None}
use Rattle.dh_syntax.specs.declared.expressions.Op.{Op}
use Rattle.dh_syntax.specs.declared.expressions.Op.TheVariants as ops
use Rattle.dh_syntax.specs.declared.operators.BinOp.{BinOp}
use Rattle.dh_syntax.specs.declared.operators.BinOp.TheVariants as bins
use Rattle.dh_syntax.specs.declared.operators.Builtin.{Builtin}
use Rattle.dh_syntax.specs.declared.operators.Builtin.TheVariants as builtins
use Rattle.dh_syntax.specs.Expressions.Forms.{builtin, call, list_type}
use Rattle.dh_syntax.specs.Typing.Scopes.{Scopes}
use Rattle.dh_syntax.specs.Expressions.Tree.{Tree}
use Rattle.dh_syntax.specs.Typing.TypeRules as rule
use Rattle.dh_syntax.specs.Typing.TypeRuling.{Ruling, Takes, Forms, WithNormal, WithUniverse, require, given}
use Rattle.dh_syntax.specs.Typing.TypeViews.{each, is_constant, as_list_type, as_equivalence}
use Rattle.dh_syntax.specs.Typing.Universes.{is_type}

-- In the following, the arguments of a rule are the types of the parts.
module _ {A B : Type 0} (S : Scopes A B) where
  -- `if p then l else r`
  abbrev pub if_then_else : Tree A B → Tree A B → Tree A B → Ruling (Tree A B)
  if_then_else p l r =
      require (is_constant builtins.Bool p) rule.ConditionNoBool (
      WithUniverse 1 (λ u.
      require (is_type u) rule.BranchesNotInType (
      require (S.same l r) rule.BranchesDiffer (
      Takes l))))

  -- an operator that takes two Bool, Natural or Text and gives one
  abbrev pub two_of : Builtin → Tree A B → Tree A B → Ruling (Tree A B)
  two_of b l r =
      require (is_constant b l) rule.LeftSide (
      require (is_constant b r) rule.RightSide (
      Takes (builtin b)))

  -- `l # r`
  abbrev pub list_append : Tree A B → Tree A B → Ruling (Tree A B)
  list_append l r =
      given (as_list_type l) rule.LeftSide (λ t.
      require (S.same l r) rule.RightSide (
      Takes l))

  -- `[] : t`
  abbrev pub empty_list : Ruling (Tree A B)
  empty_list =
      WithNormal 0 (λ t.
      given (as_list_type t) rule.EmptyListAnnotation (λ x.
      Takes t))

  -- `[ a, b, .. ]`
  abbrev pub list : Tree A B → List (Tree A B) → Ruling (Tree A B)
  list t ts =
      WithUniverse 0 (λ u.
      require (is_type u) rule.ElementsNotInType (
      require (each (S.same t) ts) rule.ElementsDiffer (
      Forms (list_type t))))

  -- `Some e`
  abbrev pub some : Tree A B → Ruling (Tree A B)
  some t =
      WithUniverse 0 (λ u.
      require (is_type u) rule.SomeNotInType (
      Forms (call builtins.Optional (t ∷ []))))

  -- a text
  abbrev pub text : List (Tree A B) → Ruling (Tree A B)
  text ts =
      require (each (is_constant builtins.Text) ts) rule.InterpolationNoText (
      Takes (builtin builtins.Text))

  -- `assert : t`
  abbrev pub assert : Tree A B → Ruling (Tree A B)
  assert t =
      require (is_constant builtins.TypeConst t) rule.AssertionNotInType (
      WithNormal 0 (λ e.
      given (as_equivalence e) rule.AssertionNoEquivalence (λ (l, r).
      require (S.same l r) rule.AssertionFails (
      Takes e))))

  -- `l ≡ r`
  abbrev pub equivalence : Tree A B → Tree A B → Ruling (Tree A B)
  equivalence l r =
      require (S.same l r) rule.SidesDiffer (
      WithUniverse 0 (λ u.
      require (is_type u) rule.SidesNotInType (
      Takes (builtin builtins.TypeConst))))

  -- `e : t`
  abbrev pub annotation : Tree A B → Ruling (Tree A B)
  annotation t =
      WithNormal 1 (λ r.
      require (S.same t r) rule.AnnotationDiffers (
      Takes r))

  -- ---- the group

  -- the rule of an operator of this group
  abbrev pub operator : BinOp → Tree A B → Tree A B → Option (Ruling (Tree A B))
  operator bins.Or l r = Some (two_of builtins.Bool l r)
  operator bins.And l r = Some (two_of builtins.Bool l r)
  operator bins.Equal l r = Some (two_of builtins.Bool l r)
  operator bins.NotEqual l r = Some (two_of builtins.Bool l r)
  operator bins.Plus l r = Some (two_of builtins.Natural l r)
  operator bins.Times l r = Some (two_of builtins.Natural l r)
  operator bins.TextAppend l r = Some (two_of builtins.Text l r)
  operator bins.ListAppend l r = Some (list_append l r)
  operator bins.Equivalent l r = Some (equivalence l r)
  operator _ l r = None

  -- the rule of a node by the types of its parts; none for a node of another group
  abbrev pub operator_ruling : Op → List (Tree A B) → Option (Ruling (Tree A B))
  operator_ruling ops.If (p ∷ l ∷ r ∷ []) = Some (if_then_else p l r)
  operator_ruling (ops.Bin o) (l ∷ r ∷ []) = operator o l r
  operator_ruling ops.EmptyList ts = Some empty_list
  operator_ruling ops.List (t ∷ ts) = Some (list t ts)
  operator_ruling ops.Some (t ∷ []) = Some (some t)
  operator_ruling (ops.Text ps) ts = Some (text ts)
  operator_ruling ops.Assert (t ∷ []) = Some (assert t)
  operator_ruling ops.Annot (t ∷ ts) = Some (annotation t)
  operator_ruling op ts = None
