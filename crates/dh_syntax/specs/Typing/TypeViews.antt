-- Views of types: whether a normal type has a form, and with which parts.
use Rattle.std.specs.Prelude.{Bool, true, false, ◌&&◌, ◌||◌, List, [], ◌∷◌, Option, Some, None, option_map, option_and_then, codes, if◌then◌else◌}
use Rattle.dh_syntax.specs.declared.expressions.Alt.{Alt}
use Rattle.dh_syntax.specs.declared.expressions.Op.TheVariants as ops
use Rattle.dh_syntax.specs.declared.operators.BinOp.TheVariants as bins
use Rattle.dh_syntax.specs.declared.operators.Builtin.{Builtin}
use Rattle.dh_syntax.specs.declared.operators.Builtin.TheVariants as builtins
use Rattle.dh_syntax.specs.Expressions.Forms.{Fields}
use Rattle.dh_syntax.specs.Expressions.Labels.{field_at}
use Rattle.dh_syntax.specs.Expressions.Numbers.{bytes_eq}
use Rattle.dh_syntax.specs.Expressions.SameTree.{builtin_eq}
use Rattle.dh_syntax.specs.Expressions.Tree.{Tree, Node, kid, Name}
use Rattle.dh_syntax.specs.Expressions.Views.{bodies, first_two, as_record_type}

-- whether each of these passes a test
abbrev pub each : {X : Type 0} → (X → Bool) → List X → Bool
each test [] = true
each test (x ∷ xs) = test x && each test xs

-- whether one of these does
abbrev pub one_of : {X : Type 0} → (X → Bool) → List X → Bool
one_of test [] = false
one_of test (x ∷ xs) = test x || one_of test xs

-- the first one that is there
abbrev pub first_of : {X : Type 0} → Option X → Option X → Option X
first_of (Some x) other = Some x
first_of None other = other

-- alternatives of a union under their labels, with the types of those that have one
abbrev pub Alternatives : Type 0 → Type 0 → Type 0
Alternatives A B = List (Name × Option (Tree A B))

module _ {A B : Type 0} where
  -- whether this is the constant b
  abbrev pub is_constant : Builtin → Tree A B → Bool
  is_constant b (Node (ops.Builtin c) r) = builtin_eq b c
  is_constant b _ = false

  -- the constant b applied to one argument: the argument
  abbrev pub as_applied : Builtin → Tree A B → Option (Tree A B)
  as_applied b (Node ops.App (kid None f (kid None a r))) = if is_constant b f then Some a else None
  as_applied b _ = None

  -- `List t`
  abbrev pub as_list_type : Tree A B → Option (Tree A B)
  as_list_type t = as_applied builtins.List t

  -- `Optional t`
  abbrev pub as_optional_type : Tree A B → Option (Tree A B)
  as_optional_type t = as_applied builtins.Optional t

  -- `∀(x : t) → b`: t, x and b
  abbrev pub as_forall : Tree A B → Option (Tree A B × B × Tree A B)
  as_forall (Node ops.Pi (kid None t (kid (Some x) b r))) = Some (t, x, b)
  as_forall _ = None

  -- `l ≡ r`
  abbrev pub as_equivalence : Tree A B → Option (Tree A B × Tree A B)
  as_equivalence (Node (ops.Bin bins.Equivalent) r) = first_two r
  as_equivalence _ = None

  -- the type of the field x of a record type
  abbrev pub field_type : Name → Tree A B → Option (Tree A B)
  field_type x t = option_and_then (field_at x) (as_record_type t)

  -- ---- unions

  -- an alternative, with the first of these types if it has one, and then what the other types are for
  abbrev pub next_alternative : Name → Bool → List (Tree A B) → (List (Tree A B) → Alternatives A B) → Alternatives A B
  next_alternative x true (t ∷ ts) others = (x, Some t) ∷ others ts
  next_alternative x typed ts others = (x, None) ∷ others ts

  -- the alternatives of a union, whose types are these
  abbrev pub alternatives : List Alt → List (Tree A B) → Alternatives A B
  alternatives [] ts = []
  alternatives (a ∷ as') ts = next_alternative a.label a.typed ts (λ us. alternatives as' us)

  -- a union: its alternatives
  abbrev pub as_union_type : Tree A B → Option (Alternatives A B)
  as_union_type (Node (ops.Union alts) r) = option_map (λ ts. alternatives alts ts) (bodies r)
  as_union_type _ = None

  -- the alternative x
  abbrev pub alternative_at : Name → Alternatives A B → Option (Option (Tree A B))
  alternative_at x [] = None
  alternative_at x ((y, t) ∷ alts) = if bytes_eq x y then Some t else alternative_at x alts

  -- `None`, and `Some` with the type t
  abbrev pub optional_alternatives : Tree A B → Alternatives A B
  optional_alternatives t = (codes "None", None) ∷ (codes "Some", Some t) ∷ []

  -- the alternatives of what can be merged: a union or an optional value
  abbrev pub as_merged : Tree A B → Option (Alternatives A B)
  as_merged t = first_of (as_union_type t) (option_map optional_alternatives (as_optional_type t))

  -- ---- what `toMap` gives

  -- `{ mapKey : Text, mapValue : v }`: v
  abbrev pub as_entry_type : Fields A B → Option (Tree A B)
  as_entry_type ((x, k) ∷ (y, v) ∷ []) = if bytes_eq x (codes "mapKey") && bytes_eq y (codes "mapValue") && is_constant builtins.Text k then Some v else None
  as_entry_type _ = None

  -- `List { mapKey : Text, mapValue : v }`: v
  abbrev pub as_map_type : Tree A B → Option (Tree A B)
  as_map_type t = option_and_then as_entry_type (option_and_then as_record_type (as_list_type t))
