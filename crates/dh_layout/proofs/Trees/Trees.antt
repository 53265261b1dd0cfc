-- The derivation tree of a printed expression.
use Rattle.std.specs.Prelude.{ℕ, suc, true, false, if◌then◌else◌, List, [], ◌∷◌, Option, Some, None, nat_lt, ◌==◌, codes}
use Rattle.dh_syntax.specs.declared.expressions.Alt.{Alt}
use Rattle.dh_syntax.specs.declared.expressions.Op.{Op}
use Rattle.dh_syntax.specs.declared.expressions.Op.TheVariants as ops
use Rattle.dh_syntax.specs.declared.locations.Loc.{Loc}
use Rattle.dh_syntax.specs.declared.locations.Loc.TheVariants as locs
use Rattle.dh_syntax.specs.declared.tokens.TextForm.TheVariants as forms
use Rattle.dh_syntax.specs.Text.Derivation as d
use Rattle.dh_syntax.specs.Text.Derivation.{Derivation, NameToken, Key, Keys, Items, Fields, Entries, Alternatives, Note, Chunks, ImportType}
use Rattle.dh_syntax.specs.Text.Derived.{binds, is_special}
use Rattle.dh_syntax.specs.Expressions.Levels.{level_of, left_level}
use Rattle.dh_syntax.specs.Expressions.Numbers.{bytes_eq}
use Rattle.dh_syntax.specs.Text.Printed.{is_plain_label}
use Rattle.dh_syntax.specs.Expressions.Tree.{Row, Leaf, Node, end, kid, Name, Var, Term}

abbrev pub label_token : Name → NameToken
label_token x = if is_plain_label x then d.plain x else d.quoted x

abbrev pub label_key : Name → Key
label_key x = d.name_key (label_token x)

abbrev pub index_of : Var → Option ℕ
index_of v = if v.index == 0 then None else Some v.index

abbrev pub variable_tree : Var → Derivation
variable_tree v = d.variable (label_token v.name) (index_of v)

-- a tree where a level is needed
abbrev pub at_tree : ℕ → Derivation → Derivation
at_tree m t = if nat_lt (binds t) m then d.brackets t else t

abbrev pub annotated_tree : Derivation → Derivation
annotated_tree t = if is_special t then d.brackets t else at_tree 1 t

pub data Part : Type 0 where
  bare : Derivation → Part
  under : Name → Derivation → Part

abbrev pub part : Option Name → Derivation → Part
part None t = bare t
part (Some x) t = under x t

abbrev pub tree_in : Part → Derivation
tree_in (bare t) = t
tree_in (under x t) = t

abbrev pub items_from : Items → List Part → Items
items_from is [] = is
items_from is (p ∷ ps) = items_from (d.more_items is (tree_in p)) ps

abbrev pub keys_from : Keys → List Name → Keys
keys_from ks [] = ks
keys_from ks (x ∷ xs) = keys_from (d.more_keys ks (label_key x)) xs

abbrev pub fields_from : Fields → List Name → List Part → Fields
fields_from fs (x ∷ xs) (p ∷ ps) = fields_from (d.more_fields fs (label_key x) (tree_in p)) xs ps
fields_from fs _ _ = fs

abbrev pub entry_of : Name → Part → d.Entry
entry_of x p = d.given (d.one_key (label_key x)) (tree_in p)

abbrev pub entries_from : Entries → List Name → List Part → Entries
entries_from es (x ∷ xs) (p ∷ ps) = entries_from (d.more_entries es (entry_of x p)) xs ps
entries_from es _ _ = es

-- a piece has a token where it has bytes
abbrev pub piece_token : List ℕ → Option (List ℕ)
piece_token [] = None
piece_token (b ∷ bs) = Some (b ∷ bs)

abbrev pub chunks_from : Chunks → List (List ℕ) → List Part → Chunks
chunks_from cs (q ∷ qs) (p ∷ ps) = chunks_from (d.more_chunks cs (tree_in p) (piece_token q)) qs ps
chunks_from cs _ _ = cs

abbrev pub alternatives_from : Alternatives → List Alt → List Part → Alternatives
alternatives_from as' [] ps = as'
alternatives_from as' (a ∷ rest) ps = elim a.typed [
  | false ↦ alternatives_from (d.more_alternatives as' (label_key a.label) d.untyped) rest ps
  | true ↦ elim ps [ [] ↦ as' | (p ∷ ps') ↦ alternatives_from (d.more_alternatives as' (label_key a.label) (d.typed (tree_in p))) rest ps' ]
]

abbrev pub union_from : Alt → List Alt → List Part → Alternatives
union_from a rest ps = elim a.typed [
  | false ↦ alternatives_from (d.one_alternative (label_key a.label) d.untyped) rest ps
  | true ↦ elim ps [ [] ↦ d.one_alternative (label_key a.label) d.untyped | (p ∷ ps') ↦ alternatives_from (d.one_alternative (label_key a.label) (d.typed (tree_in p))) rest ps' ]
]

abbrev pub import_of : Loc → ImportType
import_of (locs.Http u) = d.url (locs.Http u)
import_of (locs.Https u) = d.url (locs.Https u)
import_of (locs.Env x) = d.environment x
import_of locs.Missing = d.missing
import_of l = d.path l

-- what has no text
abbrev pub nothing : Derivation
nothing = d.natural 0

abbrev pub function_tree : Name → Derivation → Derivation → Derivation
function_tree x a b = if bytes_eq x (codes "_") then d.arrow (at_tree 1 a) b else d.pi (label_token x) a b

abbrev pub node_tree : Op → List Part → Derivation
node_tree (ops.Builtin b) ps = d.builtin b
node_tree (ops.Bool b) ps = d.truth b
node_tree (ops.Nat n) ps = d.natural n
node_tree (ops.Int z) ps = d.integer z
node_tree (ops.Text (q ∷ qs)) ps = d.text forms.DoubleQuoted (chunks_from (d.start (piece_token q)) qs ps)
node_tree (ops.Union []) ps = d.union_none false
node_tree (ops.Union (a ∷ as')) ps = d.union false (union_from a as' ps) false
node_tree (ops.Import i) ps = d.«import» (import_of i.loc) i.digest i.mode
node_tree ops.Lam (bare a ∷ under x b ∷ []) = d.lambda (label_token x) a b
node_tree ops.Pi (bare a ∷ under x b ∷ []) = function_tree x a b
node_tree (ops.Let false) (bare a ∷ under x b ∷ []) = d.lets (d.one_let (label_token x) d.untyped a) b
node_tree (ops.Let true) (bare t ∷ bare a ∷ under x b ∷ []) = d.lets (d.one_let (label_token x) (d.typed t) a) b
node_tree ops.App (bare f ∷ bare a ∷ []) = d.application (at_tree 14 f) (at_tree 15 a)
node_tree ops.If (bare p ∷ bare t ∷ bare e ∷ []) = d.choice p t e
node_tree (ops.Bin o) (bare l ∷ bare r ∷ []) = d.operation o (at_tree (left_level o) l) (at_tree (suc (level_of o)) r)
node_tree ops.EmptyList (bare t ∷ []) = d.empty_list false t
node_tree ops.List (p ∷ ps) = d.list false (items_from (d.one_item (tree_in p)) ps) false
node_tree ops.Some (bare t ∷ []) = d.some_of (at_tree 15 t)
node_tree (ops.Merge false) (bare t ∷ bare u ∷ []) = d.merging (at_tree 15 t) (at_tree 15 u)
node_tree (ops.Merge true) (bare t ∷ bare u ∷ bare r ∷ []) = d.merge_as (at_tree 15 t) (at_tree 15 u) r
node_tree (ops.RecordType []) ps = d.record_type_none false
node_tree (ops.RecordType (x ∷ xs)) (p ∷ ps) = d.record_type false (fields_from (d.one_field (label_key x) (tree_in p)) xs ps) false
node_tree (ops.Record []) ps = d.record_none false false
node_tree (ops.Record (x ∷ xs)) (p ∷ ps) = d.record_of false (entries_from (d.one_entry (entry_of x p)) xs ps) false
node_tree (ops.Field x) (bare t ∷ []) = d.field (at_tree 16 t) (label_key x)
node_tree (ops.Project []) (bare t ∷ []) = d.project_none (at_tree 16 t) false
node_tree (ops.Project (x ∷ xs)) (bare t ∷ []) = d.project (at_tree 16 t) false (keys_from (d.one_key (label_key x)) xs) false
node_tree ops.ProjectType (bare t ∷ bare r ∷ []) = d.project_by (at_tree 16 t) r
node_tree ops.Assert (bare t ∷ []) = d.assertion t
node_tree ops.Annot (bare t ∷ bare r ∷ []) = d.annotation (annotated_tree t) r
node_tree (ops.ToMap false) (bare t ∷ []) = d.to_map (at_tree 15 t)
node_tree (ops.ToMap true) (bare t ∷ bare r ∷ []) = d.to_map_as (at_tree 15 t) r
node_tree (ops.With (x ∷ xs)) (bare e ∷ bare v ∷ []) = d.updates (d.one_update (at_tree 15 e) (keys_from (d.one_key (label_key x)) xs) (at_tree 1 v))
node_tree op ps = nothing

abbrev mutual
  pub tree_of : Term → Derivation
  tree_of (Leaf v) = variable_tree v
  tree_of (Node op r) = node_tree op (trees_of r)

  pub trees_of : Row Var Name → List Part
  trees_of end = []
  trees_of (kid x e r) = part x (tree_of e) ∷ trees_of r
