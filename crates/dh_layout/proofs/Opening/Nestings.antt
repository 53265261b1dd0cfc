-- A printed expression opens no more expressions than it nests.
use Rattle.std.proofs.Common.{◌≡◌, ℕ, suc, ◌≤◌, Bool, true, false, if◌then◌else◌, nat_lt, List, [], ◌∷◌, Option, Some, None, refl, ap, arith, codes}
use Rattle.std.specs.Prelude.{max}
use Rattle.dh_syntax.specs.declared.expressions.Alt.{Alt}
use Rattle.dh_syntax.specs.declared.expressions.Op.{Op}
use Rattle.dh_syntax.specs.declared.expressions.Op.TheVariants as ops
use Rattle.dh_syntax.specs.Text.Derivation as d
use Rattle.dh_syntax.specs.Text.Derivation.{Derivation, Items, Fields, Entries, Alternatives, Chunks, Keys}
use Rattle.dh_syntax.specs.Text.Derived.{binds, is_special}
use Rattle.dh_syntax.specs.Expressions.Levels.{level_of, left_level}
use Rattle.dh_syntax.specs.Expressions.Nesting.{nesting, parts_nesting}
use Rattle.dh_syntax.specs.Expressions.Numbers.{bytes_eq}
use Rattle.dh_syntax.specs.Expressions.Tree.{Row, Leaf, Node, end, kid, Name, Var, Term}
use Rattle.dh_layout.proofs.Opening.Opens.{opens, items_opens, fields_opens, entries_opens, alternatives_opens, chunks_opens, parts_open}
use Rattle.dh_layout.proofs.Trees.Trees.{Part, bare, under, part, tree_in, tree_of, trees_of, node_tree, at_tree, annotated_tree, function_tree, label_token, label_key, items_from, fields_from, entries_from, entry_of, chunks_from, piece_token, alternatives_from, union_from}

-- the brackets open one
at_opens : (m : ℕ) (t : Derivation) → opens (at_tree m t) ≤ suc (opens t)
at_opens m t = by (nat_lt (binds t) m)
  where
    by : (q : Bool) → opens (if q then d.brackets t else t) ≤ suc (opens t)
    by true = omega arith
    by false = omega arith

annotated_opens : (t : Derivation) → opens (annotated_tree t) ≤ suc (opens t)
annotated_opens t = by (is_special t)
  where
    by : (q : Bool) → opens (if q then d.brackets t else at_tree 1 t) ≤ suc (opens t)
    by true = omega arith
    by false = at_opens 1 t

items_open : (is : Items) (ps : List Part) → items_opens (items_from is ps) ≤ max (items_opens is) (parts_open ps)
items_open is [] = omega arith
items_open is (p ∷ ps) = let e = items_open (d.more_items is (tree_in p)) ps in omega (arith, e)

fields_open : (fs : Fields) (xs : List Name) (ps : List Part) → fields_opens (fields_from fs xs ps) ≤ max (fields_opens fs) (parts_open ps)
fields_open fs [] ps = omega arith
fields_open fs (x ∷ xs) [] = omega arith
fields_open fs (x ∷ xs) (p ∷ ps) = let e = fields_open (d.more_fields fs (label_key x) (tree_in p)) xs ps in omega (arith, e)

entries_open : (es : Entries) (xs : List Name) (ps : List Part) → entries_opens (entries_from es xs ps) ≤ max (entries_opens es) (parts_open ps)
entries_open es [] ps = omega arith
entries_open es (x ∷ xs) [] = omega arith
entries_open es (x ∷ xs) (p ∷ ps) = let e = entries_open (d.more_entries es (entry_of x p)) xs ps in omega (arith, e)

chunks_open : (cs : Chunks) (qs : List (List ℕ)) (ps : List Part) → chunks_opens (chunks_from cs qs ps) ≤ max (chunks_opens cs) (parts_open ps)
chunks_open cs [] ps = omega arith
chunks_open cs (q ∷ qs) [] = omega arith
chunks_open cs (q ∷ qs) (p ∷ ps) = let e = chunks_open (d.more_chunks cs (tree_in p) (piece_token q)) qs ps in omega (arith, e)

alternatives_open : (as' : Alternatives) (alts : List Alt) (ps : List Part) → alternatives_opens (alternatives_from as' alts ps) ≤ max (alternatives_opens as') (parts_open ps)
alternatives_open as' [] ps = omega arith
alternatives_open as' (a ∷ alts) ps = by a.typed ps (λ bs ps. alternatives_open bs alts ps)
  where
    by : (t : Bool) (ps : List Part) → ((bs : Alternatives) (ps : List Part) → alternatives_opens (alternatives_from bs alts ps) ≤ max (alternatives_opens bs) (parts_open ps))
        → alternatives_opens (alternatives_from as' (record { label = a.label; typed = t } ∷ alts) ps) ≤ max (alternatives_opens as') (parts_open ps)
    by false ps more = let e = more (d.more_alternatives as' (label_key a.label) d.untyped) ps in omega (arith, e)
    by true [] more = omega arith
    by true (p ∷ ps) more = let e = more (d.more_alternatives as' (label_key a.label) (d.typed (tree_in p))) ps in omega (arith, e)

union_open : (x : Name) (t : Bool) (alts : List Alt) (ps : List Part) → alternatives_opens (union_from (record { label = x; typed = t }) alts ps) ≤ parts_open ps
union_open x false alts ps = let e = alternatives_open (d.one_alternative (label_key x) d.untyped) alts ps in omega (arith, e)
union_open x true alts [] = omega arith
union_open x true alts (p ∷ ps) = let e = alternatives_open (d.one_alternative (label_key x) (d.typed (tree_in p))) alts ps in omega (arith, e)

function_opens : (x : Name) (a b : Derivation) → opens (function_tree x a b) ≤ max (suc (opens a)) (suc (opens b))
function_opens x a b = by (bytes_eq x (codes "_"))
  where
    by : (q : Bool) → opens (if q then d.arrow (at_tree 1 a) b else d.pi (label_token x) a b) ≤ max (suc (opens a)) (suc (opens b))
    by true = let e = at_opens 1 a in omega (arith, e)
    by false = omega arith

-- a node opens one at most for each of its parts
node_opens : (op : Op) (ps : List Part) → opens (node_tree op ps) ≤ parts_open ps
node_opens (ops.Builtin b) ps = omega arith
node_opens (ops.Bool b) ps = omega arith
node_opens (ops.Nat n) ps = omega arith
node_opens (ops.Int z) ps = omega arith
node_opens (ops.Text []) ps = omega arith
node_opens (ops.Text (q ∷ qs)) ps = let e = chunks_open (d.start (piece_token q)) qs ps in omega (arith, e)
node_opens (ops.Union []) ps = omega arith
node_opens (ops.Union (a ∷ as')) ps = union_open a.label a.typed as' ps
node_opens (ops.Import i) ps = omega arith
node_opens ops.Lam (bare a ∷ under x b ∷ []) = omega arith
node_opens ops.Pi (bare a ∷ under x b ∷ []) = let e = function_opens x a b in omega (arith, e)
node_opens (ops.Let false) (bare a ∷ under x b ∷ []) = omega arith
node_opens (ops.Let true) (bare t ∷ bare a ∷ under x b ∷ []) = omega arith
node_opens ops.App (bare f ∷ bare a ∷ []) = let e1 = at_opens 14 f in let e2 = at_opens 15 a in omega (arith, e1, e2)
node_opens ops.If (bare p ∷ bare t ∷ bare e ∷ []) = omega arith
node_opens (ops.Bin o) (bare l ∷ bare r ∷ []) = let e1 = at_opens (left_level o) l in let e2 = at_opens (suc (level_of o)) r in omega (arith, e1, e2)
node_opens ops.EmptyList (bare t ∷ []) = omega arith
node_opens ops.List (p ∷ ps) = let e = items_open (d.one_item (tree_in p)) ps in omega (arith, e)
node_opens ops.Some (bare t ∷ []) = let e = at_opens 15 t in omega (arith, e)
node_opens (ops.Merge false) (bare t ∷ bare u ∷ []) = let e1 = at_opens 15 t in let e2 = at_opens 15 u in omega (arith, e1, e2)
node_opens (ops.Merge true) (bare t ∷ bare u ∷ bare r ∷ []) = let e1 = at_opens 15 t in let e2 = at_opens 15 u in omega (arith, e1, e2)
node_opens (ops.RecordType []) ps = omega arith
node_opens (ops.RecordType (x ∷ xs)) (p ∷ ps) = let e = fields_open (d.one_field (label_key x) (tree_in p)) xs ps in omega (arith, e)
node_opens (ops.Record []) ps = omega arith
node_opens (ops.Record (x ∷ xs)) (p ∷ ps) = let e = entries_open (d.one_entry (entry_of x p)) xs ps in omega (arith, e)
node_opens (ops.Field x) (bare t ∷ []) = let e = at_opens 16 t in omega (arith, e)
node_opens (ops.Project []) (bare t ∷ []) = let e = at_opens 16 t in omega (arith, e)
node_opens (ops.Project (x ∷ xs)) (bare t ∷ []) = let e = at_opens 16 t in omega (arith, e)
node_opens ops.ProjectType (bare t ∷ bare r ∷ []) = let e = at_opens 16 t in omega (arith, e)
node_opens ops.Assert (bare t ∷ []) = omega arith
node_opens ops.Annot (bare t ∷ bare r ∷ []) = let e = annotated_opens t in omega (arith, e)
node_opens (ops.ToMap false) (bare t ∷ []) = let e = at_opens 15 t in omega (arith, e)
node_opens (ops.ToMap true) (bare t ∷ bare r ∷ []) = let e = at_opens 15 t in omega (arith, e)
node_opens (ops.With (x ∷ xs)) (bare e ∷ bare v ∷ []) = let e1 = at_opens 15 e in let e2 = at_opens 1 v in omega (arith, e1, e2)
node_opens op ps = omega arith

pub in_part : (x : Option Name) (t : Derivation) → tree_in (part x t) ≡ t
in_part None t = refl
in_part (Some y) t = refl

mutual
  pub opens_nesting : (e : Term) → opens (tree_of e) ≤ nesting e
  opens_nesting (Leaf v) = omega arith
  opens_nesting (Node op r) = let e1 = node_opens op (trees_of r) in let e2 = parts_nest r in omega (arith, e1, e2)

  parts_nest : (r : Row Var Name) → parts_open (trees_of r) ≤ parts_nesting r
  parts_nest end = omega arith
  parts_nest (kid x e r) =
      let e1 = opens_nesting e in let e2 = parts_nest r in let e3 = ap opens (in_part x (tree_of e)) in omega (arith, e1, e2, e3)
