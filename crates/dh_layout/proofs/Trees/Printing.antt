-- Printed expressions are read back.
use Rattle.std.proofs.Common.{◌≡◌, ℕ, Bool, true, false, ◌&&◌, List, [], ◌∷◌, length, Some, None, refl, sym, ap, subst, ◌∙◌, arith}
use Rattle.std.specs.Prelude.{nat_le}
use Rattle.std.proofs.lemmas.Bool.{and_parts, both_ways}
use Rattle.std.proofs.lemmas.Bool.Decides.{nat_tests}
use Rattle.std.specs.List.{list_all}
use Rattle.dh_syntax.specs.declared.expressions.Alt.{Alt}
use Rattle.dh_syntax.specs.declared.expressions.Op.{Op}
use Rattle.dh_syntax.specs.declared.expressions.Op.TheVariants as ops
use Rattle.dh_syntax.specs.Expressions.Arity as arity
use Rattle.dh_syntax.specs.Expressions.Arity.{IsWellFormed, AreWellFormed, alt_labels, typed_count, between, loc_fits}
use Rattle.dh_syntax.specs.Expressions.Order.{ascending}
use Rattle.dh_syntax.specs.Expressions.Spellable.{names_spellable, row_spellable, op_spellable, is_label, location_spellable}
use Rattle.dh_syntax.specs.Expressions.Tree.{Row, Leaf, Node, end, kid, Name, Var, Term}
use Rattle.dh_layout.proofs.Trees.Good.{Good}
use Rattle.dh_layout.proofs.Trees.Trees.{tree_of, trees_of, node_tree}
use Rattle.dh_layout.proofs.Texts.Values.{HasValues, HaveValues, OpHasValues}
use Rattle.dh_layout.proofs.Trees.Nodes as nodes
use Rattle.dh_layout.proofs.Trees.Rows as rows
use Rattle.dh_layout.proofs.Trees.Rows.{AreGood, Fit}
use Rattle.dh_layout.proofs.Trees.Variables.{good_variable}
use Rattle.dh_layout.proofs.Trees.Chunks.{Between, good_text}
use Rattle.dh_layout.proofs.Trees.Unions.{Choice, untyped, typed, alts_of, row_of, names_of, AreGoodChoices, good_choices}
use Rattle.dh_layout.proofs.Reading.Imports.{LocReads, good_import, location_same, environment_reads, missing_reads}
use Rattle.dh_layout.proofs.Reading.Hosts.{http_reads, https_reads}
use Rattle.dh_layout.proofs.Reading.Paths.{here_reads, parent_reads, home_reads, absolute_reads}
use Rattle.dh_syntax.specs.declared.locations.Loc.{Loc}
use Rattle.dh_syntax.specs.declared.locations.Loc.TheVariants as locs
use Rattle.dh_syntax.specs.Expressions.Arity.{has_some}
use Rattle.dh_syntax.specs.Limits.{most_index}

-- the parts, those under a binder too
abbrev pub RowGood : Row Var Name → Type 0
RowGood end = Unit {0}
RowGood (kid b e r) = Good e (tree_of e) × RowGood r

binder : (x : Name) (a b : Bool) → ((is_label x && a) && b) ≡ true → is_label x ≡ true
binder x a b h = (and_parts (is_label x) a (and_parts (is_label x && a) b h).0).0

last_binder : (x : Name) (a b c : Bool) → (a && ((is_label x && b) && c)) ≡ true → is_label x ≡ true
last_binder x a b c h = binder x b c (and_parts a ((is_label x && b) && c) h).1

list_good : (e : Term) (r : Row Var Name) → arity.some_plain (kid None e r) ≡ true → RowGood r → AreGood r
list_good e end h g = tt
list_good e (kid None f r) h g = (g.0, list_good f r h g.1)
list_good e (kid (Some x) f r) h g = absurd (both_ways false refl h)

fit : (xs : List Name) (r : Row Var Name) → arity.plain (length xs) r ≡ true → RowGood r → Fit xs r
fit [] end h g = tt
fit [] (kid b e r) h g = absurd (both_ways false refl h)
fit (x ∷ xs) end h g = absurd (both_ways false refl h)
fit (x ∷ xs) (kid (Some y) e r) h g = absurd (both_ways false refl h)
fit (x ∷ xs) (kid None e r) h g = (g.0, fit xs r h g.1)

within : (qs : List (List ℕ)) (r : Row Var Name) → arity.plain (length qs) r ≡ true → RowGood r → Between qs r
within [] end h g = tt
within [] (kid b e r) h g = absurd (both_ways false refl h)
within (x ∷ xs) end h g = absurd (both_ways false refl h)
within (x ∷ xs) (kid (Some y) e r) h g = absurd (both_ways false refl h)
within (x ∷ xs) (kid None e r) h g = (g.0, within xs r h g.1)

loc_reads : (l : Loc) → loc_fits l ≡ true → location_spellable l ≡ true → LocReads l
loc_reads (locs.Abs cs) f s = absolute_reads cs f s
loc_reads (locs.Here cs) f s = here_reads cs f s
loc_reads (locs.Parent cs) f s = parent_reads cs f s
loc_reads (locs.Home cs) f s = home_reads cs f s
loc_reads (locs.Http u) f s = http_reads u f s
loc_reads (locs.Https u) f s = https_reads u f s
loc_reads (locs.Env x) f s = environment_reads x s
loc_reads locs.Missing f s = missing_reads

record Split (alts : List Alt) (r : Row Var Name) : Type 0 where
  choices : List Choice
  alts_are : alts_of choices ≡ alts
  row_is : row_of choices ≡ r
  good : AreGoodChoices choices

split_more : (x : Name) (t : Bool) (alts : List Alt) (r : Row Var Name) → arity.plain (typed_count (record { label = x; typed = t } ∷ alts)) r ≡ true → RowGood r → is_label x ≡ true
    → ((r : Row Var Name) → arity.plain (typed_count alts) r ≡ true → RowGood r → Split alts r) → Split (record { label = x; typed = t } ∷ alts) r
split_more x false alts r h g q more =
    let s = more r h g in
    record { choices = untyped x ∷ s.choices; alts_are = ap (λ l. record { label = x; typed = false } ∷ l) s.alts_are; row_is = s.row_is; good = (q, s.good) }
split_more x true alts end h g q more = absurd (both_ways false refl h)
split_more x true alts (kid (Some y) e r) h g q more = absurd (both_ways false refl h)
split_more x true alts (kid None e r) h g q more =
    let s = more r h g.1 in
    record { choices = typed x e ∷ s.choices; alts_are = ap (λ l. record { label = x; typed = true } ∷ l) s.alts_are; row_is = ap (λ l. kid None e l) s.row_is; good = (q, g.0, s.good) }

split : (alts : List Alt) → list_all is_label (alt_labels alts) ≡ true → (r : Row Var Name) → arity.plain (typed_count alts) r ≡ true → RowGood r → Split alts r
split [] q end h g = record { choices = []; alts_are = refl; row_is = refl; good = tt }
split [] q (kid b e r) h g = absurd (both_ways false refl h)
split (a ∷ alts) q r h g =
    let parts = and_parts (is_label a.label) (list_all is_label (alt_labels alts)) q in
    split_more a.label a.typed alts r h g parts.0 (split alts parts.1)

labels_same : (es : List Choice) → alt_labels (alts_of es) ≡ names_of es
labels_same [] = refl
labels_same (untyped x ∷ es) = ap (λ t. x ∷ t) (labels_same es)
labels_same (typed x e ∷ es) = ap (λ t. x ∷ t) (labels_same es)

choices_good : (es : List Choice) → AreGoodChoices es → ascending (alt_labels (alts_of es)) ≡ true → Good (Node (ops.Union (alts_of es)) (row_of es)) (node_tree (ops.Union (alts_of es)) (trees_of (row_of es)))
choices_good [] h up = nodes.good_empty_union
choices_good (e ∷ es) h up = good_choices e es h (sym (ap ascending (labels_same (e ∷ es))) ∙ up)

union_good : (alts : List Alt) (r : Row Var Name) → ascending (alt_labels alts) ≡ true → Split alts r → Good (Node (ops.Union alts) r) (node_tree (ops.Union alts) (trees_of r))
union_good alts r up s =
    let P : List Alt → Type 0 = λ l. ascending (alt_labels l) ≡ true → Good (Node (ops.Union l) r) (node_tree (ops.Union l) (trees_of r)) in
    let Q : Row Var Name → Type 0 = λ row. ascending (alt_labels (alts_of s.choices)) ≡ true → Good (Node (ops.Union (alts_of s.choices)) row) (node_tree (ops.Union (alts_of s.choices)) (trees_of row)) in
    subst P s.alts_are (subst Q s.row_is (choices_good s.choices s.good)) up

node_good : (op : Op) (r : Row Var Name) → arity.fits op r ≡ true → op_spellable op ≡ true → row_spellable r ≡ true → OpHasValues op → RowGood r → Good (Node op r) (node_tree op (trees_of r))
node_good (ops.Builtin b) end f s l v g = nodes.good_builtin b
node_good (ops.Builtin b) _ f s l v g = absurd (both_ways false refl f)
node_good (ops.Bool b) end f s l v g = nodes.good_truth b
node_good (ops.Bool b) _ f s l v g = absurd (both_ways false refl f)
node_good (ops.Nat n) end f s l v g = nodes.good_natural n v
node_good (ops.Nat n) _ f s l v g = absurd (both_ways false refl f)
node_good (ops.Int z) end f s l v g = nodes.good_integer z v
node_good (ops.Int z) _ f s l v g = absurd (both_ways false refl f)
node_good (ops.Text []) r f s l v g = absurd (both_ways false refl f)
node_good (ops.Text (q ∷ qs)) r f s l v g = good_text q qs r v (within qs r f g)
node_good (ops.Import i) end f s l v g = good_import i (loc_reads i.loc (and_parts (loc_fits i.loc) true f).0 s) (location_same i.loc) v
node_good (ops.Import i) (kid x e r) f s l v g = absurd (both_ways false refl (and_parts (loc_fits i.loc) false f).1)
node_good ops.Lam (kid None a (kid (Some x) b end)) f s l v g = nodes.good_lambda x a b (tree_of a) (tree_of b) (last_binder x _ _ _ l) g.0 g.1.0
node_good ops.Lam _ f s l v g = absurd (both_ways false refl f)
node_good ops.Pi (kid None a (kid (Some x) b end)) f s l v g = nodes.good_function x a b (tree_of a) (tree_of b) (last_binder x _ _ _ l) g.0 g.1.0
node_good ops.Pi _ f s l v g = absurd (both_ways false refl f)
node_good (ops.Let false) (kid None a (kid (Some x) b end)) f s l v g = nodes.good_let x a b (tree_of a) (tree_of b) (last_binder x _ _ _ l) g.0 g.1.0
node_good (ops.Let false) _ f s l v g = absurd (both_ways false refl f)
node_good (ops.Let true) (kid None a (kid None b (kid (Some x) c end))) f s l v g = nodes.good_let_typed x a b c (tree_of a) (tree_of b) (tree_of c) (last_binder x _ _ _ (and_parts _ _ l).1) g.0 g.1.0 g.1.1.0
node_good (ops.Let true) _ f s l v g = absurd (both_ways false refl f)
node_good ops.App (kid None a (kid None b end)) f s l v g = nodes.good_application a b (tree_of a) (tree_of b) g.0 g.1.0
node_good ops.App _ f s l v g = absurd (both_ways false refl f)
node_good ops.If (kid None a (kid None b (kid None c end))) f s l v g = nodes.good_choice a b c (tree_of a) (tree_of b) (tree_of c) g.0 g.1.0 g.1.1.0
node_good ops.If _ f s l v g = absurd (both_ways false refl f)
node_good (ops.Bin i) (kid None a (kid None b end)) f s l v g = nodes.good_operation i a b (tree_of a) (tree_of b) g.0 g.1.0
node_good (ops.Bin i) _ f s l v g = absurd (both_ways false refl f)
node_good ops.EmptyList (kid None a end) f s l v g = nodes.good_empty_list a (tree_of a) g.0
node_good ops.EmptyList _ f s l v g = absurd (both_ways false refl f)
node_good ops.List (kid None a r) f s l v g = rows.good_list a r g.0 (list_good a r f g.1)
node_good ops.List _ f s l v g = absurd (both_ways false refl f)
node_good ops.Some (kid None a end) f s l v g = nodes.good_some a (tree_of a) g.0
node_good ops.Some _ f s l v g = absurd (both_ways false refl f)
node_good (ops.Merge false) (kid None a (kid None b end)) f s l v g = nodes.good_merge a b (tree_of a) (tree_of b) g.0 g.1.0
node_good (ops.Merge false) _ f s l v g = absurd (both_ways false refl f)
node_good (ops.Merge true) (kid None a (kid None b (kid None c end))) f s l v g = nodes.good_merge_as a b c (tree_of a) (tree_of b) (tree_of c) g.0 g.1.0 g.1.1.0
node_good (ops.Merge true) _ f s l v g = absurd (both_ways false refl f)
node_good (ops.RecordType []) end f s l v g = nodes.good_empty_record_type
node_good (ops.RecordType []) (kid x e r) f s l v g = absurd (both_ways false refl f)
node_good (ops.RecordType (x ∷ xs)) (kid None e r) f s l v g = let parts = and_parts (ascending (x ∷ xs)) (arity.plain (length xs) r) f in rows.good_record_type x xs e r parts.0 s g.0 (fit xs r parts.1 g.1)
node_good (ops.RecordType (x ∷ xs)) end f s l v g = absurd (both_ways false refl (and_parts (ascending (x ∷ xs)) false f).1)
node_good (ops.RecordType (x ∷ xs)) (kid (Some y) e r) f s l v g = absurd (both_ways false refl (and_parts (ascending (x ∷ xs)) false f).1)
node_good (ops.Record []) end f s l v g = nodes.good_empty_record
node_good (ops.Record []) (kid x e r) f s l v g = absurd (both_ways false refl f)
node_good (ops.Record (x ∷ xs)) (kid None e r) f s l v g = let parts = and_parts (ascending (x ∷ xs)) (arity.plain (length xs) r) f in rows.good_record x xs e r parts.0 s g.0 (fit xs r parts.1 g.1)
node_good (ops.Record (x ∷ xs)) end f s l v g = absurd (both_ways false refl (and_parts (ascending (x ∷ xs)) false f).1)
node_good (ops.Record (x ∷ xs)) (kid (Some y) e r) f s l v g = absurd (both_ways false refl (and_parts (ascending (x ∷ xs)) false f).1)
node_good (ops.Field x) (kid None a end) f s l v g = nodes.good_field x a (tree_of a) s g.0
node_good (ops.Field x) _ f s l v g = absurd (both_ways false refl f)
node_good (ops.Project []) (kid None a end) f s l v g = nodes.good_project_none a (tree_of a) g.0
node_good (ops.Project []) _ f s l v g = absurd (both_ways false refl f)
node_good (ops.Project (x ∷ xs)) (kid None a end) f s l v g = rows.good_project x xs a (tree_of a) (and_parts (ascending (x ∷ xs)) true f).0 s g.0
node_good (ops.Project (x ∷ xs)) _ f s l v g = absurd (both_ways false refl (and_parts (ascending (x ∷ xs)) false f).1)
node_good ops.ProjectType (kid None a (kid None b end)) f s l v g = nodes.good_project_by a b (tree_of a) (tree_of b) g.0 g.1.0
node_good ops.ProjectType _ f s l v g = absurd (both_ways false refl f)
node_good (ops.Union alts) r f s l v g = let parts = and_parts (ascending (alt_labels alts)) (arity.plain (typed_count alts) r) f in union_good alts r parts.0 (split alts s r parts.1 g)
node_good ops.Assert (kid None a end) f s l v g = nodes.good_assertion a (tree_of a) g.0
node_good ops.Assert _ f s l v g = absurd (both_ways false refl f)
node_good ops.Annot (kid None a (kid None b end)) f s l v g = nodes.good_annotation a b (tree_of a) (tree_of b) g.0 g.1.0
node_good ops.Annot _ f s l v g = absurd (both_ways false refl f)
node_good (ops.ToMap false) (kid None a end) f s l v g = nodes.good_to_map a (tree_of a) g.0
node_good (ops.ToMap false) _ f s l v g = absurd (both_ways false refl f)
node_good (ops.ToMap true) (kid None a (kid None b end)) f s l v g = nodes.good_to_map_as a b (tree_of a) (tree_of b) g.0 g.1.0
node_good (ops.ToMap true) _ f s l v g = absurd (both_ways false refl f)
node_good (ops.With (x ∷ xs)) (kid None a (kid None b end)) f s l v g = rows.good_update x xs a b (tree_of a) (tree_of b) s g.0 g.1.0
node_good (ops.With (x ∷ xs)) _ f s l v g = absurd (both_ways false refl f)
node_good (ops.With []) r f s l v g = absurd (both_ways false refl f)

mutual
  pub good_of : (e : Term) → IsWellFormed e → names_spellable e ≡ true → HasValues e → Good e (tree_of e)
  good_of (Leaf x) w s v =
      let parts = and_parts (is_label x.name) (nat_le x.index most_index) s in
      good_variable x parts.0 (grind (arith, nat_tests))
  good_of (Node op r) w s v =
      let parts = and_parts (op_spellable op) (row_spellable r) s in
      node_good op r w.0 parts.0 parts.1 v.0 (goods_of r w.1 parts.1 v.1)

  goods_of : (r : Row Var Name) → AreWellFormed r → row_spellable r ≡ true → HaveValues r → RowGood r
  goods_of end w s v = tt
  goods_of (kid b e r) w s v =
      let parts = and_parts _ (row_spellable r) s in
      let parts' = and_parts _ (names_spellable e) parts.0 in
      (good_of e w.0 parts'.1 v.0, goods_of r w.1 parts.1 v.1)
