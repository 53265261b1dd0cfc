-- How many expressions a printed text opens, by the expression alone.
use Rattle.std.proofs.Common.{◌≡◌, ℕ, zero, suc, Bool, true, false, if◌then◌else◌, nat_lt, List, [], ◌∷◌, length, Option, Some, None, refl, ap, ◌∙◌, arith, codes}
use Rattle.std.specs.Prelude.{max}
use Rattle.std.proofs.lemmas.Bool.{and_parts, both_ways}
use Rattle.dh_syntax.specs.declared.expressions.Alt.{Alt}
use Rattle.dh_syntax.specs.declared.expressions.Op.{Op}
use Rattle.dh_syntax.specs.declared.expressions.Op.TheVariants as ops
use Rattle.dh_syntax.specs.Expressions.Arity as arity
use Rattle.dh_syntax.specs.Expressions.Arity.{IsWellFormed, AreWellFormed, alt_labels, typed_count, loc_fits}
use Rattle.dh_syntax.specs.Text.Derivation as d
use Rattle.dh_syntax.specs.Text.Derivation.{Derivation, Items, Fields, Entries, Alternatives, Chunks}
use Rattle.dh_syntax.specs.Text.Derived.{binds, is_special}
use Rattle.dh_syntax.specs.Expressions.Levels.{level_of, left_level}
use Rattle.dh_syntax.specs.Expressions.Numbers.{bytes_eq}
use Rattle.dh_syntax.specs.Expressions.Order.{ascending}
use Rattle.dh_syntax.specs.Text.Printed.{layout}
use Rattle.dh_syntax.specs.Expressions.Spellable.{names_spellable, row_spellable, op_spellable}
use Rattle.dh_syntax.specs.Expressions.Tree.{Row, Leaf, Node, end, kid, Name, Var, Term}
use Rattle.dh_layout.specs.Opened.{Sized, tight, before_colon, all_loose, function_opened, node_opened, opened, sizes}
use Rattle.dh_layout.proofs.Opening.Opens.{opens, items_opens, fields_opens, entries_opens, alternatives_opens, chunks_opens, parts_open}
use Rattle.dh_layout.proofs.Trees.Trees.{Part, tree_in, tree_of, trees_of, node_tree, at_tree, annotated_tree, function_tree, label_token, label_key, items_from, fields_from, entries_from, entry_of, chunks_from, piece_token, alternatives_from, union_from}
use Rattle.dh_layout.proofs.Texts.Values.{HasValues, HaveValues}
use Rattle.dh_layout.proofs.Opening.Nestings.{in_part}
use Rattle.dh_layout.proofs.Trees.Printing.{good_of}

items_are : (is : Items) (ps : List Part) → items_opens (items_from is ps) ≡ max (items_opens is) (parts_open ps)
items_are is [] = omega arith
items_are is (p ∷ ps) = let e = items_are (d.more_items is (tree_in p)) ps in omega (arith, e)

fields_are : (fs : Fields) (xs : List Name) (ps : List Part) → length ps ≡ length xs → fields_opens (fields_from fs xs ps) ≡ max (fields_opens fs) (parts_open ps)
fields_are fs [] [] h = omega arith
fields_are fs [] (p ∷ ps) h = absurd (omega (arith, h))
fields_are fs (x ∷ xs) [] h = absurd (omega (arith, h))
fields_are fs (x ∷ xs) (p ∷ ps) h = let k : length ps ≡ length xs = omega (arith, h) in let e = fields_are (d.more_fields fs (label_key x) (tree_in p)) xs ps k in omega (arith, e)

entries_are : (es : Entries) (xs : List Name) (ps : List Part) → length ps ≡ length xs → entries_opens (entries_from es xs ps) ≡ max (entries_opens es) (parts_open ps)
entries_are es [] [] h = omega arith
entries_are es [] (p ∷ ps) h = absurd (omega (arith, h))
entries_are es (x ∷ xs) [] h = absurd (omega (arith, h))
entries_are es (x ∷ xs) (p ∷ ps) h = let k : length ps ≡ length xs = omega (arith, h) in let e = entries_are (d.more_entries es (entry_of x p)) xs ps k in omega (arith, e)

chunks_are : (cs : Chunks) (qs : List (List ℕ)) (ps : List Part) → length ps ≡ length qs → chunks_opens (chunks_from cs qs ps) ≡ max (chunks_opens cs) (parts_open ps)
chunks_are cs [] [] h = omega arith
chunks_are cs [] (p ∷ ps) h = absurd (omega (arith, h))
chunks_are cs (q ∷ qs) [] h = absurd (omega (arith, h))
chunks_are cs (q ∷ qs) (p ∷ ps) h = let k : length ps ≡ length qs = omega (arith, h) in let e = chunks_are (d.more_chunks cs (tree_in p) (piece_token q)) qs ps k in omega (arith, e)

alternatives_are : (as' : Alternatives) (alts : List Alt) (ps : List Part) → length ps ≡ typed_count alts → alternatives_opens (alternatives_from as' alts ps) ≡ max (alternatives_opens as') (parts_open ps)
alternatives_are as' [] [] h = omega arith
alternatives_are as' [] (p ∷ ps) h = absurd (omega (arith, h))
alternatives_are as' (a ∷ alts) ps h = by a.typed ps h (λ bs ps k. alternatives_are bs alts ps k)
  where
    by : (t : Bool) (ps : List Part) → length ps ≡ typed_count (record { label = a.label; typed = t } ∷ alts)
        → ((bs : Alternatives) (ps : List Part) → length ps ≡ typed_count alts → alternatives_opens (alternatives_from bs alts ps) ≡ max (alternatives_opens bs) (parts_open ps))
        → alternatives_opens (alternatives_from as' (record { label = a.label; typed = t } ∷ alts) ps) ≡ max (alternatives_opens as') (parts_open ps)
    by false ps h more = let e = more (d.more_alternatives as' (label_key a.label) d.untyped) ps h in omega (arith, e)
    by true [] h more = absurd (omega (arith, h))
    by true (p ∷ ps) h more = let k : length ps ≡ typed_count alts = omega (arith, h) in let e = more (d.more_alternatives as' (label_key a.label) (d.typed (tree_in p))) ps k in omega (arith, e)

union_are : (x : Name) (t : Bool) (alts : List Alt) (ps : List Part) → length ps ≡ typed_count (record { label = x; typed = t } ∷ alts) → alternatives_opens (union_from (record { label = x; typed = t }) alts ps) ≡ parts_open ps
union_are x false alts ps h = let e = alternatives_are (d.one_alternative (label_key x) d.untyped) alts ps h in omega (arith, e)
union_are x true alts [] h = absurd (omega (arith, h))
union_are x true alts (p ∷ ps) h = let k : length ps ≡ typed_count alts = omega (arith, h) in let e = alternatives_are (d.one_alternative (label_key x) (d.typed (tree_in p))) alts ps k in omega (arith, e)

plain_length : (n : ℕ) (r : Row Var Name) → arity.plain n r ≡ true → length (trees_of r) ≡ n
plain_length zero end h = refl
plain_length zero (kid x e r) h = absurd (both_ways false refl h)
plain_length (suc n) end h = absurd (both_ways false refl h)
plain_length (suc n) (kid (Some x) e r) h = absurd (both_ways false refl h)
plain_length (suc n) (kid None e r) h = ap suc (plain_length n r h)

-- an expression is measured as its tree
record Same (e : Term) : Type 0 where
  level : (layout e).level ≡ binds (tree_of e)
  bare : (layout e).bare ≡ is_special (tree_of e)
  open' : opened e ≡ opens (tree_of e)

abbrev AreSame : Row Var Name → Type 0
AreSame end = Unit {0}
AreSame (kid x e r) = Same e × AreSame r

abbrev sized : Option Name → Term → Sized
sized x e = record { binder = x; level = (layout e).level; bare = (layout e).bare; open' = opened e }

tight_is : (m : ℕ) (x : Option Name) (e : Term) → Same e → tight m (sized x e) ≡ opens (at_tree m (tree_of e))
tight_is m x e s =
    ap (λ l. if nat_lt l m then suc (opened e) else opened e) s.level
    ∙ ap (λ k. if nat_lt (binds (tree_of e)) m then suc k else k) s.open'
    ∙ by (nat_lt (binds (tree_of e)) m) (tree_of e)
  where
    by : (q : Bool) (t : Derivation) → (if q then suc (opens t) else opens t) ≡ opens (if q then d.brackets t else t)
    by true t = refl
    by false t = refl

colon_is : (x : Option Name) (e : Term) → Same e → before_colon (sized x e) ≡ opens (annotated_tree (tree_of e))
colon_is x e s =
    ap (λ b. if b then suc (opened e) else tight 1 (sized x e)) s.bare
    ∙ ap (λ k. if is_special (tree_of e) then suc (opened e) else k) (tight_is 1 x e s)
    ∙ ap (λ k. if is_special (tree_of e) then suc k else opens (at_tree 1 (tree_of e))) s.open'
    ∙ by (is_special (tree_of e)) (tree_of e)
  where
    by : (q : Bool) (t : Derivation) → (if q then suc (opens t) else opens (at_tree 1 t)) ≡ opens (if q then d.brackets t else at_tree 1 t)
    by true t = refl
    by false t = refl

function_is : (x : Name) (a b : Term) → Same a → Same b → function_opened (Some x) (sized None a) (sized (Some x) b) ≡ opens (function_tree x (tree_of a) (tree_of b))
function_is x a b sa sb = by (bytes_eq x (codes "_"))
  where
    by : (q : Bool) → (if q then max (tight 1 (sized None a)) (suc (opened b)) else max (suc (opened a)) (suc (opened b))) ≡ opens (if q then d.arrow (at_tree 1 (tree_of a)) (tree_of b) else d.pi (label_token x) (tree_of a) (tree_of b))
    by true = let t = tight_is 1 None a sa in let e = sb.open' in omega (arith, t, e)
    by false = let t = sa.open' in let e = sb.open' in omega (arith, t, e)

rows_are : (r : Row Var Name) → AreSame r → all_loose (sizes r) ≡ parts_open (trees_of r)
rows_are end s = refl
rows_are (kid x e r) s = let a = s.0.open' in let b = rows_are r s.1 in let c = ap opens (in_part x (tree_of e)) in omega (arith, a, b, c)

node_is : (op : Op) (r : Row Var Name) → arity.fits op r ≡ true → AreSame r → node_opened op (sizes r) ≡ opens (node_tree op (trees_of r))
node_is (ops.Builtin b) end f s = refl
node_is (ops.Builtin b) _ f s = absurd (both_ways false refl f)
node_is (ops.Bool b) end f s = refl
node_is (ops.Bool b) _ f s = absurd (both_ways false refl f)
node_is (ops.Nat n) end f s = refl
node_is (ops.Nat n) _ f s = absurd (both_ways false refl f)
node_is (ops.Int z) end f s = refl
node_is (ops.Int z) _ f s = absurd (both_ways false refl f)
node_is (ops.Text []) r f s = absurd (both_ways false refl f)
node_is (ops.Text (q ∷ qs)) r f s = let a = rows_are r s in let b = chunks_are (d.start (piece_token q)) qs (trees_of r) (plain_length (length qs) r f) in omega (arith, a, b)
node_is (ops.Import i) end f s = refl
node_is (ops.Import i) (kid x e r) f s = absurd (both_ways false refl (and_parts (loc_fits i.loc) false f).1)
node_is ops.Lam (kid None a (kid (Some x) b end)) f s = let e1 = s.0.open' in let e2 = s.1.0.open' in omega (arith, e1, e2)
node_is ops.Lam _ f s = absurd (both_ways false refl f)
node_is ops.Pi (kid None a (kid (Some x) b end)) f s = function_is x a b s.0 s.1.0
node_is ops.Pi _ f s = absurd (both_ways false refl f)
node_is (ops.Let false) (kid None a (kid (Some x) b end)) f s = let e1 = s.0.open' in let e2 = s.1.0.open' in omega (arith, e1, e2)
node_is (ops.Let false) _ f s = absurd (both_ways false refl f)
node_is (ops.Let true) (kid None a (kid None b (kid (Some x) c end))) f s = let e1 = s.0.open' in let e2 = s.1.0.open' in let e3 = s.1.1.0.open' in omega (arith, e1, e2, e3)
node_is (ops.Let true) _ f s = absurd (both_ways false refl f)
node_is ops.App (kid None a (kid None b end)) f s = let e1 = tight_is 14 None a s.0 in let e2 = tight_is 15 None b s.1.0 in omega (arith, e1, e2)
node_is ops.App _ f s = absurd (both_ways false refl f)
node_is ops.If (kid None a (kid None b (kid None c end))) f s = let e1 = s.0.open' in let e2 = s.1.0.open' in let e3 = s.1.1.0.open' in omega (arith, e1, e2, e3)
node_is ops.If _ f s = absurd (both_ways false refl f)
node_is (ops.Bin o) (kid None a (kid None b end)) f s = let e1 = tight_is (left_level o) None a s.0 in let e2 = tight_is (suc (level_of o)) None b s.1.0 in omega (arith, e1, e2)
node_is (ops.Bin o) _ f s = absurd (both_ways false refl f)
node_is ops.EmptyList (kid None a end) f s = let e1 = s.0.open' in omega (arith, e1)
node_is ops.EmptyList _ f s = absurd (both_ways false refl f)
node_is ops.List (kid None a r) f s = let e1 = s.0.open' in let e2 = rows_are r s.1 in let e3 = items_are (d.one_item (tree_of a)) (trees_of r) in omega (arith, e1, e2, e3)
node_is ops.List _ f s = absurd (both_ways false refl f)
node_is ops.Some (kid None a end) f s = tight_is 15 None a s.0
node_is ops.Some _ f s = absurd (both_ways false refl f)
node_is (ops.Merge false) (kid None a (kid None b end)) f s = let e1 = tight_is 15 None a s.0 in let e2 = tight_is 15 None b s.1.0 in omega (arith, e1, e2)
node_is (ops.Merge false) _ f s = absurd (both_ways false refl f)
node_is (ops.Merge true) (kid None a (kid None b (kid None c end))) f s = let e1 = tight_is 15 None a s.0 in let e2 = tight_is 15 None b s.1.0 in let e3 = s.1.1.0.open' in omega (arith, e1, e2, e3)
node_is (ops.Merge true) _ f s = absurd (both_ways false refl f)
node_is (ops.RecordType []) end f s = refl
node_is (ops.RecordType []) (kid x e r) f s = absurd (both_ways false refl f)
node_is (ops.RecordType (x ∷ xs)) (kid None e r) f s =
    let parts = and_parts (ascending (x ∷ xs)) (arity.plain (length xs) r) f in
    let e1 = s.0.open' in let e2 = rows_are r s.1 in let e3 = fields_are (d.one_field (label_key x) (tree_of e)) xs (trees_of r) (plain_length (length xs) r parts.1) in omega (arith, e1, e2, e3)
node_is (ops.RecordType (x ∷ xs)) end f s = absurd (both_ways false refl (and_parts (ascending (x ∷ xs)) false f).1)
node_is (ops.RecordType (x ∷ xs)) (kid (Some y) e r) f s = absurd (both_ways false refl (and_parts (ascending (x ∷ xs)) false f).1)
node_is (ops.Record []) end f s = refl
node_is (ops.Record []) (kid x e r) f s = absurd (both_ways false refl f)
node_is (ops.Record (x ∷ xs)) (kid None e r) f s =
    let parts = and_parts (ascending (x ∷ xs)) (arity.plain (length xs) r) f in
    let e1 = s.0.open' in let e2 = rows_are r s.1 in let e3 = entries_are (d.one_entry (d.given (d.one_key (label_key x)) (tree_of e))) xs (trees_of r) (plain_length (length xs) r parts.1) in omega (arith, e1, e2, e3)
node_is (ops.Record (x ∷ xs)) end f s = absurd (both_ways false refl (and_parts (ascending (x ∷ xs)) false f).1)
node_is (ops.Record (x ∷ xs)) (kid (Some y) e r) f s = absurd (both_ways false refl (and_parts (ascending (x ∷ xs)) false f).1)
node_is (ops.Field x) (kid None a end) f s = tight_is 16 None a s.0
node_is (ops.Field x) _ f s = absurd (both_ways false refl f)
node_is (ops.Project []) (kid None a end) f s = tight_is 16 None a s.0
node_is (ops.Project []) _ f s = absurd (both_ways false refl f)
node_is (ops.Project (x ∷ xs)) (kid None a end) f s = tight_is 16 None a s.0
node_is (ops.Project (x ∷ xs)) _ f s = absurd (both_ways false refl (and_parts (ascending (x ∷ xs)) false f).1)
node_is ops.ProjectType (kid None a (kid None b end)) f s = let e1 = tight_is 16 None a s.0 in let e2 = s.1.0.open' in omega (arith, e1, e2)
node_is ops.ProjectType _ f s = absurd (both_ways false refl f)
node_is (ops.Union []) end f s = refl
node_is (ops.Union []) (kid x e r) f s = absurd (both_ways false refl f)
node_is (ops.Union (a ∷ alts)) r f s =
    let parts = and_parts (ascending (alt_labels (a ∷ alts))) (arity.plain (typed_count (a ∷ alts)) r) f in
    let e1 = rows_are r s in let e2 = union_are a.label a.typed alts (trees_of r) (plain_length (typed_count (a ∷ alts)) r parts.1) in omega (arith, e1, e2)
node_is ops.Assert (kid None a end) f s = let e1 = s.0.open' in omega (arith, e1)
node_is ops.Assert _ f s = absurd (both_ways false refl f)
node_is ops.Annot (kid None a (kid None b end)) f s = let e1 = colon_is None a s.0 in let e2 = s.1.0.open' in omega (arith, e1, e2)
node_is ops.Annot _ f s = absurd (both_ways false refl f)
node_is (ops.ToMap false) (kid None a end) f s = tight_is 15 None a s.0
node_is (ops.ToMap false) _ f s = absurd (both_ways false refl f)
node_is (ops.ToMap true) (kid None a (kid None b end)) f s = let e1 = tight_is 15 None a s.0 in let e2 = s.1.0.open' in omega (arith, e1, e2)
node_is (ops.ToMap true) _ f s = absurd (both_ways false refl f)
node_is (ops.With (x ∷ xs)) (kid None a (kid None b end)) f s = let e1 = tight_is 15 None a s.0 in let e2 = tight_is 1 None b s.1.0 in omega (arith, e1, e2)
node_is (ops.With (x ∷ xs)) _ f s = absurd (both_ways false refl f)
node_is (ops.With []) r f s = absurd (both_ways false refl f)

mutual
  same_of : (e : Term) → IsWellFormed e → names_spellable e ≡ true → HasValues e → opened e ≡ opens (tree_of e)
  same_of (Leaf x) w s v = refl
  same_of (Node op r) w s v = let parts = and_parts (op_spellable op) (row_spellable r) s in node_is op r w.0 (sames_of r w.1 parts.1 v.1)

  sames_of : (r : Row Var Name) → AreWellFormed r → row_spellable r ≡ true → HaveValues r → AreSame r
  sames_of end w s v = tt
  sames_of (kid b e r) w s v =
      let parts = and_parts _ (row_spellable r) s in
      let parts' = and_parts _ (names_spellable e) parts.0 in
      let g = good_of e w.0 parts'.1 v.0 in
      (record { level = g.levels; bare = g.bares; open' = same_of e w.0 parts'.1 v.0 }, sames_of r w.1 parts.1 v.1)

-- how many an expression opens is told by it alone
pub opened_is : (e : Term) → IsWellFormed e → names_spellable e ≡ true → HasValues e → opened e ≡ opens (tree_of e)
opened_is e w s v = same_of e w s v
