-- Whether a term is an expression with the values of its imports in their places.
use Rattle.std.specs.Prelude.{◌≡◌, ◌<◌, ◌≤◌, ℕ, zero, suc, ◌+◌, ◌++◌, Bool, true, false, ◌&&◌, if◌then◌else◌, List, [], ◌∷◌, length, drop, slice_get, Option, Some, None, is_none, refl}
use Rattle.std.specs.Option.{option_map}
use Rattle.std.proofs.Common.{ap, sym, ◌∙◌, subst, arith, get_or, append_assoc, append-nil}
use Rattle.std.proofs.Math.Bool.{and-false, and_assoc}
use Rattle.std.proofs.lemmas.Option.{slice_get_within, get_or_from_slice_get}
use Rattle.dh_syntax.specs.declared.expressions.Expr.{Expr}
use Rattle.dh_syntax.specs.declared.expressions.Expr.TheVariants as expr
use Rattle.dh_syntax.specs.declared.expressions.Kid.{Kid}
use Rattle.dh_syntax.specs.declared.expressions.Op.{Op}
use Rattle.dh_syntax.specs.declared.locations.Key.{Key}
use Rattle.dh_syntax.specs.declared.locations.Loc.{Loc}
use Rattle.dh_syntax.specs.Expressions.Bridge.{term, row_of}
use Rattle.dh_syntax.specs.Expressions.Numbers.{bytes_eq}
use Rattle.dh_syntax.specs.Expressions.SameTree.{option_eq, op_eq, term_eq, row_eq}
use Rattle.dh_syntax.specs.Expressions.Tree.{Row as Parts, Leaf, Node, end, kid, Name, Var, Term}
use Rattle.dh_imports.specs.Outcomes.{may_go_on}
use Rattle.dh_imports.specs.Walk.{form_of, Form, choosing, other, Walked, Ready, Fails, Turns, Needs, and_then, or_else, in_order, walk_node, walk, walks, keys_of, keys_of_row}
use Rattle.dh_syntax.specs.Normalising.Trees.{replace_row}
use Rattle.dh_syntax.proofs.Bridge.{term-Var, term-Node, at_term-Var, at_term-Node}
use Rattle.dh_syntax.proofs.Rows.{row_of-drop_item, row_of-drop_all}
use Rattle.dh_demand.specs.declared.scans.Edge.{Edge}
use Rattle.dh_demand.specs.declared.parts.Part.TheVariants as part
use Rattle.dh_demand.specs.Results.{Row, ask_of}
use Rattle.dh_demand.specs.Scans.{text_key, Begins, imports}
use Rattle.dh_demand.specs.Inside.Building.{IsBuilt}
use Rattle.dh_demand.specs.Inside.Comparing.{is_term, are_parts, parts_under, IsCompared, AreCompared, IsSideCompared, going_on, body_of, kid_at, has_binder, has_no_more}
use Rattle.dh_demand.specs.Inside.Parts.{part_of}
use Rattle.dh_demand.proofs.Building.{not_two, more_whole, same-walk, no_more}
use Rattle.dh_demand.proofs.Edges.{begins_at_item, begins_after_item}
use Rattle.dh_demand.proofs.Nexting.{chosen, others, import_node, two_kids}
use Rattle.dh_demand.proofs.Visiting.{comes}

-- ---- a node with the same operator

pub under_Node : (op own : Op) (o : Option Expr) (e : Expr) (ks : List Kid) → o ≡ Some e → e ≡ expr.Node own ks → parts_under op (option_map term o) ≡ (if op_eq op own then Some (row_of ks) else None)
under_Node op own o e ks p q = ap (λ x. parts_under op (option_map term x)) p ∙ ap (λ x. parts_under op (Some (term x))) q ∙ ap (λ t. parts_under op (Some t)) (term-Node own ks)

pub under_Var : (op : Op) (o : Option Expr) (e : Expr) (x : Name) (i : ℕ) → o ≡ Some e → e ≡ expr.Var x i → None ≡ parts_under op (option_map term o)
under_Var op o e x i p q = sym (ap (λ y. parts_under op (option_map term y)) p ∙ ap (λ y. parts_under op (Some (term y))) q ∙ ap (λ t. parts_under op (Some t)) (term-Var x i))

-- ---- an import

pub built_compared : (w : Walked Term) (t : Option Term) (o : Option Expr) (b : Option Bool) → b ≡ option_map (λ v. is_term (term v) t) o → IsBuilt w o → IsCompared w t b
built_compared w t o b p h = subst (IsCompared w t) (sym p) (go w o h)
  where
    go : (w : Walked Term) (o : Option Expr) → IsBuilt w o → IsCompared w t (option_map (λ v. is_term (term v) t) o)
    go (Ready v) (Some e) h = ap (λ x. is_term x t) h
    go (Ready v) None h = h
    go (Fails f) (Some e) h = h
    go (Fails f) None h = h
    go (Turns j) o h = tt
    go (Needs k) o h = tt

-- ---- nodes

pub variable_compared : (parent : Option Loc) (rows : List Row) (e : Expr) (x : Name) (i : ℕ) (t : Option Term) (b : Bool) → e ≡ expr.Var x i → b ≡ is_term (term e) t → IsCompared (walk (text_key parent) (ask_of rows) (term e)) t (Some b)
variable_compared parent rows e x i t b h p =
    subst (λ w. IsCompared w t (Some b)) (sym (at_term-Var (walk (text_key parent) (ask_of rows)) e x i h))
    (p ∙ ap (λ v. is_term v t) (ap term h ∙ term-Var x i))

pub import_compared : (parent : Option Loc) (rows : List Row) (e : Expr) (op : Op) (ks : List Kid) (t : Option Term) (b : Option Bool) (es : List Edge) → e ≡ expr.Node op ks → part.Import ≡ part_of op
    → ((k : Key) (ls : List Key) → Begins parent rows (k ∷ ls) es → IsCompared (comes parent rows k) t b)
    → Begins parent rows (keys_of parent (term e)) es → IsCompared (walk (text_key parent) (ask_of rows) (term e)) t b
import_compared parent rows e op ks t b es is h step begins =
    let i = import_node parent rows e op ks is h in
    subst (λ w. IsCompared w t b) (sym i.walk_is) (step i.key (keys_of_row parent (row_of ks)) (subst (λ ls. Begins parent rows ls es) i.keys_are begins))

node_term : (op : Op) (r : Parts Var Name) (t : Option Term) → are_parts r (parts_under op t) ≡ is_term (Node op r) t
node_term op r None = refl
node_term op r (Some (Leaf v)) = refl
node_term op r (Some (Node p s)) = go (op_eq op p)
  where
    go : (b : Bool) → are_parts r (if b then Some s else None) ≡ (b && row_eq r s)
    go true = refl
    go false = refl

node_compared : (op : Op) (r : Parts Var Name) (w : Walked (List Term)) (t : Option Term) (b : Option Bool) → AreCompared r w (parts_under op t) b → IsCompared (and_then w (λ es. Ready (Node op (replace_row r es)))) t b
node_compared op r (Ready vs) t (Some b) h = h ∙ node_term op (replace_row r vs) t
node_compared op r (Ready vs) t None h = h
node_compared op r (Fails f) t (Some b) h = h
node_compared op r (Fails f) t None h = h
node_compared op r (Turns j) t b h = tt
node_compared op r (Needs k) t b h = tt

parts_compared : (parent : Option Loc) (rows : List Row) (e : Expr) (op : Op) (ks : List Kid) (t : Option Term) (s : Option (Parts Var Name)) (b : Option Bool) (f : Form) → e ≡ expr.Node op ks → form_of op ≡ f
    → walk_node (text_key parent) (ask_of rows) op (row_of ks) f (walks (text_key parent) (ask_of rows) (row_of ks))
    ≡ and_then (in_order (walks (text_key parent) (ask_of rows) (row_of ks))) (λ es. Ready (Node op (replace_row (row_of ks) es)))
    → s ≡ parts_under op t
    → AreCompared (row_of ks) (in_order (walks (text_key parent) (ask_of rows) (row_of ks))) s b → IsCompared (walk (text_key parent) (ask_of rows) (term e)) t b
parts_compared parent rows e op ks t s b f is p plain_node q h =
    let ws = walks (text_key parent) (ask_of rows) (row_of ks) in
    let whole = at_term-Node (walk (text_key parent) (ask_of rows)) e op ks is ∙ ap (λ f. walk_node (text_key parent) (ask_of rows) op (row_of ks) f ws) p ∙ plain_node in
    subst (λ w. IsCompared w t b) (sym whole) (node_compared op (row_of ks) (in_order ws) t b (subst (λ x. AreCompared (row_of ks) (in_order ws) x b) q h))

pub other_compared : (parent : Option Loc) (rows : List Row) (e : Expr) (op : Op) (ks : List Kid) (t : Option Term) (s : Option (Parts Var Name)) (b : Option Bool) → e ≡ expr.Node op ks → part.Other ≡ part_of op → s ≡ parts_under op t
    → AreCompared (row_of ks) (in_order (walks (text_key parent) (ask_of rows) (row_of ks))) s b → IsCompared (walk (text_key parent) (ask_of rows) (term e)) t b
other_compared parent rows e op ks t s b is h q c = parts_compared parent rows e op ks t s b other is (others (form_of op) h) refl q c

pub unchosen_compared : (parent : Option Loc) (rows : List Row) (e : Expr) (op : Op) (ks : List Kid) (t : Option Term) (s : Option (Parts Var Name)) (b : Option Bool) → e ≡ expr.Node op ks → part.Choice ≡ part_of op
    → (length ks ≡ 2 → ⊥) → s ≡ parts_under op t
    → AreCompared (row_of ks) (in_order (walks (text_key parent) (ask_of rows) (row_of ks))) s b → IsCompared (walk (text_key parent) (ask_of rows) (term e)) t b
unchosen_compared parent rows e op ks t s b is h n q c = parts_compared parent rows e op ks t s b choosing is (chosen (form_of op) h) (not_two parent rows op ks n) q c

-- ---- the two sides of a choice

side_node : (parent : Option Loc) (rows : List Row) (op : Op) (ks : List Kid) (ws : List (Walked Term)) (t : Option Term) (b : Option Bool) → IsSideCompared ws t b → IsCompared (walk_node (text_key parent) (ask_of rows) op (row_of ks) choosing ws) t b
side_node parent rows op ks (x ∷ y ∷ []) t b h = h
side_node parent rows op ks [] t b h = absurd h
side_node parent rows op ks (x ∷ []) t b h = absurd h
side_node parent rows op ks (x ∷ y ∷ z ∷ ws) t b h = absurd h

pub choice_compared : (parent : Option Loc) (rows : List Row) (e : Expr) (op : Op) (ks : List Kid) (t : Option Term) (b : Option Bool) → e ≡ expr.Node op ks → part.Choice ≡ part_of op
    → IsSideCompared (walks (text_key parent) (ask_of rows) (row_of ks)) t b → IsCompared (walk (text_key parent) (ask_of rows) (term e)) t b
choice_compared parent rows e op ks t b is h c =
    let ws = walks (text_key parent) (ask_of rows) (row_of ks) in
    let whole = at_term-Node (walk (text_key parent) (ask_of rows)) e op ks is ∙ ap (λ f. walk_node (text_key parent) (ask_of rows) op (row_of ks) f ws) (chosen (form_of op) h) in
    subst (λ w. IsCompared w t b) (sym whole) (side_node parent rows op ks ws t b c)

taken_left : (v w : Walked Term) (t : Option Term) (b : Bool) → IsCompared v t (Some b) → IsCompared (or_else v w) t (Some b)
taken_left (Ready x) w t b h = h
taken_left (Turns j) w t b h = tt
taken_left (Needs k) w t b h = tt
taken_left (Fails f) w t b h = go (may_go_on f.why) refl
  where
    go : (y : Bool) → may_go_on f.why ≡ y → IsCompared (if y then w else Fails f) t (Some b)
    go true p = absurd (h p)
    go false p = h

taken_right : (v w : Walked Term) (t : Option Term) (o : Option Bool) → IsCompared v t None → IsCompared w t o → IsCompared (or_else v w) t o
taken_right (Ready x) w t o h k = absurd h
taken_right (Turns j) w t o h k = tt
taken_right (Needs y) w t o h k = tt
taken_right (Fails f) w t o h k = go (may_go_on f.why) refl o k
  where
    stays : (o : Option Bool) → may_go_on f.why ≡ false → IsCompared (Fails f) t o
    stays None p = tt
    stays (Some b) p = λ q. let e : ⊥ = cc in e

    go : (y : Bool) → may_go_on f.why ≡ y → (o : Option Bool) → IsCompared w t o → IsCompared (if y then w else Fails f) t o
    go true p o k = k
    go false p o k = stays o p

pub left_compared : (parent : Option Loc) (rows : List Row) (ks : List Kid) (k j : Kid) (t : Option Term) (b : Bool) → length ks ≡ 2 → k ≡ get_or ks 0 k → j ≡ get_or ks 1 j
    → IsCompared (walk (text_key parent) (ask_of rows) (term k.body)) t (Some b) → IsSideCompared (walks (text_key parent) (ask_of rows) (row_of ks)) t (Some b)
left_compared parent rows ks k j t b h p q c =
    subst (λ r. IsSideCompared (walks (text_key parent) (ask_of rows) r) t (Some b)) (sym (two_kids ks k j h p q))
    (taken_left (walk (text_key parent) (ask_of rows) (term k.body)) (walk (text_key parent) (ask_of rows) (term j.body)) t b c)

pub right_compared : (parent : Option Loc) (rows : List Row) (ks : List Kid) (k j : Kid) (t : Option Term) (o : Option Bool) → length ks ≡ 2 → k ≡ get_or ks 0 k → j ≡ get_or ks 1 j
    → IsCompared (walk (text_key parent) (ask_of rows) (term k.body)) t None → IsCompared (walk (text_key parent) (ask_of rows) (term j.body)) t o
    → IsSideCompared (walks (text_key parent) (ask_of rows) (row_of ks)) t o
right_compared parent rows ks k j t o h p q c d =
    subst (λ r. IsSideCompared (walks (text_key parent) (ask_of rows) r) t o) (sym (two_kids ks k j h p q))
    (taken_right (walk (text_key parent) (ask_of rows) (term k.body)) (walk (text_key parent) (ask_of rows) (term j.body)) t o c d)

-- ---- the parts of a node in turn

-- the parts from this number on
abbrev rest_of : ℕ → Option (List Kid) → Option (Parts Var Name)
rest_of i o = option_map (λ ks. row_of (drop i ks)) o

abbrev pub IsKept : (ks : List Kid) (o : Option (List Kid)) (i : ℕ) → Walked (List Term) → Option Bool → Type 0
IsKept ks o i (Ready vs) (Some s) = (es : List Term) → (s && are_parts (replace_row (row_of (drop i ks)) es) (rest_of i o)) ≡ are_parts (replace_row (row_of ks) (vs ++ es)) (option_map row_of o)
IsKept ks o i (Ready vs) None = ⊥
IsKept ks o i (Fails f) (Some s) = may_go_on f.why ≡ true → ⊥
IsKept ks o i (Fails f) None = Unit {0}
IsKept ks o i (Turns j) s = Unit {0}
IsKept ks o i (Needs k) s = Unit {0}

pub record ComparedSoFar (parent : Option Loc) (rows : List Row) (ks : List Kid) (o : Option (List Kid)) (i : ℕ) (same : Option Bool) (rest : List Edge) : Type 0 where
  pub begins : Begins parent rows (keys_of_row parent (row_of (drop i ks))) rest
  pub so_far : Walked (List Term)
  pub whole : and_then so_far (λ vs. and_then (in_order (walks (text_key parent) (ask_of rows) (row_of (drop i ks)))) (λ es. Ready (vs ++ es))) ≡ in_order (walks (text_key parent) (ask_of rows) (row_of ks))
  pub kept : IsKept ks o i so_far same

pub compared-start : (parent : Option Loc) (rows : List Row) (ks : List Kid) (o : Option (List Kid)) (es : List Edge) → Begins parent rows (keys_of_row parent (row_of ks)) es → ComparedSoFar parent rows ks o 0 (Some true) es
compared-start parent rows ks o es b = record {
  begins = b;
  so_far = Ready [];
  whole = same-walk (in_order (walks (text_key parent) (ask_of rows) (row_of ks)));
  kept = λ es. starts o es;
}
  where
    starts : (o : Option (List Kid)) (es : List Term) → (true && are_parts (replace_row (row_of (drop 0 ks)) es) (rest_of 0 o)) ≡ are_parts (replace_row (row_of ks) ([] ++ es)) (option_map row_of o)
    starts None es = refl
    starts (Some js) es = refl

-- one more part, with the part of the other node that has its number
one_part : (js : List Kid) (i : ℕ) (binder : Option Name) (x : Term) (r : Parts Var Name) (s p : Bool) (c : Option Kid) → slice_get js i ≡ c → p ≡ is_term x (option_map term (option_map body_of c))
    → ((s && (has_binder binder c && p)) && row_eq r (row_of (drop (i + 1) js))) ≡ (s && row_eq (kid binder x r) (row_of (drop i js)))
one_part js i binder x r s p None h q =
    ap (λ b. b && row_eq r (row_of (drop (i + 1) js))) (and-false s)
    ∙ sym (ap (λ y. s && row_eq (kid binder x r) y) (row_of-drop_all js i (past js i h)) ∙ and-false s)
  where
    past : (js : List Kid) (i : ℕ) → slice_get js i ≡ None → length js ≤ i
    past [] i h = omega arith
    past (j ∷ js) zero h = let e : ⊥ = cc in absurd e
    past (j ∷ js) (suc i) h = let l = past js i h in omega arith
one_part js i binder x r s p (Some j) h q =
    let inside = slice_get_within js i j h in
    let item = row_of-drop_item js i j inside (sym (get_or_from_slice_get js i j j h)) in
    ap (λ y. (s && (option_eq bytes_eq binder j.binder && y)) && row_eq r (row_of (drop (i + 1) js))) q
    ∙ and_assoc s (option_eq bytes_eq binder j.binder && term_eq x (term j.body)) (row_eq r (row_of (drop (i + 1) js)))
    ∙ sym (ap (λ y. s && row_eq (kid binder x r) y) item)

kept_ready : (ks : List Kid) (o : Option (List Kid)) (i : ℕ) (k : Kid) (vs : List Term) (x : Term) (s p : Bool) → i < length ks → k ≡ get_or ks i k → p ≡ is_term x (option_map term (option_map body_of (kid_at o i)))
    → IsKept ks o i (Ready vs) (Some s) → IsKept ks o (i + 1) (Ready (vs ++ x ∷ [])) (Some (s && (has_binder k.binder (kid_at o i) && p)))
kept_ready ks None i k vs x s p h e q kept = λ es.
    and-false (s && (false && p)) ∙ sym (and-false s) ∙ kept (x ∷ es) ∙ ap (λ xs. are_parts (replace_row (row_of ks) xs) None) (sym (append_assoc {A = Term} vs (x ∷ []) es))
kept_ready ks (Some js) i k vs x s p h e q kept = λ es.
    one_part js i k.binder x (replace_row (row_of (drop (i + 1) ks)) es) s p (slice_get js i) refl q
    ∙ sym (ap (λ r. s && row_eq (replace_row r (x ∷ es)) (row_of (drop i js))) (row_of-drop_item ks i k h e))
    ∙ kept (x ∷ es) ∙ ap (λ xs. row_eq (replace_row (row_of ks) xs) (row_of js)) (sym (append_assoc {A = Term} vs (x ∷ []) es))

kept_more : (ks : List Kid) (o : Option (List Kid)) (i : ℕ) (k : Kid) (w : Walked (List Term)) (v : Walked Term) (s p : Option Bool) → i < length ks → k ≡ get_or ks i k → IsCompared v (option_map term (option_map body_of (kid_at o i))) p
    → IsKept ks o i w s → IsKept ks o (i + 1) (and_then w (λ vs. and_then v (λ e. Ready (vs ++ e ∷ [])))) (going_on s (has_binder k.binder (kid_at o i)) p)
kept_more ks o i k (Ready vs) v None p h e c kept = absurd kept
kept_more ks o i k (Ready vs) (Ready x) (Some s) None h e c kept = absurd c
kept_more ks o i k (Ready vs) (Ready x) (Some s) (Some p) h e c kept = kept_ready ks o i k vs x s p h e c kept
kept_more ks o i k (Ready vs) (Fails f) (Some s) None h e c kept = tt
kept_more ks o i k (Ready vs) (Fails f) (Some s) (Some p) h e c kept = c
kept_more ks o i k (Ready vs) (Turns j) s p h e c kept = tt
kept_more ks o i k (Ready vs) (Needs j) s p h e c kept = tt
kept_more ks o i k (Fails f) v None p h e c kept = tt
kept_more ks o i k (Fails f) v (Some s) None h e c kept = tt
kept_more ks o i k (Fails f) v (Some s) (Some p) h e c kept = kept
kept_more ks o i k (Turns j) v s p h e c kept = tt
kept_more ks o i k (Needs j) v s p h e c kept = tt

pub compared-item : (parent : Option Loc) (rows : List Row) (ks : List Kid) (o : Option (List Kid)) (i : ℕ) (k : Kid) (same part same' : Option Bool) (es rest : List Edge) → i < length ks → k ≡ get_or ks i k
    → rest ≡ drop (imports (term k.body)) es → same' ≡ going_on same (has_binder k.binder (kid_at o i)) part
    → (Begins parent rows (keys_of parent (term k.body)) es → IsCompared (walk (text_key parent) (ask_of rows) (term k.body)) (option_map term (option_map body_of (kid_at o i))) part)
    → ComparedSoFar parent rows ks o i same es → ComparedSoFar parent rows ks o (i + 1) same' rest
compared-item parent rows ks o i k same part same' es rest h e p q step s =
    let at = text_key parent in
    let ask = ask_of rows in
    let v = walk at ask (term k.body) in
    let w' = and_then s.so_far (λ vs. and_then v (λ e. Ready (vs ++ e ∷ []))) in
    record {
      begins = begins_after_item parent rows ks i k es rest h e p s.begins;
      so_far = w';
      whole =
          more_whole s.so_far v (in_order (walks at ask (row_of (drop (i + 1) ks))))
          ∙ sym (ap (λ r. and_then s.so_far (λ vs. and_then (in_order (walks at ask r)) (λ es. Ready (vs ++ es)))) (row_of-drop_item ks i k h e)) ∙ s.whole;
      kept =
          subst (λ b. IsKept ks o (i + 1) w' b) (sym q)
          (kept_more ks o i k s.so_far v same part h e (step (begins_at_item parent rows ks i k es h e s.begins)) s.kept);
    }

-- ---- after the last part

ends : (js : List Kid) (n : ℕ) → row_eq end (row_of (drop n js)) ≡ is_none (slice_get js n)
unfolding row_of
ends [] zero = refl
ends [] (suc n) = refl
ends (j ∷ js) zero = refl
ends (j ∷ js) (suc n) = ends js n

no_parts : (o : Option (List Kid)) (n : ℕ) → are_parts end (rest_of n o) ≡ has_no_more n o
no_parts None n = refl
no_parts (Some js) n = ends js n

all_kept : (ks : List Kid) (o : Option (List Kid)) (w : Walked (List Term)) (s : Option Bool) → IsKept ks o (length ks) w s → AreCompared (row_of ks) w (option_map row_of o) (option_map (λ b. b && has_no_more (length ks) o) s)
all_kept ks o (Ready vs) (Some s) h =
    ap (λ b. s && b) (sym (no_parts o (length ks)))
    ∙ sym (ap (λ r. s && are_parts (replace_row r []) (rest_of (length ks) o)) (row_of-drop_all ks (length ks) (omega arith)))
    ∙ h [] ∙ ap (λ xs. are_parts (replace_row (row_of ks) xs) (option_map row_of o)) (append-nil {A = Term} vs)
all_kept ks o (Ready vs) None h = h
all_kept ks o (Fails f) (Some s) h = h
all_kept ks o (Fails f) None h = h
all_kept ks o (Turns j) s h = tt
all_kept ks o (Needs k) s h = tt

pub compared-all : (parent : Option Loc) (rows : List Row) (ks : List Kid) (o : Option (List Kid)) (i : ℕ) (same b : Option Bool) (rest : List Edge) → i ≡ length ks → b ≡ option_map (λ b. b && has_no_more (length ks) o) same
    → ComparedSoFar parent rows ks o i same rest → AreCompared (row_of ks) (in_order (walks (text_key parent) (ask_of rows) (row_of ks))) (option_map row_of o) b
compared-all parent rows ks o i same b rest p q s =
    let t = subst (λ n. ComparedSoFar parent rows ks o n same rest) p s in
    let whole : t.so_far ≡ in_order (walks (text_key parent) (ask_of rows) (row_of ks)) =
    sym (no_more t.so_far)
    ∙ sym (ap (λ r. and_then t.so_far (λ vs. and_then (in_order (walks (text_key parent) (ask_of rows) r)) (λ es. Ready (vs ++ es)))) (row_of-drop_all ks (length ks) (omega arith))) ∙ t.whole in
    subst (λ w. AreCompared (row_of ks) w (option_map row_of o) b) whole
    (subst (λ x. AreCompared (row_of ks) t.so_far (option_map row_of o) x) (sym q) (all_kept ks o t.so_far same t.kept))

pub ready_compared : (w : Walked Term) (v : Term) (t : Term) (o : Option Bool) (b : Bool) → w ≡ Ready v → o ≡ Some b → IsCompared w (Some t) o → b ≡ term_eq v t
ready_compared w v t o b p q h = subst (λ x. IsCompared x (Some t) (Some b)) p (subst (λ x. IsCompared w (Some t) x) q h)

pub ready_some : (w : Walked Term) (v : Term) (t : Option Term) → w ≡ Ready v → IsCompared w t None → ⊥
ready_some w v t p h = subst (λ x. IsCompared x t None) p h
