-- What an expression is with the values of its imports in their places.
use Rattle.std.specs.Prelude.{◌≡◌, ◌<◌, ◌≤◌, ℕ, ◌+◌, ◌++◌, Bool, true, false, if◌then◌else◌, List, [], ◌∷◌, length, drop, Option, Some, None, is_some, not, refl}
use Rattle.std.specs.Option.{option_map}
use Rattle.std.proofs.Common.{ap, sym, ◌∙◌, subst, get_or, append_assoc, append-nil}
use Rattle.dh_syntax.specs.declared.expressions.Expr.{Expr}
use Rattle.dh_syntax.specs.declared.expressions.Expr.TheVariants as expr
use Rattle.dh_syntax.specs.declared.expressions.Kid.{Kid}
use Rattle.dh_syntax.specs.declared.expressions.Op.{Op}
use Rattle.dh_syntax.specs.declared.locations.Key.{Key}
use Rattle.dh_syntax.specs.declared.locations.Loc.{Loc}
use Rattle.dh_imports.specs.declared.outcomes.Outcome as program
use Rattle.dh_imports.specs.declared.outcomes.Outcome.TheVariants as variants
use Rattle.dh_imports.specs.declared.outcomes.Why.TheVariants as whys
use Rattle.dh_syntax.specs.Expressions.Bridge.{term, row_of}
use Rattle.dh_syntax.specs.Expressions.Rows.{◌+++◌}
use Rattle.dh_syntax.specs.Expressions.Tree.{Row as Parts, Leaf, Node, kid, Name, Var, Term}
use Rattle.dh_imports.specs.Outcomes.{Outcome, plain, of_blame, may_go_on}
use Rattle.dh_imports.specs.Walk.{form_of, Form, choosing, other, Walked, Ready, Fails, Turns, Needs, and_then, or_else, in_order, allowed, by_outcome, is_sane, walk_node, walk, walks, keys_of, keys_of_row}
use Rattle.dh_syntax.specs.Normalising.Trees.{replace_row}
use Rattle.dh_syntax.proofs.Bridge.{term-Var, term-Node, row_of-nil, at_term-Var, at_term-Node}
use Rattle.dh_syntax.proofs.Rows.{+++-end, row_keeps, row_of-drop_item, row_of-drop_all}
use Rattle.dh_demand.specs.declared.scans.Edge.{Edge}
use Rattle.dh_demand.specs.declared.parts.Part.TheVariants as part
use Rattle.dh_demand.specs.Results.{Row, outcome_at, ask_of}
use Rattle.dh_demand.specs.Scans.{text_key, IsEdge, Begins, imports}
use Rattle.dh_demand.specs.Inside.Building.{IsBuilt, AreBuilt, IsSideBuilt, with_kid, value_of_outcome}
use Rattle.dh_demand.specs.Inside.Parts.{part_of}
use Rattle.dh_demand.proofs.Edges.{begins_at_item, begins_after_item}
use Rattle.dh_demand.proofs.Nexting.{chosen, others, import_node, two_kids}
use Rattle.dh_demand.proofs.Numbers.{stands}
use Rattle.dh_demand.proofs.Visiting.{comes, Blamed, fault, looped, blamed}
use Rattle.dh_laws.proofs.KeyOrder.{some-equal}

-- ---- an import

built_by : (parent : Option Loc) (k : Key) (o : Option program.Outcome) → IsBuilt (by_outcome (text_key parent) k (option_map plain o)) (value_of_outcome o)
built_by parent k None = tt
built_by parent k (Some (variants.Good v origin)) = go (allowed (text_key parent) k origin)
  where
    go : (b : Bool) → IsBuilt (if b then Ready (term v) else Fails (record { at = text_key parent; why = whys.Cors k.loc })) (Some v)
    go true = refl
    go false = λ h. let e : ⊥ = cc in e
built_by parent k (Some (variants.Bad b)) = go (of_blame b.at b.why) (blamed b.at b.why)
  where
    go : (o : Outcome) → Blamed b o → IsBuilt (by_outcome (text_key parent) k (Some o)) None
    go _ fault = tt
    go _ (looped q) = tt

insane-built : (parent : Option Loc) (k : Key) (o : Option Expr) → IsBuilt (Fails (record { at = text_key parent; why = whys.Insane k.loc })) o
insane-built parent k None = tt
insane-built parent k (Some e) = λ h. let e : ⊥ = cc in e

pub import_built : (parent : Option Loc) (rows : List Row) (k : Key) (e : Edge) (o : Option program.Outcome) (v : Option Expr) → IsEdge parent rows k e → outcome_at rows e.key ≡ Some o → v ≡ value_of_outcome o
    → IsBuilt (comes parent rows k) v
import_built parent rows k e o v h known p =
    let s = stands rows k e.key h.numbered in
    let asked : ask_of rows k ≡ option_map plain o = s.asked ∙ ap (option_map plain) (some-equal (sym s.outcome_is ∙ known)) in
    subst (IsBuilt (comes parent rows k)) (sym p) (go (is_sane (text_key parent) k) asked)
  where
    go : (b : Bool) → ask_of rows k ≡ option_map plain o → IsBuilt (if b then by_outcome (text_key parent) k (ask_of rows k) else Fails (record { at = text_key parent; why = whys.Insane k.loc })) (value_of_outcome o)
    go true q = subst (λ x. IsBuilt (by_outcome (text_key parent) k x) (value_of_outcome o)) (sym q) (built_by parent k o)
    go false q = insane-built parent k (value_of_outcome o)

-- ---- nodes

pub variable_built : (parent : Option Loc) (rows : List Row) (e : Expr) (x y : Name) (i : ℕ) → e ≡ expr.Var x i → y ≡ x → IsBuilt (walk (text_key parent) (ask_of rows) (term e)) (Some (expr.Var y i))
variable_built parent rows e x y i h p =
    subst (λ w. IsBuilt w (Some (expr.Var y i))) (sym (at_term-Var (walk (text_key parent) (ask_of rows)) e x i h)) (term-Var y i ∙ ap (λ (z : Name). Leaf (record { name = z; index = i })) p)

pub import_node_built : (parent : Option Loc) (rows : List Row) (e : Expr) (op : Op) (ks : List Kid) (v : Option Expr) (es : List Edge) → e ≡ expr.Node op ks → part.Import ≡ part_of op
    → ((k : Key) (ls : List Key) → Begins parent rows (k ∷ ls) es → IsBuilt (comes parent rows k) v)
    → Begins parent rows (keys_of parent (term e)) es → IsBuilt (walk (text_key parent) (ask_of rows) (term e)) v
import_node_built parent rows e op ks v es is h step b =
    let i = import_node parent rows e op ks is h in
    subst (λ w. IsBuilt w v) (sym i.walk_is) (step i.key (keys_of_row parent (row_of ks)) (subst (λ ls. Begins parent rows ls es) i.keys_are b))

node_built : (op : Op) (r : Parts Var Name) (w : Walked (List Term)) (js : Option (List Kid)) → AreBuilt r w js
    → IsBuilt (and_then w (λ es. Ready (Node op (replace_row r es)))) (option_map (λ ks. expr.Node op ks) js)
node_built op r (Ready vs) (Some js) h = term-Node op js ∙ ap (λ s. Node op s) h
node_built op r (Ready vs) None h = h
node_built op r (Fails b) (Some js) h = h
node_built op r (Fails b) None h = h
node_built op r (Turns j) js h = tt
node_built op r (Needs k) js h = tt

pub parts_built : (parent : Option Loc) (rows : List Row) (e : Expr) (op op' : Op) (ks : List Kid) (js : Option (List Kid)) (v : Option Expr) (f : Form) → e ≡ expr.Node op ks → form_of op ≡ f
    → walk_node (text_key parent) (ask_of rows) op (row_of ks) f (walks (text_key parent) (ask_of rows) (row_of ks))
    ≡ and_then (in_order (walks (text_key parent) (ask_of rows) (row_of ks))) (λ es. Ready (Node op (replace_row (row_of ks) es)))
    → op' ≡ op → v ≡ option_map (λ ks. expr.Node op' ks) js
    → AreBuilt (row_of ks) (in_order (walks (text_key parent) (ask_of rows) (row_of ks))) js → IsBuilt (walk (text_key parent) (ask_of rows) (term e)) v
parts_built parent rows e op op' ks js v f is p plain_node q made h =
    let ws = walks (text_key parent) (ask_of rows) (row_of ks) in
    let whole = at_term-Node (walk (text_key parent) (ask_of rows)) e op ks is ∙ ap (λ f. walk_node (text_key parent) (ask_of rows) op (row_of ks) f ws) p ∙ plain_node in
    subst (IsBuilt (walk (text_key parent) (ask_of rows) (term e))) (sym (made ∙ ap (λ o. option_map (λ ks. expr.Node o ks) js) q))
    (subst (λ w. IsBuilt w (option_map (λ ks. expr.Node op ks) js)) (sym whole) (node_built op (row_of ks) (in_order ws) js h))

pub other_built : (parent : Option Loc) (rows : List Row) (e : Expr) (op op' : Op) (ks : List Kid) (js : Option (List Kid)) (v : Option Expr) → e ≡ expr.Node op ks → part.Other ≡ part_of op
    → op' ≡ op → v ≡ option_map (λ ks. expr.Node op' ks) js
    → AreBuilt (row_of ks) (in_order (walks (text_key parent) (ask_of rows) (row_of ks))) js → IsBuilt (walk (text_key parent) (ask_of rows) (term e)) v
other_built parent rows e op op' ks js v is h q made b = parts_built parent rows e op op' ks js v other is (others (form_of op) h) refl q made b

pub not_two : (parent : Option Loc) (rows : List Row) (op : Op) (ks : List Kid) → (length ks ≡ 2 → ⊥)
    → walk_node (text_key parent) (ask_of rows) op (row_of ks) choosing (walks (text_key parent) (ask_of rows) (row_of ks))
    ≡ and_then (in_order (walks (text_key parent) (ask_of rows) (row_of ks))) (λ es. Ready (Node op (replace_row (row_of ks) es)))
unfolding row_of
not_two parent rows op [] h = refl
not_two parent rows op (a ∷ []) h = refl
not_two parent rows op (a ∷ b ∷ []) h = absurd (h refl)
not_two parent rows op (a ∷ b ∷ d ∷ ks) h = refl

pub unchosen_built : (parent : Option Loc) (rows : List Row) (e : Expr) (op op' : Op) (ks : List Kid) (js : Option (List Kid)) (v : Option Expr) → e ≡ expr.Node op ks → part.Choice ≡ part_of op
    → (length ks ≡ 2 → ⊥) → op' ≡ op → v ≡ option_map (λ ks. expr.Node op' ks) js
    → AreBuilt (row_of ks) (in_order (walks (text_key parent) (ask_of rows) (row_of ks))) js → IsBuilt (walk (text_key parent) (ask_of rows) (term e)) v
unchosen_built parent rows e op op' ks js v is h n q made b = parts_built parent rows e op op' ks js v choosing is (chosen (form_of op) h) (not_two parent rows op ks n) q made b

-- ---- the two sides of a choice

side_node : (parent : Option Loc) (rows : List Row) (op : Op) (ks : List Kid) (ws : List (Walked Term)) (v : Option Expr) → IsSideBuilt ws v → IsBuilt (walk_node (text_key parent) (ask_of rows) op (row_of ks) choosing ws) v
side_node parent rows op ks (x ∷ y ∷ []) v h = h
side_node parent rows op ks [] v h = absurd h
side_node parent rows op ks (x ∷ []) v h = absurd h
side_node parent rows op ks (x ∷ y ∷ z ∷ ws) v h = absurd h

pub choice_built : (parent : Option Loc) (rows : List Row) (e : Expr) (op : Op) (ks : List Kid) (v : Option Expr) → e ≡ expr.Node op ks → part.Choice ≡ part_of op
    → IsSideBuilt (walks (text_key parent) (ask_of rows) (row_of ks)) v → IsBuilt (walk (text_key parent) (ask_of rows) (term e)) v
choice_built parent rows e op ks v is h b =
    let ws = walks (text_key parent) (ask_of rows) (row_of ks) in
    let whole = at_term-Node (walk (text_key parent) (ask_of rows)) e op ks is ∙ ap (λ f. walk_node (text_key parent) (ask_of rows) op (row_of ks) f ws) (chosen (form_of op) h) in
    subst (λ w. IsBuilt w v) (sym whole) (side_node parent rows op ks ws v b)

taken_left : (v w : Walked Term) (e : Expr) → IsBuilt v (Some e) → IsBuilt (or_else v w) (Some e)
taken_left (Ready x) w e h = h
taken_left (Turns j) w e h = tt
taken_left (Needs k) w e h = tt
taken_left (Fails b) w e h = go (may_go_on b.why) refl
  where
    go : (t : Bool) → may_go_on b.why ≡ t → IsBuilt (if t then w else Fails b) (Some e)
    go true p = absurd (h p)
    go false p = h

taken_right : (v w : Walked Term) (o : Option Expr) → IsBuilt v None → IsBuilt w o → IsBuilt (or_else v w) o
taken_right (Ready x) w o h k = absurd h
taken_right (Turns j) w o h k = tt
taken_right (Needs y) w o h k = tt
taken_right (Fails b) w o h k = go (may_go_on b.why) refl o k
  where
    stays : (o : Option Expr) → may_go_on b.why ≡ false → IsBuilt (Fails b) o
    stays None p = tt
    stays (Some e) p = λ q. let e : ⊥ = cc in e

    go : (t : Bool) → may_go_on b.why ≡ t → (o : Option Expr) → IsBuilt w o → IsBuilt (if t then w else Fails b) o
    go true p o k = k
    go false p o k = stays o p

pub left_built : (parent : Option Loc) (rows : List Row) (ks : List Kid) (k j : Kid) (e : Expr) → length ks ≡ 2 → k ≡ get_or ks 0 k → j ≡ get_or ks 1 j
    → IsBuilt (walk (text_key parent) (ask_of rows) (term k.body)) (Some e) → IsSideBuilt (walks (text_key parent) (ask_of rows) (row_of ks)) (Some e)
left_built parent rows ks k j e h p q b =
    subst (λ r. IsSideBuilt (walks (text_key parent) (ask_of rows) r) (Some e)) (sym (two_kids ks k j h p q))
    (taken_left (walk (text_key parent) (ask_of rows) (term k.body)) (walk (text_key parent) (ask_of rows) (term j.body)) e b)

pub right_built : (parent : Option Loc) (rows : List Row) (ks : List Kid) (k j : Kid) (o : Option Expr) → length ks ≡ 2 → k ≡ get_or ks 0 k → j ≡ get_or ks 1 j
    → IsBuilt (walk (text_key parent) (ask_of rows) (term k.body)) None → IsBuilt (walk (text_key parent) (ask_of rows) (term j.body)) o
    → IsSideBuilt (walks (text_key parent) (ask_of rows) (row_of ks)) o
right_built parent rows ks k j o h p q b d =
    subst (λ r. IsSideBuilt (walks (text_key parent) (ask_of rows) r) o) (sym (two_kids ks k j h p q))
    (taken_right (walk (text_key parent) (ask_of rows) (term k.body)) (walk (text_key parent) (ask_of rows) (term j.body)) o b d)

-- ---- the parts of a node in turn

abbrev pub WaitsFor : (ks : List Kid) (i : ℕ) → Walked (List Term) → List Kid → Type 0
WaitsFor ks i (Ready vs) done = (es : List Term) → row_of done +++ replace_row (row_of (drop i ks)) es ≡ replace_row (row_of ks) (vs ++ es)
WaitsFor ks i (Fails b) done = may_go_on b.why ≡ true → ⊥
WaitsFor ks i (Turns j) done = Unit {0}
WaitsFor ks i (Needs k) done = Unit {0}

abbrev pub IsLost : Walked (List Term) → Type 0
IsLost (Ready vs) = ⊥
IsLost (Fails b) = Unit {0}
IsLost (Turns j) = Unit {0}
IsLost (Needs k) = Unit {0}

abbrev pub KeptOrLost : (ks : List Kid) (i : ℕ) → Walked (List Term) → List Kid → Bool → Type 0
KeptOrLost ks i w done false = WaitsFor ks i w done
KeptOrLost ks i w done true = IsLost w

pub record BuiltSoFar (parent : Option Loc) (rows : List Row) (ks : List Kid) (i : ℕ) (done : List Kid) (failed : Bool) (rest : List Edge) : Type 0 where
  pub begins : Begins parent rows (keys_of_row parent (row_of (drop i ks))) rest
  pub so_far : Walked (List Term)
  pub whole : and_then so_far (λ vs. and_then (in_order (walks (text_key parent) (ask_of rows) (row_of (drop i ks)))) (λ es. Ready (vs ++ es))) ≡ in_order (walks (text_key parent) (ask_of rows) (row_of ks))
  pub kept : KeptOrLost ks i so_far done failed

pub same-walk : (w : Walked (List Term)) → and_then w (λ es. Ready ([] ++ es)) ≡ w
same-walk (Ready vs) = refl
same-walk (Fails b) = refl
same-walk (Turns j) = refl
same-walk (Needs k) = refl

pub built-start : (parent : Option Loc) (rows : List Row) (ks done : List Kid) (es : List Edge) → done ≡ [] → Begins parent rows (keys_of_row parent (row_of ks)) es → BuiltSoFar parent rows ks 0 done false es
built-start parent rows ks done es h b = record {
  begins = b;
  so_far = Ready [];
  whole = same-walk (in_order (walks (text_key parent) (ask_of rows) (row_of ks)));
  kept = λ es. subst (λ d. row_of d +++ replace_row (row_of ks) es ≡ replace_row (row_of ks) es) (sym h) (ap (λ r. r +++ replace_row (row_of ks) es) row_of-nil);
}

pub more_whole : (w : Walked (List Term)) (v : Walked Term) (ws : Walked (List Term))
    → and_then (and_then w (λ vs. and_then v (λ e. Ready (vs ++ e ∷ [])))) (λ vs. and_then ws (λ es. Ready (vs ++ es))) ≡ and_then w (λ vs. and_then (and_then v (λ e. and_then ws (λ es. Ready (e ∷ es)))) (λ es. Ready (vs ++ es)))
more_whole (Ready vs) (Ready e) (Ready es) = ap (λ (x : List Term). Ready x) (append_assoc {A = Term} vs (e ∷ []) es)
more_whole (Ready vs) (Ready e) (Fails b) = refl
more_whole (Ready vs) (Ready e) (Turns j) = refl
more_whole (Ready vs) (Ready e) (Needs k) = refl
more_whole (Ready vs) (Fails b) ws = refl
more_whole (Ready vs) (Turns j) ws = refl
more_whole (Ready vs) (Needs k) ws = refl
more_whole (Fails b) v ws = refl
more_whole (Turns j) v ws = refl
more_whole (Needs k) v ws = refl

lost_more : (w : Walked (List Term)) (v : Walked Term) → IsLost w → IsLost (and_then w (λ vs. and_then v (λ e. Ready (vs ++ e ∷ []))))
lost_more (Ready vs) v h = absurd h
lost_more (Fails b) v h = tt
lost_more (Turns j) v h = tt
lost_more (Needs k) v h = tt

lose : (w : Walked (List Term)) (v : Walked Term) → IsBuilt v None → IsLost (and_then w (λ vs. and_then v (λ e. Ready (vs ++ e ∷ []))))
lose (Ready vs) (Ready e) h = absurd h
lose (Ready vs) (Fails b) h = tt
lose (Ready vs) (Turns j) h = tt
lose (Ready vs) (Needs k) h = tt
lose (Fails b) v h = tt
lose (Turns j) v h = tt
lose (Needs k) v h = tt

keep_more : (ks done : List Kid) (i : ℕ) (k : Kid) (e : Expr) (w : Walked (List Term)) (v : Walked Term) → i < length ks → k ≡ get_or ks i k → IsBuilt v (Some e) → WaitsFor ks i w done
    → WaitsFor ks (i + 1) (and_then w (λ vs. and_then v (λ e. Ready (vs ++ e ∷ [])))) (done ++ record { binder = k.binder; body = e } ∷ [])
keep_more ks done i k e (Ready vs) (Ready x) h p b s = λ es.
    row_keeps (λ r. replace_row r (x ∷ es)) (λ r. replace_row r es) done ks i k (record { binder = k.binder; body = e }) (replace_row (row_of ks) ((vs ++ x ∷ []) ++ es))
    (s (x ∷ es) ∙ ap (replace_row (row_of ks)) (sym (append_assoc {A = Term} vs (x ∷ []) es))) h p
    (ap (λ (d : Term). kid k.binder d (replace_row (row_of (drop (i + 1) ks)) es)) (sym b))
keep_more ks done i k e (Ready vs) (Fails b) h p c s = c
keep_more ks done i k e (Ready vs) (Turns j) h p c s = tt
keep_more ks done i k e (Ready vs) (Needs y) h p c s = tt
keep_more ks done i k e (Fails b) v h p c s = s
keep_more ks done i k e (Turns j) v h p c s = tt
keep_more ks done i k e (Needs y) v h p c s = tt

item_kept : (ks done : List Kid) (i : ℕ) (k : Kid) (o : Option Expr) (w : Walked (List Term)) (v : Walked Term) → i < length ks → k ≡ get_or ks i k → IsBuilt v o → WaitsFor ks i w done
    → KeptOrLost ks (i + 1) (and_then w (λ vs. and_then v (λ e. Ready (vs ++ e ∷ [])))) (with_kid done k.binder o) (not (is_some o))
item_kept ks done i k None w v h p b s = lose w v b
item_kept ks done i k (Some e) w v h p b s = keep_more ks done i k e w v h p b s

pub built-item : (parent : Option Loc) (rows : List Row) (ks done done' : List Kid) (failed failed' kept : Bool) (i : ℕ) (k : Kid) (o : Option Expr) (es rest : List Edge) → i < length ks → k ≡ get_or ks i k
    → rest ≡ drop (imports (term k.body)) es → done' ≡ with_kid done k.binder o → failed ≡ false → failed' ≡ not kept → kept ≡ is_some o
    → (Begins parent rows (keys_of parent (term k.body)) es → IsBuilt (walk (text_key parent) (ask_of rows) (term k.body)) o)
    → BuiltSoFar parent rows ks i done failed es → BuiltSoFar parent rows ks (i + 1) done' failed' rest
built-item parent rows ks done done' failed failed' kept i k o es rest h e p q f f' r step s =
    let at = text_key parent in
    let ask = ask_of rows in
    let v = walk at ask (term k.body) in
    let w' = and_then s.so_far (λ vs. and_then v (λ e. Ready (vs ++ e ∷ []))) in
    record {
      begins = begins_after_item parent rows ks i k es rest h e p s.begins;
      so_far = w';
      whole =
          more_whole s.so_far v (in_order (walks at ask (row_of (drop (i + 1) ks))))
          ∙ sym (ap (λ r. and_then s.so_far (λ vs. and_then (in_order (walks at ask r)) (λ es. Ready (vs ++ es)))) (row_of-drop_item ks i k h e)) ∙ s.whole;
      kept =
          subst (λ d. KeptOrLost ks (i + 1) w' d failed') (sym q)
          (subst (λ b. KeptOrLost ks (i + 1) w' (with_kid done k.binder o) b) (sym (f' ∙ ap not r))
          (item_kept ks done i k o s.so_far v h e (step (begins_at_item parent rows ks i k es h e s.begins)) (subst (λ b. KeptOrLost ks i s.so_far done b) f s.kept)));
    }

pub built-lost : (parent : Option Loc) (rows : List Row) (ks done done' : List Kid) (failed failed' : Bool) (i : ℕ) (k : Kid) (es rest : List Edge) → i < length ks → k ≡ get_or ks i k
    → rest ≡ drop (imports (term k.body)) es → done' ≡ done → failed ≡ true → failed' ≡ failed → BuiltSoFar parent rows ks i done failed es → BuiltSoFar parent rows ks (i + 1) done' failed' rest
built-lost parent rows ks done done' failed failed' i k es rest h e p q lost r s =
    let at = text_key parent in
    let ask = ask_of rows in
    let v = walk at ask (term k.body) in
    let w' = and_then s.so_far (λ vs. and_then v (λ e. Ready (vs ++ e ∷ []))) in
    record {
      begins = begins_after_item parent rows ks i k es rest h e p s.begins;
      so_far = w';
      whole =
          more_whole s.so_far v (in_order (walks at ask (row_of (drop (i + 1) ks))))
          ∙ sym (ap (λ r. and_then s.so_far (λ vs. and_then (in_order (walks at ask r)) (λ es. Ready (vs ++ es)))) (row_of-drop_item ks i k h e)) ∙ s.whole;
      kept =
          subst (λ b. KeptOrLost ks (i + 1) w' done' b) (sym (r ∙ lost))
          (lost_more s.so_far v (subst (λ b. KeptOrLost ks i s.so_far done b) lost s.kept));
    }

pub no_more : (w : Walked (List Term)) → and_then w (λ vs. Ready (vs ++ [])) ≡ w
no_more (Ready vs) = ap (λ (x : List Term). Ready x) (append-nil {A = Term} vs)
no_more (Fails b) = refl
no_more (Turns j) = refl
no_more (Needs k) = refl

all_kept : (ks done : List Kid) (i : ℕ) (w : Walked (List Term)) → length ks ≤ i → WaitsFor ks i w done → AreBuilt (row_of ks) w (Some done)
all_kept ks done i (Ready vs) h s =
    sym (+++-end (row_of done)) ∙ ap (λ r. row_of done +++ replace_row r []) (sym (row_of-drop_all ks i h)) ∙ s [] ∙ ap (replace_row (row_of ks)) (append-nil {A = Term} vs)
all_kept ks done i (Fails b) h s = s
all_kept ks done i (Turns j) h s = tt
all_kept ks done i (Needs k) h s = tt

all_lost : (r : Parts Var Name) (w : Walked (List Term)) → IsLost w → AreBuilt r w None
all_lost r (Ready vs) h = absurd h
all_lost r (Fails b) h = tt
all_lost r (Turns j) h = tt
all_lost r (Needs k) h = tt

whole_is : (parent : Option Loc) (rows : List Row) (ks done : List Kid) (i : ℕ) (failed : Bool) (rest : List Edge) → length ks ≤ i → (s : BuiltSoFar parent rows ks i done failed rest)
    → s.so_far ≡ in_order (walks (text_key parent) (ask_of rows) (row_of ks))
whole_is parent rows ks done i failed rest h s =
    sym (no_more s.so_far)
    ∙ sym (ap (λ r. and_then s.so_far (λ vs. and_then (in_order (walks (text_key parent) (ask_of rows) r)) (λ es. Ready (vs ++ es)))) (row_of-drop_all ks i h)) ∙ s.whole

pub built-all : (parent : Option Loc) (rows : List Row) (ks done : List Kid) (i : ℕ) (rest : List Edge) → length ks ≤ i → BuiltSoFar parent rows ks i done false rest
    → AreBuilt (row_of ks) (in_order (walks (text_key parent) (ask_of rows) (row_of ks))) (Some done)
built-all parent rows ks done i rest h s = subst (λ w. AreBuilt (row_of ks) w (Some done)) (whole_is parent rows ks done i false rest h s) (all_kept ks done i s.so_far h s.kept)

pub lost-all : (parent : Option Loc) (rows : List Row) (ks done : List Kid) (i : ℕ) (rest : List Edge) → length ks ≤ i → BuiltSoFar parent rows ks i done true rest
    → AreBuilt (row_of ks) (in_order (walks (text_key parent) (ask_of rows) (row_of ks))) None
lost-all parent rows ks done i rest h s = subst (λ w. AreBuilt (row_of ks) w None) (whole_is parent rows ks done i true rest h s) (all_lost (row_of ks) s.so_far s.kept)

pub ready_built : (w : Walked Term) (v : Term) (o : Option Expr) → w ≡ Ready v → IsBuilt w o → (e : Expr) × (o ≡ Some e) × (term e ≡ v)
ready_built w v (Some e) p h = (e, refl, subst (λ x. IsBuilt x (Some e)) p h)
ready_built w v None p h = absurd (subst (λ x. IsBuilt x None) p h)
