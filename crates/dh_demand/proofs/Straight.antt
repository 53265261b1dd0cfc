-- The walk of an expression without `?` asks its imports in turn.
use Rattle.std.specs.Prelude.{◌≡◌, ◌<◌, ◌≤◌, ℕ, zero, suc, ◌+◌, ◌++◌, Bool, true, false, ◌&&◌, ◌↔◌, List, [], ◌∷◌, length, drop, Option, refl}
use Rattle.std.proofs.Common.{ap, sym, ◌∙◌, subst, arith, get_or}
use Rattle.dh_syntax.specs.declared.expressions.Expr.{Expr}
use Rattle.dh_syntax.specs.declared.expressions.Expr.TheVariants as expr
use Rattle.dh_syntax.specs.declared.expressions.Kid.{Kid}
use Rattle.dh_syntax.specs.declared.expressions.Op.{Op}
use Rattle.dh_syntax.specs.declared.locations.Import.{Import as Written}
use Rattle.dh_syntax.specs.declared.locations.Key.{Key}
use Rattle.dh_syntax.specs.declared.locations.Loc.{Loc}
use Rattle.dh_syntax.specs.Expressions.Bridge.{term, row_of}
use Rattle.dh_syntax.specs.Expressions.Tree.{Row as Parts, Leaf, Node, end, kid, Name, Var, Term}
use Rattle.dh_syntax.specs.Normalising.Trees.{replace_row}
use Rattle.dh_syntax.proofs.Bridge.{at_term-Var, at_term-Node}
use Rattle.dh_syntax.proofs.Rows.{at_row_of-drop_item, at_row_of-drop_all}
use Rattle.dh_syntax.proofs.Numbers.{and-true_left, and-true_right}
use Rattle.dh_imports.specs.Walk.{Ask, place, Form, importing, choosing, other, form_of, Walked, Ready, Fails, Turns, Needs, and_then, in_order, walk_key, walk_node, walk, walks, keys_of_form, keys_of, keys_of_row}
use Rattle.dh_demand.specs.declared.scans.Edge.{Edge}
use Rattle.dh_demand.specs.declared.ends.Next.{Next}
use Rattle.dh_demand.specs.declared.ends.Next.TheVariants as next
use Rattle.dh_demand.specs.declared.parts.Part.TheVariants as part
use Rattle.dh_demand.specs.Headways.{ArePassed, IsPassed, is_straight_node, is_straight, are_straight}
use Rattle.dh_demand.specs.Nexts.{IsNext}
use Rattle.dh_demand.specs.Results.{Row, ask_of}
use Rattle.dh_demand.specs.Scans.{text_key, Begins, IsEdge, imports}
use Rattle.dh_demand.specs.Inside.Parts.{part_of}
use Rattle.dh_demand.specs.Inside.Walking.{after, in_turn}
use Rattle.dh_demand.proofs.Edges.{count-keys}
use Rattle.dh_demand.proofs.Nexting.{chosen, goes, imported, others, stays, unbuilt}
use Rattle.dh_demand.proofs.Visiting.{place_of_text}

-- ---- how walks end, one after the other

abbrev ended : {X : Type 0} → Walked X → Walked (Unit {0})
ended v = and_then v (λ x. Ready (tt {0}))

turn-first : (v w : Walked (Unit {0})) (u : Walked Term) → after (after u v) w ≡ after u (after v w)
turn-first (Ready x) (Ready y) (Ready z) = refl
turn-first (Ready x) (Fails b) (Ready z) = refl
turn-first (Ready x) (Turns j) (Ready z) = refl
turn-first (Ready x) (Needs k) (Ready z) = refl
turn-first (Fails b) w (Ready z) = refl
turn-first (Turns j) w (Ready z) = refl
turn-first (Needs k) w (Ready z) = refl
turn-first v w (Fails b) = refl
turn-first v w (Turns j) = refl
turn-first v w (Needs k) = refl

ended-itself : (v : Walked (Unit {0})) → v ≡ after (Ready (tt {0})) v
ended-itself (Ready x) = refl
ended-itself (Fails b) = refl
ended-itself (Turns j) = refl
ended-itself (Needs k) = refl

ended-rebuilt : {X Y : Type 0} (v : Walked X) (f : X → Y) → ended v ≡ ended (and_then v (λ x. Ready (f x)))
ended-rebuilt (Ready x) f = refl
ended-rebuilt (Fails b) f = refl
ended-rebuilt (Turns j) f = refl
ended-rebuilt (Needs k) f = refl

ended-pair : (v : Walked Term) (ws : Walked (List Term)) → after (ended v) (ended ws) ≡ ended (and_then v (λ e. and_then ws (λ es. Ready (e ∷ es))))
ended-pair (Ready e) (Ready es) = refl
ended-pair (Ready e) (Fails b) = refl
ended-pair (Ready e) (Turns j) = refl
ended-pair (Ready e) (Needs k) = refl
ended-pair (Fails b) ws = refl
ended-pair (Turns j) ws = refl
ended-pair (Needs k) ws = refl

module _ (parent : Option Key) (ask : Ask) where
  turn-append : (xs ys : List Key) → in_turn parent ask (xs ++ ys) ≡ after (in_turn parent ask xs) (in_turn parent ask ys)
  turn-append [] ys = ended-itself (in_turn parent ask ys)
  turn-append (k ∷ xs) ys = ap (after (walk_key parent ask k)) (turn-append xs ys) ∙ sym (turn-first (in_turn parent ask xs) (in_turn parent ask ys) (walk_key parent ask k))

  -- a node by its parts
  straight-node : (op : Op) (r : Parts Var Name) (f : Form) → (are_straight r ≡ true → in_turn parent ask (keys_of_row (place parent) r) ≡ ended (in_order (walks parent ask r)))
      → (is_straight_node f r && are_straight r) ≡ true
      → in_turn parent ask (keys_of_form (place parent) f ++ keys_of_row (place parent) r) ≡ ended (walk_node parent ask op r f (walks parent ask r))
  straight-node op end (importing i) parts h = refl
  straight-node op (kid b e r) (importing i) parts h = let q : false ≡ true = h in cc
  straight-node op r choosing parts h = let q : false ≡ true = h in cc
  straight-node op r other parts h = parts h ∙ ended-rebuilt (in_order (walks parent ask r)) (λ es. Node op (replace_row r es))

  mutual
    pub straight-turn : (e : Term) → is_straight e ≡ true → in_turn parent ask (keys_of (place parent) e) ≡ ended (walk parent ask e)
    straight-turn (Leaf v) h = refl
    straight-turn (Node op r) h = straight-node op r (form_of op) (straight-row r) h

    straight-row : (r : Parts Var Name) → are_straight r ≡ true → in_turn parent ask (keys_of_row (place parent) r) ≡ ended (in_order (walks parent ask r))
    straight-row end h = refl
    straight-row (kid b e r) h =
        turn-append (keys_of (place parent) e) (keys_of_row (place parent) r)
        ∙ (λ i. after (straight-turn e (and-true_left (is_straight e) (are_straight r) h) i) (straight-row r (and-true_right (is_straight e) (are_straight r) h) i))
        ∙ ended-pair (walk parent ask e) (in_order (walks parent ask r))

-- what comes next of the imports in turn comes next of the expression
pub straight-next : (parent : Option Loc) (rows : List Row) (e : Term) (n : Next) → is_straight e ≡ true
    → IsNext parent rows (in_turn (text_key parent) (ask_of rows) (keys_of parent e)) n → IsNext parent rows (walk (text_key parent) (ask_of rows) e) n
straight-next parent rows e n h k =
    let P : Walked (Unit {0}) → Type 0 = λ w. IsNext parent rows w n in
    unbuilt parent rows (walk (text_key parent) (ask_of rows) e) (λ x. tt {0}) n
    (subst P (ap (λ at. in_turn (text_key parent) (ask_of rows) (keys_of at e)) (sym (place_of_text parent)) ∙ straight-turn (text_key parent) (ask_of rows) e h) k)

-- ---- the imports that are passed

module _ (parent : Option Loc) (rows : List Row) where
  passed-next : {X : Type 0} (w : Walked X) → IsPassed w → IsNext parent rows w next.Ready
  passed-next (Ready x) h = tt
  passed-next (Fails b) h = absurd h
  passed-next (Turns j) h = absurd h
  passed-next (Needs k) h = absurd h

  next-passed : {X : Type 0} (w : Walked X) → IsNext parent rows w next.Ready → IsPassed w
  next-passed (Ready x) h = tt
  next-passed (Fails b) h = absurd h
  next-passed (Turns j) h = absurd h
  next-passed (Needs k) h = absurd h

  -- where all are passed the walk is ready
  pub passed-all : (n : ℕ) (ks : List Key) → length ks ≤ n → ArePassed (text_key parent) (ask_of rows) n ks → IsNext parent rows (in_turn (text_key parent) (ask_of rows) ks) next.Ready
  passed-all zero [] l h = tt
  passed-all zero (k ∷ ks) l h = let e : ⊥ = omega arith in absurd e
  passed-all (suc n) [] l h = tt
  passed-all (suc n) (k ∷ ks) l h =
      goes parent rows (walk_key (text_key parent) (ask_of rows) k) (in_turn (text_key parent) (ask_of rows) ks) next.Ready next.Ready
      (passed-next (walk_key (text_key parent) (ask_of rows) k) h.0) refl (passed-all n ks (omega arith) h.1)

  -- the first that is not passed decides
  pub passed-stops : (n : ℕ) (ks : List Key) (k : Key) (x : Next) → n < length ks → k ≡ get_or ks n k → ArePassed (text_key parent) (ask_of rows) n ks
      → IsNext parent rows (walk_key (text_key parent) (ask_of rows) k) x → (x ≡ next.Ready → ⊥) → IsNext parent rows (in_turn (text_key parent) (ask_of rows) ks) x
  passed-stops n [] k x l e h m more = let e : ⊥ = omega arith in absurd e
  passed-stops zero (j ∷ ks) k x l e h m more =
      stays parent rows (walk_key (text_key parent) (ask_of rows) j) (in_turn (text_key parent) (ask_of rows) ks) x
      (subst (λ y. IsNext parent rows (walk_key (text_key parent) (ask_of rows) y) x) e m) more
  passed-stops (suc n) (j ∷ ks) k x l e h m more =
      goes parent rows (walk_key (text_key parent) (ask_of rows) j) (in_turn (text_key parent) (ask_of rows) ks) next.Ready x
      (passed-next (walk_key (text_key parent) (ask_of rows) j) h.0) refl (passed-stops n ks k x (omega arith) e h.1 m more)

  -- one more is passed
  pub passed-more : (n : ℕ) (ks : List Key) (k : Key) → n < length ks → k ≡ get_or ks n k → ArePassed (text_key parent) (ask_of rows) n ks
      → IsNext parent rows (walk_key (text_key parent) (ask_of rows) k) next.Ready → ArePassed (text_key parent) (ask_of rows) (suc n) ks
  passed-more n [] k l e h m = let e : ⊥ = omega arith in absurd e
  passed-more zero (j ∷ ks) k l e h m =
      (next-passed (walk_key (text_key parent) (ask_of rows) j) (subst (λ y. IsNext parent rows (walk_key (text_key parent) (ask_of rows) y) next.Ready) e m), tt)
  passed-more (suc n) (j ∷ ks) k l e h m = (h.0, passed-more n ks k (omega arith) e h.1 m)

  -- the edge at a place is that of the key there
  pub edge-at : (n : ℕ) (ks : List Key) (es : List Edge) (k : Key) (x : Edge) → n < length ks → k ≡ get_or ks n k → Begins parent rows ks es → IsEdge parent rows k (get_or es n x)
  edge-at n [] es k x l e b = let f : ⊥ = omega arith in absurd f
  edge-at n (j ∷ ks) [] k x l e b = absurd b
  edge-at zero (j ∷ ks) (d ∷ es) k x l e b = subst (λ y. IsEdge parent rows y d) (sym e) b.0
  edge-at (suc n) (j ∷ ks) (d ∷ es) k x l e b = edge-at n ks es k x (omega arith) e b.1

  pub key-there : (n : ℕ) (ks : List Key) → n < length ks → (k : Key) × (k ≡ get_or ks n k)
  key-there n [] l = let e : ⊥ = omega arith in absurd e
  key-there zero (k ∷ ks) l = (k, refl)
  key-there (suc n) (k ∷ ks) l = key-there n ks (omega arith)

  pub edges-enough : (ks : List Key) (es : List Edge) → Begins parent rows ks es → length ks ≤ length es
  edges-enough [] es b = omega arith
  edges-enough (k ∷ ks) [] b = absurd b
  edges-enough (k ∷ ks) (e ∷ es) b = let l = edges-enough ks es b.1 in omega arith

  pub imports-enough : (e : Term) (es : List Edge) → Begins parent rows (keys_of parent e) es → imports e ≤ length es
  imports-enough e es b = let l = edges-enough (keys_of parent e) es b in let c = count-keys parent e in omega arith

-- ---- whether an expression is straight

pub straight-variable : (e : Expr) (x : Name) (n : ℕ) → e ≡ expr.Var x n → true ≡ is_straight (term e)
straight-variable e x n p = sym (at_term-Var is_straight e x n p)

straight-at : (e : Expr) (op : Op) (ks : List Kid) → e ≡ expr.Node op ks → is_straight (term e) ≡ (is_straight_node (form_of op) (row_of ks) && are_straight (row_of ks))
straight-at e op ks p = at_term-Node is_straight e op ks p

-- an import without parts, and one with some
straight-parts : (i : Written) (ks : List Kid) (b : Bool) → (b ≡ true ↔ ks ≡ []) → b ≡ (is_straight_node (importing i) (row_of ks) && are_straight (row_of ks))
unfolding row_of
straight-parts i [] b h = h.1 refl
straight-parts i (k ∷ ks) true h = let e = h.0 refl in cc
straight-parts i (k ∷ ks) false h = refl

pub straight-import : (e : Expr) (op : Op) (ks : List Kid) (b : Bool) → e ≡ expr.Node op ks → part.Import ≡ part_of op → (b ≡ true ↔ ks ≡ []) → b ≡ is_straight (term e)
straight-import e op ks b p h k =
    let i = imported (form_of op) h in
    straight-parts i.0 ks b k ∙ sym (straight-at e op ks p ∙ ap (λ f. is_straight_node f (row_of ks) && are_straight (row_of ks)) i.1)

pub straight-choice : (e : Expr) (op : Op) (ks : List Kid) → e ≡ expr.Node op ks → part.Choice ≡ part_of op → false ≡ is_straight (term e)
straight-choice e op ks p h = sym (straight-at e op ks p ∙ ap (λ f. is_straight_node f (row_of ks) && are_straight (row_of ks)) (chosen (form_of op) h))

pub straight-other : (e : Expr) (op : Op) (ks : List Kid) → e ≡ expr.Node op ks → part.Other ≡ part_of op → are_straight (row_of ks) ≡ is_straight (term e)
straight-other e op ks p h = sym (straight-at e op ks p ∙ ap (λ f. is_straight_node f (row_of ks) && are_straight (row_of ks)) (others (form_of op) h))

straight-item : (ks : List Kid) (i : ℕ) (k : Kid) → i < length ks → k ≡ get_or ks i k → are_straight (row_of (drop i ks)) ≡ (is_straight (term k.body) && are_straight (row_of (drop (i + 1) ks)))
straight-item ks i k h e = at_row_of-drop_item are_straight ks i k h e

pub straight-keeps : (ks : List Kid) (i : ℕ) (k : Kid) (whole : Bool) → i < length ks → k ≡ get_or ks i k → is_straight (term k.body) ≡ true
    → are_straight (row_of (drop i ks)) ≡ whole → are_straight (row_of (drop (i + 1) ks)) ≡ whole
straight-keeps ks i k whole h e good so_far = sym (straight-item ks i k h e ∙ ap (λ b. b && are_straight (row_of (drop (i + 1) ks))) good) ∙ so_far

pub straight-stops : (ks : List Kid) (i : ℕ) (k : Kid) (whole : Bool) → i < length ks → k ≡ get_or ks i k → is_straight (term k.body) ≡ false
    → are_straight (row_of (drop i ks)) ≡ whole → false ≡ whole
straight-stops ks i k whole h e bad so_far = sym (straight-item ks i k h e ∙ ap (λ b. b && are_straight (row_of (drop (i + 1) ks))) bad) ∙ so_far

pub straight-ends : (ks : List Kid) (i : ℕ) (whole : Bool) → length ks ≤ i → are_straight (row_of (drop i ks)) ≡ whole → true ≡ whole
straight-ends ks i whole h so_far = sym (at_row_of-drop_all are_straight ks i h) ∙ so_far

-- ---- more is known

-- what was passed still is
pub passed-longer : (parent : Option Key) (less more : Ask) → ((k : Key) → IsPassed (walk_key parent less k) → IsPassed (walk_key parent more k)) → (n : ℕ) (ks : List Key)
    → ArePassed parent less n ks → ArePassed parent more n ks
passed-longer parent less more f zero ks h = tt
passed-longer parent less more f (suc n) [] h = tt
passed-longer parent less more f (suc n) (k ∷ ks) h = (f k h.0, passed-longer parent less more f n ks h.1)
