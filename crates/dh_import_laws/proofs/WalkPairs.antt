-- A relation of walks that each of their steps keeps holds between two walks of one expression.
use Rattle.std.specs.Prelude.{◌≡◌, List, [], ◌∷◌, Option}
use Rattle.std.proofs.Common.{subst}
use Rattle.dh_syntax.specs.declared.expressions.Op.{Op}
use Rattle.dh_syntax.specs.declared.locations.Key.{Key}
use Rattle.dh_syntax.specs.Expressions.Tree.{Row, Leaf, Node, end, kid, Name, Var, Term}
use Rattle.dh_syntax.specs.Normalising.Trees.{replace_row}
use Rattle.dh_syntax.specs.Imports.Keys.{chained}
use Rattle.dh_imports.specs.Walk.{Ask, place, Form, importing, choosing, other, form_of, Walked, Ready, and_then, or_else, in_order, walk_key, walk_node, walk, walks}

abbrev pub Relation : Type 1
Relation = (X : Type 0) → Walked X → Walked X → Type 0

-- The steps of a walk under the first key, by the first outcomes, and of one under the second key, by the second outcomes, keep the relation.
pub record StepsKeep (R : Relation) (p q : Option Key) (less more : Ask) : Type 0 where
  pub one_place : place p ≡ place q
  pub key : (k : Key) → R Term (walk_key p less k) (walk_key q more k)
  pub choice : (a b c d : Walked Term) → R Term a b → R Term c d → R Term (or_else a c) (or_else b d)
  pub last : (op : Op) (r : Row Var Name) (a b : Walked (List Term)) → R (List Term) a b
      → R Term (and_then a (λ es. Ready (Node op (replace_row r es)))) (and_then b (λ es. Ready (Node op (replace_row r es))))
  pub leaf : (e : Term) → R Term (Ready e) (Ready e)
  pub none : R (List Term) (Ready []) (Ready [])
  pub next : (a b : Walked Term) (c d : Walked (List Term)) → R Term a b → R (List Term) c d
      → R (List Term) (and_then a (λ e. and_then c (λ es. Ready (e ∷ es)))) (and_then b (λ e. and_then d (λ es. Ready (e ∷ es))))

module _ (R : Relation) (p q : Option Key) (less more : Ask) (keep : StepsKeep R p q less more) where
  abbrev AllRelated : List (Walked Term) → List (Walked Term) → Type 0
  AllRelated [] [] = Unit {0}
  AllRelated [] (w ∷ ws) = ⊥
  AllRelated (v ∷ vs) [] = ⊥
  AllRelated (v ∷ vs) (w ∷ ws) = R Term v w × AllRelated vs ws

  in_order-related : (vs ws : List (Walked Term)) → AllRelated vs ws → R (List Term) (in_order vs) (in_order ws)
  in_order-related [] [] h = keep.none
  in_order-related [] (w ∷ ws) h = absurd h
  in_order-related (v ∷ vs) [] h = absurd h
  in_order-related (v ∷ vs) (w ∷ ws) h = keep.next v w (in_order vs) (in_order ws) h.0 (in_order-related vs ws h.1)

  rebuilt-related : (op : Op) (r : Row Var Name) (vs ws : List (Walked Term)) → AllRelated vs ws
      → R Term (and_then (in_order vs) (λ es. Ready (Node op (replace_row r es)))) (and_then (in_order ws) (λ es. Ready (Node op (replace_row r es))))
  rebuilt-related op r vs ws h = keep.last op r (in_order vs) (in_order ws) (in_order-related vs ws h)

  node-related : (op : Op) (r : Row Var Name) (f : Form) (vs ws : List (Walked Term)) → AllRelated vs ws → R Term (walk_node p less op r f vs) (walk_node q more op r f ws)
  node-related op r (importing i) vs ws h =
      subst (λ l. R Term (walk_key p less (chained (place p) i)) (walk_key q more (chained l i))) keep.one_place (keep.key (chained (place p) i))
  node-related op r other vs ws h = rebuilt-related op r vs ws h
  node-related op r choosing [] [] h = rebuilt-related op r [] [] h
  node-related op r choosing [] (w ∷ ws) h = absurd h
  node-related op r choosing (v ∷ vs) [] h = absurd h
  node-related op r choosing (v ∷ []) (w ∷ []) h = rebuilt-related op r (v ∷ []) (w ∷ []) h
  node-related op r choosing (v ∷ []) (w ∷ x ∷ ws) h = absurd h.1
  node-related op r choosing (v ∷ u ∷ vs) (w ∷ []) h = absurd h.1
  node-related op r choosing (v ∷ u ∷ []) (w ∷ x ∷ []) h = keep.choice v w u x h.0 h.1.0
  node-related op r choosing (v ∷ u ∷ []) (w ∷ x ∷ y ∷ ws) h = absurd h.1.1
  node-related op r choosing (v ∷ u ∷ t ∷ vs) (w ∷ x ∷ []) h = absurd h.1.1
  node-related op r choosing (v ∷ u ∷ t ∷ vs) (w ∷ x ∷ y ∷ ws) h = rebuilt-related op r (v ∷ u ∷ t ∷ vs) (w ∷ x ∷ y ∷ ws) h

  mutual
    pub walk-related : (e : Term) → R Term (walk p less e) (walk q more e)
    walk-related (Leaf v) = keep.leaf (Leaf v)
    walk-related (Node op r) = node-related op r (form_of op) (walks p less r) (walks q more r) (walks-related r)

    walks-related : (r : Row Var Name) → AllRelated (walks p less r) (walks q more r)
    walks-related end = tt
    walks-related (kid b e r) = (walk-related e, walks-related r)
