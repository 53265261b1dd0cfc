-- What holds of the parts of a node holds of each of them.
use Rattle.std.specs.Prelude.{◌≡◌, ◌↔◌, ◌<◌, ◌≤◌, ◌+◌, ℕ, zero, suc, List, [], ◌∷◌, length, drop}
use Rattle.std.proofs.Common.{sym, ◌∙◌, ap, arith, get_or, subst as along}
use Rattle.dh_syntax.specs.declared.expressions.Expr.{Expr}
use Rattle.dh_syntax.specs.declared.expressions.Expr.TheVariants as expr
use Rattle.dh_syntax.specs.declared.expressions.Kid.{Kid}
use Rattle.dh_syntax.specs.declared.expressions.Op.{Op}
use Rattle.dh_syntax.specs.Expressions.Bridge.{term, row_of}
use Rattle.dh_syntax.specs.Names.Indices.{IndicesBelow, RowIndicesBelow}
use Rattle.dh_syntax.specs.Expressions.Nesting.{nesting, parts_nesting}
use Rattle.dh_syntax.specs.Expressions.Tree.{Row, Leaf, Node, end, kid, Name, Var, Term}
use Rattle.dh_syntax.proofs.Bridge.{term-Var, term-Node}
use Rattle.dh_syntax.proofs.Rows.{row_of-drop_item, row_of-drop_all}

pub indices_of_item : (l : ℕ) (ks : List Kid) (i : ℕ) (k : Kid) → i < length ks → k ≡ get_or ks i k → RowIndicesBelow l (row_of ks) → IndicesBelow l (term k.body)
unfolding row_of
indices_of_item l [] i k h e b = absurd (omega arith)
indices_of_item l (j ∷ ks) zero k h e b = along (λ (k : Kid). IndicesBelow l (term k.body)) (sym e) b.0
indices_of_item l (j ∷ ks) (suc i) k h e b = indices_of_item l ks i k (omega arith) e b.1

pub nesting_of_item : (ks : List Kid) (i : ℕ) (k : Kid) → i < length ks → k ≡ get_or ks i k → nesting (term k.body) < parts_nesting (row_of ks)
unfolding row_of
nesting_of_item [] i k h e = absurd (omega arith)
nesting_of_item (j ∷ ks) zero k h e =
    let p = ap (λ (k : Kid). nesting (term k.body)) e in
    omega arith
nesting_of_item (j ∷ ks) (suc i) k h e =
    let p = nesting_of_item ks i k (omega arith) e in
    omega arith

-- The indices of a variable and of a node.
pub indices-Var : (l : ℕ) (e : Expr) (y : Name) (i : ℕ) → e ≡ expr.Var y i → IndicesBelow l (term e) → i < l
indices-Var l e y i is h = along (IndicesBelow l) (ap term is ∙ term-Var y i) h

pub indices-Node : (l : ℕ) (e : Expr) (op : Op) (ks : List Kid) → e ≡ expr.Node op ks → IndicesBelow l (term e) → RowIndicesBelow l (row_of ks)
indices-Node l e op ks is h = along (IndicesBelow l) (ap term is ∙ term-Node op ks) h

-- The same limit or a greater one.
mutual
  pub indices-more : (l m : ℕ) (e : Term) → l ≤ m → IndicesBelow l e → IndicesBelow m e
  indices-more l m (Leaf v) h b = omega arith
  indices-more l m (Node op r) h b = row_indices-more l m r h b

  pub row_indices-more : (l m : ℕ) (r : Row Var Name) → l ≤ m → RowIndicesBelow l r → RowIndicesBelow m r
  row_indices-more l m end h b = tt
  row_indices-more l m (kid c e r) h b = (indices-more l m e h b.0, row_indices-more l m r h b.1)

pub nesting_of_node : (e : Expr) (op : Op) (ks : List Kid) → e ≡ expr.Node op ks → nesting (term e) ≡ parts_nesting (row_of ks)
nesting_of_node e op ks is = ap (λ d. nesting (term d)) is ∙ ap nesting (term-Node op ks)

-- A test of each kid in turn.
pub room_keeps : (l : ℕ) (ks : List Kid) (i : ℕ) (k : Kid) (P : Type 0) → i < length ks → k ≡ get_or ks i k → IndicesBelow l (term k.body) →
    (RowIndicesBelow l (row_of (drop i ks)) ↔ P) → RowIndicesBelow l (row_of (drop (i + 1) ks)) ↔ P
room_keeps l ks i k P h e good so_far =
    let at = along (λ r. RowIndicesBelow l r ↔ P) (row_of-drop_item ks i k h e) so_far in
    (λ rest. at.0 (good, rest), λ p. (at.1 p).1)

pub room_stops : (l : ℕ) (ks : List Kid) (i : ℕ) (k : Kid) (P : Type 0) → i < length ks → k ≡ get_or ks i k → (IndicesBelow l (term k.body) → ⊥) →
    (RowIndicesBelow l (row_of (drop i ks)) ↔ P) → P → ⊥
room_stops l ks i k P h e bad so_far p = bad ((along (λ r. RowIndicesBelow l r ↔ P) (row_of-drop_item ks i k h e) so_far).1 p).0

pub room_ends : (l : ℕ) (ks : List Kid) (i : ℕ) (P : Type 0) → length ks ≤ i → (RowIndicesBelow l (row_of (drop i ks)) ↔ P) → P
room_ends l ks i P h so_far = (along (λ r. RowIndicesBelow l r ↔ P) (row_of-drop_all ks i h) so_far).0 tt

pub indices_iff-Var : (l : ℕ) (e : Expr) (y : Name) (i : ℕ) → e ≡ expr.Var y i → (i < l) ↔ IndicesBelow l (term e)
indices_iff-Var l e y i is = (λ h. along (IndicesBelow l) (sym (ap term is ∙ term-Var y i)) h, λ h. indices-Var l e y i is h)

pub indices_iff-Node : (l : ℕ) (e : Expr) (op : Op) (ks : List Kid) → e ≡ expr.Node op ks → RowIndicesBelow l (row_of ks) ↔ IndicesBelow l (term e)
indices_iff-Node l e op ks is = (λ h. along (IndicesBelow l) (sym (ap term is ∙ term-Node op ks)) h, λ h. indices-Node l e op ks is h)
