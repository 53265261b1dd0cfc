-- Expressions without free variables: how far their indices reach.
use Rattle.std.specs.Prelude.{◌≡◌, ◌⊎◌, ◌≤◌, ◌<◌, ◌+◌, ◌-◌, ◌^◌, ◌||◌, ◌&&◌, ℕ, suc, Bool, true, false, cond, List, [], Option, Some, None, refl}
use Rattle.std.proofs.Common.{ap, sym, ◌∙◌, subst, arith, inl, inr}
use Rattle.dh_syntax.specs.Expressions.Nesting.{nesting}
use Rattle.dh_syntax.specs.Expressions.Numbers.{bytes_eq, eq}
use Rattle.dh_syntax.specs.Expressions.Tree.{Row, Leaf, Node, end, kid, Name, Var, Term}
use Rattle.dh_imports.specs.Records.{IsClosed}
use Rattle.dh_syntax.specs.Names.Indices.{IndicesBelow, RowIndicesBelow, count, with_binder, FreeIndicesBelow, RowFreeIndicesBelow}
use Rattle.dh_syntax.specs.Names.Subst.{index_under, is_free, is_free_row}
use Rattle.dh_syntax.proofs.Numbers.{bytes_eq-itself, eq-itself}
use Rattle.dh_laws.proofs.KeyOrder.{true_false}
use Rattle.dh_laws.proofs.Names.FreeIndices.{free-indices}
use Rattle.dh_record.specs.Values.{IsValue}

mutual
  pub indices_more : (l k : ℕ) (e : Term) → l ≤ k → IndicesBelow l e → IndicesBelow k e
  indices_more l k (Leaf v) m h = omega arith
  indices_more l k (Node op r) m h = indices_more_row l k r m h

  indices_more_row : (l k : ℕ) (r : Row Var Name) → l ≤ k → RowIndicesBelow l r → RowIndicesBelow k r
  indices_more_row l k end m h = tt
  indices_more_row l k (kid b e r) m h = (indices_more l k e m h.0, indices_more_row l k r m h.1)

-- no variable of these binders' names and of a number past theirs is free
abbrev ClosedUnder : List Name → Term → Type 0
ClosedUnder ys e = (x : Name) (n : ℕ) → is_free x (count x ys + n) e ≡ false

or-first : (a b : Bool) → (a || b) ≡ false → a ≡ false
or-first false b h = refl
or-first true b h = h

or-second : (a b : Bool) → (a || b) ≡ false → b ≡ false
or-second false b h = h
or-second true b h = cc

under_sum : (b : Bool) (m n : ℕ) → cond b (suc m) m + n ≡ cond b (suc (m + n)) (m + n)
under_sum true m n = omega arith
under_sum false m n = refl

index_sum : (x : Name) (b : Option Name) (ys : List Name) (n : ℕ) → count x (with_binder b ys) + n ≡ index_under x (count x ys + n) b
index_sum x None ys n = refl
index_sum x (Some y) ys n = under_sum (bytes_eq y x) (count x ys) n

leaf_below : (ys : List Name) (v : Var) → ClosedUnder ys (Leaf v) → v.index < count v.name ys + 0
leaf_below ys v f = go (lower v.index (count v.name ys))
  where
    lower : (i c : ℕ) → (i < c) ⊎ (i ≡ c + (i - c))
    lower i c = grind arith

    go : (v.index < count v.name ys) ⊎ (v.index ≡ count v.name ys + (v.index - count v.name ys)) → v.index < count v.name ys + 0
    go (inl l) = omega arith
    go (inr p) =
        let free : is_free v.name v.index (Leaf v) ≡ true = both (bytes_eq v.name v.name) (eq v.index v.index) (bytes_eq-itself v.name) (eq-itself v.index) in
        true_false free (subst (λ (n : ℕ). is_free v.name n (Leaf v) ≡ false) (sym p) (f v.name (v.index - count v.name ys)))
      where
        both : (a b : Bool) → a ≡ true → b ≡ true → (a && b) ≡ true
        both a b p q = rw (p, q) refl

mutual
  below_under : (ys : List Name) (e : Term) → ClosedUnder ys e → FreeIndicesBelow 0 ys e
  below_under ys (Leaf v) f = leaf_below ys v f
  below_under ys (Node op r) f = below_row ys r f

  below_row : (ys : List Name) (r : Row Var Name) → ((x : Name) (n : ℕ) → is_free_row x (count x ys + n) r ≡ false) → RowFreeIndicesBelow 0 ys r
  below_row ys end f = tt
  below_row ys (kid b e r) f = (
    below_under (with_binder b ys) e
        (λ x n. ap (λ (m : ℕ). is_free x m e) (index_sum x b ys n) ∙ or-first (is_free x (index_under x (count x ys + n) b) e) (is_free_row x (count x ys + n) r) (f x n)),
    below_row ys r (λ x n. or-second (is_free x (index_under x (count x ys + n) b) e) (is_free_row x (count x ys + n) r) (f x n)),
  )

pub closed_below : (e : Term) → IsClosed e → FreeIndicesBelow 0 [] e
closed_below e f = below_under [] e (λ x n. f x (0 + n))

-- the indices of a value fit
pub value_indices : (e : Term) → IsValue e → IndicesBelow (2 ^ 31) e
value_indices e v = indices_more (nesting e + 0) (2 ^ 31) e (let s = v.shallow in omega arith) (free-indices 0 e (closed_below e v.closed))
