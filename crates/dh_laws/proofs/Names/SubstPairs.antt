-- Two substitutions, and substitution of same for same.
use Rattle.std.specs.Prelude.{◌≡◌, ℕ, suc, Bool, true, false, cond, ◌&&◌, Option, Some, None, refl}
use Rattle.std.proofs.Common.{ap, sym, ◌∙◌}
use Rattle.dh_syntax.specs.Expressions.Numbers.{eq, bytes_eq}
use Rattle.dh_syntax.specs.Names.Subst.{is_var, index_under, shift_up, put_under, subst, subst_row, is_free}
use Rattle.dh_syntax.specs.Expressions.Tree.{Row, Leaf, Node, end, kid, Name, Var, Term}
use Rattle.dh_syntax.proofs.Numbers.{and-true_left, and-true_right, eq-true, bytes_eq-true, bytes_eq-comm}
use Rattle.dh_laws.proofs.Names.ShiftPairs.{up-subst}
use Rattle.dh_laws.proofs.Names.Shifts.{same_test_right, subst-not_free, not_free-put_under}

-- two variables are two below a binder
apart-under : (b p q : Bool) (n k : ℕ) → (b ≡ true → p ≡ q) → (b && eq n k) ≡ false → (b && eq (cond p (suc n) n) (cond q (suc k) k)) ≡ false
apart-under false p q n k h l = refl
apart-under true p q n k h l = ap (λ (r : Bool). eq (cond p (suc n) n) (cond r (suc k) k)) (sym (h refl)) ∙ at p
  where
    at : (p : Bool) → eq (cond p (suc n) n) (cond p (suc k) k) ≡ false
    at true = l
    at false = l

subst-put_under : (x : Name) (n : ℕ) (a : Term) (z : Option Name) (b : Term)
    → subst x (index_under x n z) (put_under z a) (put_under z b) ≡ put_under z (subst x n a b)
subst-put_under x n a None b = refl
subst-put_under x n a (Some z) b =
    ap (λ (i : ℕ). subst x i (shift_up z 0 a) (shift_up z 0 b)) (ap (λ (c : Bool). cond c (suc n) n) (bytes_eq-comm z x) ∙ at (bytes_eq x z))
    ∙ sym (up-subst z 0 x n a b)
  where
    at : (c : Bool) → cond c (suc n) n ≡ cond (c && true) (suc n) n
    at true = refl
    at false = refl

apart-below : (x : Name) (n : ℕ) (y : Name) (k : ℕ) (z : Option Name) → (bytes_eq x y && eq n k) ≡ false → (bytes_eq x y && eq (index_under x n z) (index_under y k z)) ≡ false
apart-below x n y k None h = h
apart-below x n y k (Some z) h = apart-under (bytes_eq x y) (bytes_eq z x) (bytes_eq z y) n k (same_test_right x y z) h

-- no leaf is both variables
not_both : (x : Name) (n : ℕ) (y : Name) (k : ℕ) (v : Var) → (bytes_eq x y && eq n k) ≡ false → is_var x n v ≡ true → is_var y k v ≡ false
not_both x n y k v h p =
    let names = bytes_eq-true v.name x (and-true_left (bytes_eq v.name x) (eq v.index n) p) in
    let indices = eq-true v.index n (and-true_right (bytes_eq v.name x) (eq v.index n) p) in
    ap (λ (w : Name). bytes_eq w y && eq v.index k) names ∙ ap (λ (i : ℕ). bytes_eq x y && eq i k) indices ∙ h

pair-leaf : (x : Name) (n : ℕ) (a : Term) (y : Name) (k : ℕ) (b : Term) (v : Var) → (bytes_eq x y && eq n k) ≡ false → is_free y k a ≡ false
    → subst x n a (cond (is_var y k v) b (Leaf v)) ≡ subst y k (subst x n a b) (cond (is_var x n v) a (Leaf v))
pair-leaf x n a y k b v h l = at (is_var x n v) (is_var y k v) refl refl
  where
    at : (c d : Bool) → is_var x n v ≡ c → is_var y k v ≡ d → subst x n a (cond d b (Leaf v)) ≡ subst y k (subst x n a b) (cond c a (Leaf v))
    at true true p q = let r = not_both x n y k v h p in cc
    at true false p q = ap (λ (c : Bool). cond c a (Leaf v)) p ∙ sym (subst-not_free y k (subst x n a b) a l)
    at false true p q = sym (ap (λ (c : Bool). cond c (subst x n a b) (Leaf v)) q)
    at false false p q = ap (λ (c : Bool). cond c a (Leaf v)) p ∙ sym (ap (λ (c : Bool). cond c (subst x n a b) (Leaf v)) q)

mutual
  -- substitutions for two variables can be exchanged, where the second variable is not free in what is put for the first
  pub subst-subst : (x : Name) (n : ℕ) (a : Term) (y : Name) (k : ℕ) (b : Term) → (bytes_eq x y && eq n k) ≡ false → is_free y k a ≡ false
      → (e : Term) → subst x n a (subst y k b e) ≡ subst y k (subst x n a b) (subst x n a e)
  subst-subst x n a y k b h l (Leaf v) = pair-leaf x n a y k b v h l
  subst-subst x n a y k b h l (Node op r) = ap (Node op) (subst_row-subst_row x n a y k b h l r)

  subst_row-subst_row : (x : Name) (n : ℕ) (a : Term) (y : Name) (k : ℕ) (b : Term) → (bytes_eq x y && eq n k) ≡ false → is_free y k a ≡ false
      → (r : Row Var Name) → subst_row x n a (subst_row y k b r) ≡ subst_row y k (subst x n a b) (subst_row x n a r)
  subst_row-subst_row x n a y k b h l end = refl
  subst_row-subst_row x n a y k b h l (kid z e r) =
      let n' = index_under x n z in
      let k' = index_under y k z in
      let p = subst-subst x n' (put_under z a) y k' (put_under z b) (apart-below x n y k z h) (not_free-put_under y k z a l) e
      ∙ ap (λ (c : Term). subst y k' c (subst x n' (put_under z a) e)) (subst-put_under x n a z b) in
      let q = subst_row-subst_row x n a y k b h l r in
      cc
