-- Two shifts, and a shift of what was substituted into.
use Rattle.std.specs.Prelude.{◌≡◌, ℕ, zero, suc, Bool, true, false, cond, Some, None, refl}
use Rattle.std.proofs.Common.{ap, sym, ◌∙◌}
use Rattle.dh_syntax.specs.Names.Moves.{moved_row}
use Rattle.dh_syntax.specs.Expressions.Numbers.{le, bytes_eq}
use Rattle.dh_syntax.specs.Names.Subst.{is_var, under, shifting, shift_up, subst, subst_row}
use Rattle.dh_syntax.specs.Expressions.Tree.{Row, Leaf, Node, end, kid, Name, Var, Term}
use Rattle.dh_syntax.proofs.Moves.{Agree, moved-agree, moved-then, then}
use Rattle.dh_syntax.proofs.Numbers.{bytes_eq-comm}
use Rattle.dh_laws.proofs.Names.Shifts.{moved_index, same_test, same_test_right, leaf-up, under-shifted}

-- Two shifts.

abbrev up : ℕ → ℕ → ℕ
up m n = moved_index (λ i. suc i) true m n

up-suc : (m n : ℕ) → up (suc m) (suc n) ≡ suc (up m n)
up-suc m n = at (le m n)
  where
    at : (c : Bool) → cond c (suc (suc n)) (suc n) ≡ suc (cond c (suc n) n)
    at true = refl
    at false = refl

-- at `k` and then at `m`, where `k` is at most `m`
up-up : (m k n : ℕ) → le k m ≡ true → up (suc m) (up k n) ≡ up k (up m n)
up-up m zero n h = up-suc m n
up-up zero (suc k) n h = cc
up-up (suc m) (suc k) zero h = refl
up-up (suc m) (suc k) (suc n) h =
    ap (up (suc (suc m))) (up-suc k n) ∙ up-suc (suc m) (up k n) ∙ ap suc (up-up m k n h) ∙ sym (up-suc k (up m n)) ∙ sym (ap (up (suc k)) (up-suc m n))

-- At a leaf: `b` says that it has the name of the second shift, `c` that it has the name of the first, `p` that these are one name.
pair-leaf : (b c p : Bool) (m k n : ℕ) → (b ≡ true → c ≡ p) → (p ≡ true → le k m ≡ true)
    → moved_index (λ i. suc i) b (cond p (suc m) m) (moved_index (λ i. suc i) c k n) ≡ moved_index (λ i. suc i) c k (moved_index (λ i. suc i) b m n)
pair-leaf false c p m k n h l = refl
pair-leaf true c true m k n h l =
    ap (λ (d : Bool). up (suc m) (moved_index (λ i. suc i) d k n)) (h refl)
    ∙ up-up m k n (l refl)
    ∙ sym (ap (λ (d : Bool). moved_index (λ i. suc i) d k (up m n)) (h refl))
pair-leaf true c false m k n h l =
    ap (λ (d : Bool). up m (moved_index (λ i. suc i) d k n)) (h refl) ∙ sym (ap (λ (d : Bool). moved_index (λ i. suc i) d k (up m n)) (h refl))

-- at what the two shifts are, in one order and in the other
record Pair (x y : Name) (s t : ℕ × ℕ) : Type 0 where
  first : s.0 ≡ t.1
  second : s.1 ≡ cond (bytes_eq x y) (suc t.0) t.0
  below : bytes_eq x y ≡ true → le t.1 t.0 ≡ true

cond-under : (p q : Bool) (m : ℕ) → cond q (suc (cond p (suc m) m)) (cond p (suc m) m) ≡ cond p (suc (cond q (suc m) m)) (cond q (suc m) m)
cond-under true true m = refl
cond-under true false m = refl
cond-under false true m = refl
cond-under false false m = refl

le-under : (p q : Bool) (k m : ℕ) → p ≡ q → le k m ≡ true → le (cond p (suc k) k) (cond q (suc m) m) ≡ true
le-under true true k m h l = l
le-under false false k m h l = l
le-under true false k m h l = cc
le-under false true k m h l = cc

pair_agree : (x y : Name) → Agree (then (shifting (λ i. suc i) y) (shifting (λ i. suc i) x)) (then (shifting (λ i. suc i) x) (shifting (λ i. suc i) y)) (Pair x y)
pair_agree x y = record {
  leaf = λ s t v h. ap (λ (i : ℕ). record { name = v.name; index = i })
      (ap (λ (k : ℕ). moved_index (λ i. suc i) (bytes_eq v.name x) s.1 (moved_index (λ i. suc i) (bytes_eq v.name y) k v.index)) h.first
      ∙ ap (λ (m : ℕ). moved_index (λ i. suc i) (bytes_eq v.name x) m (moved_index (λ i. suc i) (bytes_eq v.name y) t.1 v.index)) h.second
      ∙ pair-leaf (bytes_eq v.name x) (bytes_eq v.name y) (bytes_eq x y) t.0 t.1 v.index (same_test v.name x y) h.below);
  binder = λ z. refl;
  enter = λ s t z h. record {
    first = ap (under y z) h.first;
    second = ap (under x z) h.second ∙ cond-under (bytes_eq x y) (bytes_eq z x) t.0;
    below = λ p. le-under (bytes_eq z y) (bytes_eq z x) t.1 t.0 (sym (same_test_right x y z p)) (h.below p);
  };
}

-- Shifting at y from `k` and shifting at x from `m` can be exchanged; where x is y, `k` is at most `m`, and `m` is one more after the other shift.
pub up-exchanged : (x y : Name) (m k : ℕ) (e : Term) → (bytes_eq x y ≡ true → le k m ≡ true)
    → shift_up x (cond (bytes_eq x y) (suc m) m) (shift_up y k e) ≡ shift_up y k (shift_up x m e)
up-exchanged x y m k e h =
    moved-then _ _ k (cond (bytes_eq x y) (suc m) m) e
    ∙ moved-agree (pair_agree x y) (k, cond (bytes_eq x y) (suc m) m) (m, k) e (record { first = refl; second = refl; below = h })
    ∙ sym (moved-then _ _ m k e)

-- A shift of what was substituted into.

up-put_under : (y : Name) (k : ℕ) (z : Name) (a : Term) → shift_up z 0 (shift_up y k a) ≡ shift_up y (under y z k) (shift_up z 0 a)
up-put_under y k z a = sym (up-exchanged y z k 0 a (λ h. refl)) ∙ ap (λ (b : Bool). shift_up y (cond b (suc k) k) (shift_up z 0 a)) (bytes_eq-comm y z)

up-either : (b c : Bool) (y : Name) (k : ℕ) (a : Term) (v : Var) → c ≡ b → shift_up y k (cond b a (Leaf v)) ≡ cond c (shift_up y k a) (shift_up y k (Leaf v))
up-either true true y k a v h = refl
up-either false false y k a v h = refl
up-either true false y k a v h = cc
up-either false true y k a v h = cc

mutual
  -- where x is y, the number of x is one more after the shift if the shift is from a number that is at most it
  pub up-subst : (y : Name) (k : ℕ) (x : Name) (n : ℕ) (a e : Term)
      → shift_up y k (subst x n a e) ≡ subst x (moved_index (λ i. suc i) (bytes_eq x y) k n) (shift_up y k a) (shift_up y k e)
  up-subst y k x n a (Leaf v) =
      up-either (is_var x n v) _ y k a v (leaf-up (bytes_eq v.name x) (bytes_eq v.name y) (bytes_eq x y) k n v.index (same_test v.name x y))
  up-subst y k x n a (Node op r) = ap (Node op) (up-subst_row y k x n a r)

  up-subst_row : (y : Name) (k : ℕ) (x : Name) (n : ℕ) (a : Term) (r : Row Var Name)
      → moved_row (shifting (λ i. suc i) y) k (subst_row x n a r)
      ≡ subst_row x (moved_index (λ i. suc i) (bytes_eq x y) k n) (shift_up y k a) (moved_row (shifting (λ i. suc i) y) k r)
  up-subst_row y k x n a end = refl
  up-subst_row y k x n a (kid None e r) =
      let p = up-subst y k x n a e in
      let q = up-subst_row y k x n a r in
      cc
  up-subst_row y k x n a (kid (Some z) e r) =
      let p = up-subst y (under y z k) x (under x z n) (shift_up z 0 a) e
      ∙ ap (λ (i : ℕ). subst x i (shift_up y (under y z k) (shift_up z 0 a)) (shift_up y (under y z k) e)) (under-shifted y x z k n)
      ∙ ap (λ (b : Term). subst x (under x z (moved_index (λ i. suc i) (bytes_eq x y) k n)) b (shift_up y (under y z k) e)) (sym (up-put_under y k z a)) in
      let q = up-subst_row y k x n a r in
      cc
