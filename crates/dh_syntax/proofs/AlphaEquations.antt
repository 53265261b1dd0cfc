-- The α-normal form by its two equations, and its nesting.
use Rattle.std.specs.Prelude.{◌≡◌, ◌≤◌, ℕ, zero, suc, min, Bool, true, false, cond, Option, Some, None, refl}
use Rattle.std.proofs.Common.{ap, ◌∙◌, arith}
use Rattle.dh_syntax.specs.declared.expressions.Op.{Op}
use Rattle.dh_syntax.specs.Names.Alpha.{blank, renamed, alpha_row, alpha_to, alpha}
use Rattle.dh_syntax.specs.Expressions.Nesting.{nesting, parts_nesting}
use Rattle.dh_syntax.specs.Expressions.Numbers.{bytes_eq}
use Rattle.dh_syntax.specs.Names.Subst.{shift_up, subst, subst_row, is_var, under, reindexed}
use Rattle.dh_syntax.specs.Expressions.Tree.{Row, Leaf, Node, end, kid, Name, Var, Term}
use Rattle.dh_syntax.proofs.Moves.{nesting-moved}

nesting-either : (b : Bool) (v w : Var) → nesting {A = Var} {B = Name} (cond b (Leaf v) (Leaf w)) ≡ 0
nesting-either true v w = refl
nesting-either false v w = refl

mutual
  -- putting a variable for a variable changes no nesting
  pub nesting-subst-Leaf : (x : Name) (n : ℕ) (v : Var) (e : Term) → nesting (subst x n (Leaf v) e) ≡ nesting e
  nesting-subst-Leaf x n v (Leaf w) = nesting-either (is_var x n w) v w
  nesting-subst-Leaf x n v (Node op r) = nesting-subst_row-Leaf x n v r

  pub nesting-subst_row-Leaf : (x : Name) (n : ℕ) (v : Var) (r : Row Var Name) → parts_nesting (subst_row x n (Leaf v) r) ≡ parts_nesting r
  nesting-subst_row-Leaf x n v end = refl
  nesting-subst_row-Leaf x n v (kid None e r) =
      let p = nesting-subst-Leaf x n v e in
      let q = nesting-subst_row-Leaf x n v r in
      cc
  nesting-subst_row-Leaf x n v (kid (Some y) e r) =
      let p = nesting-subst-Leaf x (under x y n) (reindexed (λ k. suc k) y 0 v) e in
      let q = nesting-subst_row-Leaf x n v r in
      cc

nesting-if : (b : Bool) (d e : Term) → nesting e ≡ nesting d → nesting (cond b d e) ≡ nesting d
nesting-if true d e h = refl
nesting-if false d e h = h

pub nesting-renamed : (b : Option Name) (e : Term) → nesting (renamed b e) ≡ nesting e
nesting-renamed None e = refl
nesting-renamed (Some x) e =
    let v : Var = record { name = blank; index = 0 } in
    let up = shift_up blank 0 e in
    nesting-if (bytes_eq x blank) e _ (nesting-moved _ 0 (subst x 0 (Leaf v) up) ∙ nesting-subst-Leaf x 0 v up ∙ nesting-moved _ 0 e)

alpha_row-agree : (f g : Term → Term) (n : ℕ) → ((e : Term) → nesting e ≤ n → f e ≡ g e) → (r : Row Var Name) → parts_nesting r ≤ suc n → alpha_row f r ≡ alpha_row g r
alpha_row-agree f g n h end k = refl
alpha_row-agree f g n h (kid b e r) k =
    let d = nesting-renamed b e in
    let p = h (renamed b e) (omega arith) in
    let q = alpha_row-agree f g n h r (omega arith) in
    cc

-- more fuel than the nesting changes nothing
alpha_to-enough : (m n : ℕ) (e : Term) → nesting e ≤ m → nesting e ≤ n → alpha_to m e ≡ alpha_to n e
alpha_to-enough zero zero e h k = refl
alpha_to-enough zero (suc n) (Leaf v) h k = refl
alpha_to-enough zero (suc n) (Node op end) h k = refl
alpha_to-enough zero (suc n) (Node op (kid b e r)) h k = absurd (omega arith)
alpha_to-enough (suc m) zero (Leaf v) h k = refl
alpha_to-enough (suc m) zero (Node op end) h k = refl
alpha_to-enough (suc m) zero (Node op (kid b e r)) h k = absurd (omega arith)
alpha_to-enough (suc m) (suc n) (Leaf v) h k = refl
alpha_to-enough (suc m) (suc n) (Node op r) h k =
    ap (Node op) (alpha_row-agree (alpha_to m) (alpha_to n) (min m n) (λ e b. alpha_to-enough m n e (omega arith) (omega arith)) r (omega arith))

pub alpha-Leaf : (v : Var) → alpha (Leaf v) ≡ Leaf v
unfolding alpha
alpha-Leaf v = refl

pub alpha-Node : (op : Op) (r : Row Var Name) → alpha (Node op r) ≡ Node op (alpha_row alpha r)
unfolding alpha
alpha-Node op r =
    let n = parts_nesting r in
    alpha_to-enough n (suc n) (Node op r) (omega arith) (omega arith)
    ∙ ap (Node op) (alpha_row-agree (alpha_to n) alpha n (λ e h. alpha_to-enough n (nesting e) e h (omega arith)) r (omega arith))

alpha_row-nesting : (f : Term → Term) → ((e : Term) → nesting (f e) ≡ nesting e) → (r : Row Var Name) → parts_nesting (alpha_row f r) ≡ parts_nesting r
alpha_row-nesting f h end = refl
alpha_row-nesting f h (kid b e r) =
    let p = h (renamed b e) ∙ nesting-renamed b e in
    let q = alpha_row-nesting f h r in
    cc

alpha_to-nesting : (n : ℕ) (e : Term) → nesting (alpha_to n e) ≡ nesting e
alpha_to-nesting zero e = refl
alpha_to-nesting (suc n) (Leaf v) = refl
alpha_to-nesting (suc n) (Node op r) = alpha_row-nesting (alpha_to n) (alpha_to-nesting n) r

pub nesting-alpha : (e : Term) → nesting (alpha e) ≡ nesting e
unfolding alpha
nesting-alpha e = alpha_to-nesting (nesting e) e
