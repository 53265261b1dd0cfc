-- A variable is free in an expression exactly where it occurs in the nameless form, and so in the α-normal form.
use Rattle.std.specs.Prelude.{◌≡◌, ℕ, zero, suc, Bool, true, false, cond, ◌&&◌, ◌||◌, List, ◌∷◌, Option, Some, None, refl}
use Rattle.std.proofs.Common.{ap, sym, ◌∙◌}
use Rattle.dh_syntax.specs.Names.Alpha.{blank, renamed, alpha_row, alpha_to, alpha}
use Rattle.dh_syntax.specs.Names.Moves.{moved_row}
use Rattle.dh_syntax.specs.Names.Nameless.{Ref, Bound, Free, past, nearest, ref_of, going_nameless, core_below, Core}
use Rattle.dh_syntax.specs.Expressions.Nesting.{nesting}
use Rattle.dh_syntax.specs.Expressions.Numbers.{eq, bytes_eq}
use Rattle.dh_syntax.specs.Names.Subst.{under, is_free, is_free_row}
use Rattle.dh_syntax.specs.Expressions.Tree.{Row, Leaf, Node, end, kid, Name, Var, Term}
use Rattle.dh_syntax.proofs.Numbers.{and-true_left, and-true_right, eq-itself, eq-true, bytes_eq-true}
use Rattle.dh_laws.proofs.Names.AlphaForms.{core-renamed}
use Rattle.dh_laws.proofs.Names.FreeShifts.{not_this, binding_all, ref_of-binding_all}

abbrev is_ref : ℕ → Ref → Bool
is_ref k (Bound i) = eq i k
is_ref k (Free w n) = false

abbrev below_binder : Option Name → ℕ → ℕ
below_binder None k = k
below_binder (Some z) k = suc k

abbrev mutual
  -- whether the variable of the binder so many above occurs
  occurs : ℕ → Core → Bool
  occurs k (Leaf r) = is_ref k r
  occurs k (Node op r) = occurs_row k r

  occurs_row : ℕ → Row Ref Name → Bool
  occurs_row k end = false
  occurs_row k (kid b e r) = occurs (below_binder b k) e || occurs_row k r

is_var-is_ref : (ys : List Name) (x : Name) (n k : ℕ) → ref_of ys x n ≡ Bound k → (w : Name) (j : ℕ) → (bytes_eq w x && eq j n) ≡ is_ref k (ref_of ys w j)
is_var-is_ref ys x n k h w j = at (bytes_eq w x && eq j n) refl (ref_of ys w j) refl
  where
    at : (b : Bool) → (bytes_eq w x && eq j n) ≡ b → (r : Ref) → ref_of ys w j ≡ r → b ≡ is_ref k r
    at true p r q =
        let names = bytes_eq-true w x (and-true_left (bytes_eq w x) (eq j n) p) in
        let indices = eq-true j n (and-true_right (bytes_eq w x) (eq j n) p) in
        let s : r ≡ Bound k = sym q ∙ ap (λ (y : Name). ref_of ys y j) names ∙ ap (ref_of ys x) indices ∙ h in
        sym (ap (is_ref k) s ∙ eq-itself k)
    at false p (Bound i) q = sym (not_this ys x w n j k i h q p)
    at false p (Free y i) q = refl

pub ref_of-below : (ys : List Name) (x : Name) (n k : ℕ) (z : Name) → ref_of ys x n ≡ Bound k → ref_of (z ∷ ys) x (under x z n) ≡ Bound (suc k)
ref_of-below ys x n k z h = at (bytes_eq z x) ∙ ap past h
  where
    at : (b : Bool) → nearest b (ref_of ys x) (cond b (suc n) n) ≡ past (ref_of ys x n)
    at true = refl
    at false = refl

mutual
  is_free-occurs : (ys : List Name) (x : Name) (n k : ℕ) → ref_of ys x n ≡ Bound k → (e : Term) → is_free x n e ≡ occurs k (core_below ys e)
  is_free-occurs ys x n k h (Leaf v) = is_var-is_ref ys x n k h v.name v.index
  is_free-occurs ys x n k h (Node op r) = is_free_row-occurs ys x n k h r

  is_free_row-occurs : (ys : List Name) (x : Name) (n k : ℕ) → ref_of ys x n ≡ Bound k
      → (r : Row Var Name) → is_free_row x n r ≡ occurs_row k (moved_row going_nameless ys r)
  is_free_row-occurs ys x n k h end = refl
  is_free_row-occurs ys x n k h (kid None e r) =
      let p = is_free-occurs ys x n k h e in
      let q = is_free_row-occurs ys x n k h r in
      cc
  is_free_row-occurs ys x n k h (kid (Some z) e r) =
      let p = is_free-occurs (z ∷ ys) x (under x z n) (suc k) (ref_of-below ys x n k z h) e in
      let q = is_free_row-occurs ys x n k h r in
      cc

is_free-renamed : (x : Name) (n : ℕ) (z : Name) (e : Term) → is_free x (under x blank n) (renamed (Some z) e) ≡ is_free x (under x z n) e
is_free-renamed x n z e =
    let ys = binding_all x n in
    let h = ref_of-binding_all x n in
    is_free-occurs (blank ∷ ys) x (under x blank n) (suc n) (ref_of-below ys x n n blank h) (renamed (Some z) e)
    ∙ ap (occurs (suc n)) (core-renamed z ys e)
    ∙ sym (is_free-occurs (z ∷ ys) x (under x z n) (suc n) (ref_of-below ys x n n z h) e)

is_free_row-alpha : (f : Term → Term) (x : Name) → ((n : ℕ) (e : Term) → is_free x n (f e) ≡ is_free x n e)
    → (n : ℕ) (r : Row Var Name) → is_free_row x n (alpha_row f r) ≡ is_free_row x n r
is_free_row-alpha f x h n end = refl
is_free_row-alpha f x h n (kid None e r) =
    let p = h n e in
    let q = is_free_row-alpha f x h n r in
    cc
is_free_row-alpha f x h n (kid (Some z) e r) =
    let p = h (under x blank n) (renamed (Some z) e) ∙ is_free-renamed x n z e in
    let q = is_free_row-alpha f x h n r in
    cc

is_free-alpha_to : (k : ℕ) (x : Name) (n : ℕ) (e : Term) → is_free x n (alpha_to k e) ≡ is_free x n e
is_free-alpha_to zero x n e = refl
is_free-alpha_to (suc k) x n (Leaf v) = refl
is_free-alpha_to (suc k) x n (Node op r) = is_free_row-alpha (alpha_to k) x (is_free-alpha_to k x) n r

pub is_free-alpha : (x : Name) (n : ℕ) (e : Term) → is_free x n (alpha e) ≡ is_free x n e
unfolding alpha
is_free-alpha x n e = is_free-alpha_to (nesting e) x n e
