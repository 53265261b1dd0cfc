-- An expression is closed exactly where its nameless form has no free variable.
use Rattle.std.specs.Prelude.{◌≡◌, ◌↔◌, ℕ, zero, suc, Bool, true, false, cond, ◌&&◌, ◌||◌, List, [], ◌∷◌, Option, Some, None, refl}
use Rattle.std.proofs.Common.{ap, sym, ◌∙◌}
use Rattle.dh_syntax.specs.Expressions.Numbers.{eq, bytes_eq}
use Rattle.dh_syntax.specs.Expressions.Tree.{Row, Leaf, Node, end, kid, Name, Var, Term}
use Rattle.dh_imports.specs.Records.{IsClosed}
use Rattle.dh_syntax.specs.Names.Moves.{moved_row}
use Rattle.dh_syntax.specs.Names.Nameless.{Ref, Bound, Free, Core, past, nearest, ref_of, going_nameless, core_below, to_core}
use Rattle.dh_syntax.specs.Names.Subst.{under, is_var, is_free, is_free_row}
use Rattle.dh_syntax.proofs.Numbers.{and-true_left, and-true_right, eq-itself, eq-true, bytes_eq-itself, bytes_eq-true}
use Rattle.dh_work.specs.Inside.Frees.{has_free, has_free_row}

true-not_false : {P : Type 0} → true ≡ false → P
true-not_false h = absurd cc

pub or-left : (a b : Bool) → (a || b) ≡ false → a ≡ false
or-left false b h = refl
or-left true b h = h

pub or-right : (a b : Bool) → (a || b) ≡ false → b ≡ false
or-right false b h = h
or-right true b h = true-not_false h

pub neither : (a b : Bool) → a ≡ false → b ≡ false → (a || b) ≡ false
neither false b p q = q
neither true b p q = true-not_false p

bound-free : {P : Type 0} (i n : ℕ) (x : Name) → Bound i ≡ Free x n → P
bound-free i n x h = absurd cc

-- no binder above binds the variable
abbrev IsOutside : List Name → Name → ℕ → Type 0
IsOutside ys x n = (y : Name) × (m : ℕ) × (ref_of ys x n ≡ Free y m)

-- ---- what has no free variable is closed

outside-below : (ys : List Name) (x : Name) (n : ℕ) (z : Name) → IsOutside ys x n → IsOutside (z ∷ ys) x (under x z n)
outside-below ys x n z (y, m, h) = (y, m, at (bytes_eq z x))
  where
    at : (b : Bool) → nearest b (ref_of ys x) (cond b (suc n) n) ≡ Free y m
    at true = ap past h
    at false = ap past h

-- a free variable is a leaf of the nameless form
leaf-free : (ys : List Name) (x : Name) (n : ℕ) (v : Var) → IsOutside ys x n → is_var x n v ≡ true → has_free (Leaf (ref_of ys v.name v.index)) ≡ true
leaf-free ys x n v (y, m, h) p =
    let names = bytes_eq-true v.name x (and-true_left (bytes_eq v.name x) (eq v.index n) p) in
    let indices = eq-true v.index n (and-true_right (bytes_eq v.name x) (eq v.index n) p) in
    ap (λ (r : Ref). has_free (Leaf r)) (ap (λ (w : Name). ref_of ys w v.index) names ∙ ap (ref_of ys x) indices ∙ h)

mutual
  not_free : (ys : List Name) (x : Name) (n : ℕ) → IsOutside ys x n → (e : Term) → has_free (core_below ys e) ≡ false → is_free x n e ≡ false
  not_free ys x n o (Leaf v) h = at (is_var x n v) refl
    where
      at : (b : Bool) → is_var x n v ≡ b → b ≡ false
      at false p = refl
      at true p = true-not_false (sym (leaf-free ys x n v o p) ∙ h)
  not_free ys x n o (Node op r) h = not_free_row ys x n o r h

  not_free_row : (ys : List Name) (x : Name) (n : ℕ) → IsOutside ys x n → (r : Row Var Name) → has_free_row (moved_row going_nameless ys r) ≡ false → is_free_row x n r ≡ false
  not_free_row ys x n o end h = refl
  not_free_row ys x n o (kid None e r) h =
      neither (is_free x n e) (is_free_row x n r)
      (not_free ys x n o e (or-left (has_free (core_below ys e)) (has_free_row (moved_row going_nameless ys r)) h))
      (not_free_row ys x n o r (or-right (has_free (core_below ys e)) (has_free_row (moved_row going_nameless ys r)) h))
  not_free_row ys x n o (kid (Some z) e r) h =
      neither (is_free x (under x z n) e) (is_free_row x n r)
      (not_free (z ∷ ys) x (under x z n) (outside-below ys x n z o) e (or-left (has_free (core_below (z ∷ ys) e)) (has_free_row (moved_row going_nameless ys r)) h))
      (not_free_row ys x n o r (or-right (has_free (core_below (z ∷ ys) e)) (has_free_row (moved_row going_nameless ys r)) h))

-- ---- and what is closed has none

-- no variable that is not bound above is free
abbrev IsBoundBy : List Name → Term → Type 0
IsBoundBy ys e = (x : Name) (n : ℕ) → IsOutside ys x n → is_free x n e ≡ false

abbrev IsRowBoundBy : List Name → Row Var Name → Type 0
IsRowBoundBy ys r = (x : Name) (n : ℕ) → IsOutside ys x n → is_free_row x n r ≡ false

-- a variable that is not bound below one more binder is what some variable outside of it is there
past-free : (r : Ref) (y : Name) (m : ℕ) → past r ≡ Free y m → r ≡ Free y m
past-free (Bound i) y m h = bound-free (suc i) m y h
past-free (Free x n) y m h = h

abbrev IsUnder : List Name → Name → Name → ℕ → Type 0
IsUnder ys z x n = (k : ℕ) × IsOutside ys x k × (under x z k ≡ n)

outside-above : (ys : List Name) (z x : Name) (n : ℕ) → IsOutside (z ∷ ys) x n → IsUnder ys z x n
outside-above ys z x n (y, m, h) = at (bytes_eq z x) refl n h
  where
    at : (b : Bool) → bytes_eq z x ≡ b → (n : ℕ) → nearest b (ref_of ys x) n ≡ Free y m → IsUnder ys z x n
    at false p n h = (n, (y, m, past-free (ref_of ys x n) y m h), ap (λ b. cond b (suc n) n) p)
    at true p zero h = bound-free 0 m y h
    at true p (suc n) h = (n, (y, m, past-free (ref_of ys x n) y m h), ap (λ b. cond b (suc n) n) p)

bound-below : (ys : List Name) (z : Name) (e : Term) (r : Row Var Name) → IsRowBoundBy ys (kid (Some z) e r) → IsBoundBy (z ∷ ys) e
bound-below ys z e r k x n o =
    let (m, p, q) = outside-above ys z x n o in
    sym (ap (λ (i : ℕ). is_free x i e) q) ∙ or-left (is_free x (under x z m) e) (is_free_row x m r) (k x m p)

bound-beside : (ys : List Name) (e : Term) (r : Row Var Name) → IsRowBoundBy ys (kid None e r) → IsBoundBy ys e
bound-beside ys e r k x n o = or-left (is_free x n e) (is_free_row x n r) (k x n o)

bound-rest : (ys : List Name) (b : Option Name) (e : Term) (r : Row Var Name) → IsRowBoundBy ys (kid b e r) → IsRowBoundBy ys r
bound-rest ys None e r k x n o = or-right (is_free x n e) (is_free_row x n r) (k x n o)
bound-rest ys (Some z) e r k x n o = or-right (is_free x (under x z n) e) (is_free_row x n r) (k x n o)

itself-free : (v : Var) → is_var v.name v.index v ≡ true
itself-free v = let p = bytes_eq-itself v.name in let q = eq-itself v.index in rw (p, q) refl

mutual
  none_free : (ys : List Name) (e : Term) → IsBoundBy ys e → has_free (core_below ys e) ≡ false
  none_free ys (Leaf v) k = at (ref_of ys v.name v.index) refl
    where
      at : (r : Ref) → ref_of ys v.name v.index ≡ r → has_free (Leaf r) ≡ false
      at (Bound i) p = refl
      at (Free y m) p = true-not_false (sym (itself-free v) ∙ k v.name v.index (y, m, p))
  none_free ys (Node op r) k = none_free_row ys r k

  none_free_row : (ys : List Name) (r : Row Var Name) → IsRowBoundBy ys r → has_free_row (moved_row going_nameless ys r) ≡ false
  none_free_row ys end k = refl
  none_free_row ys (kid None e r) k =
      neither (has_free (core_below ys e)) (has_free_row (moved_row going_nameless ys r))
      (none_free ys e (bound-beside ys e r k)) (none_free_row ys r (bound-rest ys None e r k))
  none_free_row ys (kid (Some z) e r) k =
      neither (has_free (core_below (z ∷ ys) e)) (has_free_row (moved_row going_nameless ys r))
      (none_free (z ∷ ys) e (bound-below ys z e r k)) (none_free_row ys r (bound-rest ys (Some z) e r k))

pub closed_by_core : (e : Term) → (has_free (to_core e) ≡ false) ↔ IsClosed e
closed_by_core e = (λ h x n. not_free [] x n (x, n, refl) e h, λ k. none_free [] e (λ x n o. k x n))
