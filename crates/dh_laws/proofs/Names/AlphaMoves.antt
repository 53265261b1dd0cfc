-- The α-normal form of what was shifted or substituted into.
use Rattle.std.specs.Prelude.{◌≡◌, ◌≤◌, ℕ, zero, suc, Bool, true, false, cond, [], ◌∷◌, Some, None, refl}
use Rattle.std.proofs.Common.{ap, sym, ◌∙◌, arith}
use Rattle.dh_syntax.specs.declared.expressions.Op.{Op}
use Rattle.dh_syntax.specs.Names.Alpha.{blank, renamed, alpha_row, alpha_to, alpha}
use Rattle.dh_syntax.specs.Names.Moves.{moved, moved_row}
use Rattle.dh_syntax.specs.Names.Nameless.{core_below, raised, sub, at_place}
use Rattle.dh_syntax.specs.Expressions.Nesting.{nesting, parts_nesting}
use Rattle.dh_syntax.specs.Names.Subst.{under, is_var, shifting, shift_up, shift_down, subst, subst_row, is_free}
use Rattle.dh_syntax.specs.Expressions.Tree.{Row, Leaf, Node, end, kid, Name, Var, Term}
use Rattle.dh_syntax.proofs.AlphaEquations.{alpha-Leaf, alpha-Node, nesting-renamed}
use Rattle.dh_syntax.proofs.Moves.{nesting-moved}
use Rattle.dh_laws.proofs.Names.AlphaForms.{core-renamed}
use Rattle.dh_laws.proofs.Names.Cores.{core-subst, core_below-one_to_one, substituted-below}
use Rattle.dh_laws.proofs.Names.FreeShifts.{shifting_free, free_shift-nowhere, free_shift-below, core-free_shift, at_place-substitutes, binding_all, ref_of-binding_all}
use Rattle.dh_laws.proofs.Names.Shifts.{down-up, up-down}

-- Shifting and then renaming a binder to `_`.
renamed-shift_up : (x : Name) (m : ℕ) (z : Name) (e : Term) → renamed (Some z) (shift_up x (under x z m) e) ≡ shift_up x (under x blank m) (renamed (Some z) e)
renamed-shift_up x m z e =
    core_below-one_to_one (blank ∷ []) _ _
    (core-renamed z [] (shift_up x (under x z m) e)
    ∙ core-free_shift x m (under x z m) (z ∷ []) (free_shift-below x m m [] z (free_shift-nowhere x m)) e
    ∙ ap (moved (shifting_free x m) tt) (sym (core-renamed z [] e))
    ∙ sym (core-free_shift x m (under x blank m) (blank ∷ []) (free_shift-below x m m [] blank (free_shift-nowhere x m)) (renamed (Some z) e)))

alpha_row-shift_up : (f : Term → Term) (x : Name) → ((m : ℕ) (e : Term) → f (shift_up x m e) ≡ shift_up x m (f e))
    → (m : ℕ) (r : Row Var Name) → alpha_row f (moved_row (shifting (λ k. suc k) x) m r) ≡ moved_row (shifting (λ k. suc k) x) m (alpha_row f r)
alpha_row-shift_up f x h m end = refl
alpha_row-shift_up f x h m (kid None e r) =
    let p = h m e in
    let q = alpha_row-shift_up f x h m r in
    cc
alpha_row-shift_up f x h m (kid (Some z) e r) =
    let p = ap f (renamed-shift_up x m z e) ∙ h (under x blank m) (renamed (Some z) e) in
    let q = alpha_row-shift_up f x h m r in
    cc

alpha_to-shift_up : (n : ℕ) (x : Name) (m : ℕ) (e : Term) → alpha_to n (shift_up x m e) ≡ shift_up x m (alpha_to n e)
alpha_to-shift_up zero x m e = refl
alpha_to-shift_up (suc n) x m (Leaf v) = refl
alpha_to-shift_up (suc n) x m (Node op r) = ap (Node op) (alpha_row-shift_up (alpha_to n) x (alpha_to-shift_up n x) m r)

pub alpha-shift_up : (x : Name) (m : ℕ) (e : Term) → alpha (shift_up x m e) ≡ shift_up x m (alpha e)
unfolding alpha
alpha-shift_up x m e = ap (λ (n : ℕ). alpha_to n (shift_up x m e)) (nesting-moved _ m e) ∙ alpha_to-shift_up (nesting e) x m e

pub alpha-shift_down : (x : Name) (m : ℕ) (e : Term) → is_free x m e ≡ false → alpha (shift_down x m e) ≡ shift_down x m (alpha e)
alpha-shift_down x m e h =
    sym (down-up x m (alpha (shift_down x m e)))
    ∙ ap (shift_down x m) (sym (alpha-shift_up x m (shift_down x m e)) ∙ ap alpha (up-down x m e h))

-- Substituting and then renaming a binder to `_`.
renamed-subst : (x : Name) (n : ℕ) (a : Term) (z : Name) (e : Term)
    → renamed (Some z) (subst x (under x z n) (shift_up z 0 a) e) ≡ subst x (under x blank n) (shift_up blank 0 a) (renamed (Some z) e)
renamed-subst x n a z e =
    let ys = binding_all x n in
    let s = at_place n (core_below ys a) in
    let h = at_place-substitutes ys x n n (core_below ys a) (ref_of-binding_all x n) in
    core_below-one_to_one (blank ∷ ys) _ _
    (core-renamed z ys (subst x (under x z n) (shift_up z 0 a) e)
    ∙ core-subst (z ∷ ys) x (under x z n) (shift_up z 0 a) (raised s) (substituted-below ys x n a s z h) e
    ∙ ap (sub (raised s)) (sym (core-renamed z ys e))
    ∙ sym (core-subst (blank ∷ ys) x (under x blank n) (shift_up blank 0 a) (raised s) (substituted-below ys x n a s blank h) (renamed (Some z) e)))

alpha-either : (b : Bool) (a : Term) (v : Var) → alpha (cond b a (Leaf v)) ≡ cond b (alpha a) (Leaf v)
alpha-either true a v = refl
alpha-either false a v = alpha-Leaf v

AlphaSubst : ℕ → Type 0
AlphaSubst k = (x : Name) (n : ℕ) (a e : Term) → nesting e ≤ k → alpha (subst x n a e) ≡ subst x n (alpha a) (alpha e)

alpha_row-subst : (k : ℕ) → AlphaSubst k → (x : Name) (n : ℕ) (a : Term) (r : Row Var Name) → parts_nesting r ≤ suc k
    → alpha_row alpha (subst_row x n a r) ≡ subst_row x n (alpha a) (alpha_row alpha r)
unfolding AlphaSubst
alpha_row-subst k h x n a end l = refl
alpha_row-subst k h x n a (kid None e r) l =
    let p = h x n a e (omega arith) in
    let q = alpha_row-subst k h x n a r (omega arith) in
    cc
alpha_row-subst k h x n a (kid (Some z) e r) l =
    let d = nesting-renamed (Some z) e in
    let e' = renamed (Some z) e in
    let p = ap alpha (renamed-subst x n a z e)
    ∙ h x (under x blank n) (shift_up blank 0 a) e' (omega arith)
    ∙ ap (λ (b : Term). subst x (under x blank n) b (alpha e')) (alpha-shift_up blank 0 a) in
    let q = alpha_row-subst k h x n a r (omega arith) in
    cc

alpha-subst_Leaf : (x : Name) (n : ℕ) (a : Term) (v : Var) → alpha (subst x n a (Leaf v)) ≡ subst x n (alpha a) (alpha (Leaf v))
alpha-subst_Leaf x n a v = alpha-either (is_var x n v) a v ∙ ap (subst x n (alpha a)) (sym (alpha-Leaf v))

alpha-subst_Node : (x : Name) (n : ℕ) (a : Term) (op : Op) (r : Row Var Name)
    → alpha_row alpha (subst_row x n a r) ≡ subst_row x n (alpha a) (alpha_row alpha r) → alpha (subst x n a (Node op r)) ≡ subst x n (alpha a) (alpha (Node op r))
alpha-subst_Node x n a op r h = alpha-Node op (subst_row x n a r) ∙ ap (Node op) h ∙ ap (subst x n (alpha a)) (sym (alpha-Node op r))

alpha-subst_to : (k : ℕ) → AlphaSubst k
unfolding AlphaSubst
alpha-subst_to k x n a (Leaf v) l = alpha-subst_Leaf x n a v
alpha-subst_to zero x n a (Node op end) l = alpha-subst_Node x n a op end refl
alpha-subst_to zero x n a (Node op (kid b e r)) l = absurd (omega arith)
alpha-subst_to (suc k) x n a (Node op r) l = alpha-subst_Node x n a op r (alpha_row-subst k (alpha-subst_to k) x n a r l)

-- Substitution keeps sameness: the α-normal form of what was substituted into is that of the α-normal forms.
pub alpha-subst : (x : Name) (n : ℕ) (a e : Term) → alpha (subst x n a e) ≡ subst x n (alpha a) (alpha e)
unfolding AlphaSubst
alpha-subst x n a e = alpha-subst_to (nesting e) x n a e (omega arith)
