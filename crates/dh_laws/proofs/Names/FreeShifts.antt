-- Shifting and substitution on nameless terms, below binders that bind nothing of them or the variable that is substituted.
use Rattle.std.specs.Prelude.{◌≡◌, ℕ, zero, suc, Bool, true, false, cond, ◌&&◌, List, [], ◌∷◌, refl}
use Rattle.std.proofs.Common.{ap, sym, ◌∙◌}
use Rattle.dh_syntax.specs.Names.Moves.{Move, moved}
use Rattle.dh_syntax.specs.Names.Nameless.{Ref, Bound, Free, past, nearest, ref_of, going_nameless, core_below, var_of, sub_ref, at_place, Core}
use Rattle.dh_syntax.specs.Expressions.Numbers.{eq, bytes_eq}
use Rattle.dh_syntax.specs.Names.Subst.{under, shifting, shift_up}
use Rattle.dh_syntax.specs.Expressions.Tree.{Leaf, Name, Var, Term}
use Rattle.dh_syntax.proofs.Moves.{Agree, moved-agree, moved-then, then}
use Rattle.dh_syntax.proofs.Numbers.{and-true_left, and-true_right, eq-itself, eq-true, bytes_eq-itself, bytes_eq-true}
use Rattle.dh_laws.proofs.Names.Cores.{IsShiftedTo, shifted-below, IsSubstitution, var_of-ref_of}
use Rattle.dh_laws.proofs.Names.Shifts.{moved_index}

-- Shifting a free variable.

abbrev pub shifted_ref : Name → ℕ → Ref → Ref
shifted_ref x m (Bound i) = Bound i
shifted_ref x m (Free w n) = Free w (moved_index (λ k. suc k) (bytes_eq w x) m n)

abbrev pub shifting_free : Name → ℕ → Move (Unit {0}) Ref Name Ref Name
shifting_free x m = record { leaf = λ s r. shifted_ref x m r; binder = λ y. y; enter = λ s y. tt }

shifted_ref-past : (x : Name) (m : ℕ) (r : Ref) → shifted_ref x m (past r) ≡ past (shifted_ref x m r)
shifted_ref-past x m (Bound i) = refl
shifted_ref-past x m (Free w n) = refl

-- shifting below the same binders
abbrev pub IsFreeShift : Name → ℕ → ℕ → List Name → Type 0
IsFreeShift x m k ys = IsShiftedTo x k ys ys (shifted_ref x m)

pub free_shift-nowhere : (x : Name) (m : ℕ) → IsFreeShift x m m []
free_shift-nowhere x m w n = refl

pub free_shift-below : (x : Name) (m k : ℕ) (ys : List Name) (z : Name) → IsFreeShift x m k ys → IsFreeShift x m (under x z k) (z ∷ ys)
free_shift-below x m k ys z h = shifted-below x k ys ys (shifted_ref x m) (shifted_ref x m) refl (shifted_ref-past x m) z h

free_shift_agree : (x : Name) (m : ℕ) → Agree (then (shifting (λ k. suc k) x) going_nameless) (then going_nameless (shifting_free x m))
    (λ s t. IsShiftedTo x s.0 t.0 s.1 (shifted_ref x m))
free_shift_agree x m = record {
  leaf = λ s t v h. h v.name v.index;
  binder = λ y. refl;
  enter = λ s t y h. shifted-below x s.0 t.0 s.1 (shifted_ref x m) (shifted_ref x m) refl (shifted_ref-past x m) y h;
}

pub core-free_shift : (x : Name) (m k : ℕ) (ys : List Name) → IsFreeShift x m k ys
    → (e : Term) → core_below ys (shift_up x k e) ≡ moved (shifting_free x m) tt (core_below ys e)
core-free_shift x m k ys h e = moved-then _ _ k ys e ∙ moved-agree (free_shift_agree x m) (k, ys) (ys, tt) e h ∙ sym (moved-then _ _ ys tt e)

-- Substitution for the variable of a binder above.

at_place-this : (k : ℕ) (c : Core) → at_place k c k ≡ c
at_place-this k c = ap (λ (b : Bool). cond b c (Leaf (Bound k))) (eq-itself k)

pub not_this : (ys : List Name) (x w : Name) (n j k i : ℕ) → ref_of ys x n ≡ Bound k → ref_of ys w j ≡ Bound i → (bytes_eq w x && eq j n) ≡ false → eq i k ≡ false
not_this ys x w n j k i h g f = at (eq i k) refl
  where
    at : (b : Bool) → eq i k ≡ b → b ≡ false
    at false p = refl
    at true p =
        let same : (record { name = w; index = j }) ≡ (record { name = x; index = n }) =
        sym (var_of-ref_of ys w j) ∙ ap (var_of ys) (g ∙ ap Bound (eq-true i k p) ∙ sym h) ∙ var_of-ref_of ys x n in
        let names : w ≡ x = ap (λ (v : Var). v.name) same in
        let indices : j ≡ n = ap (λ (v : Var). v.index) same in
        let t = ap (λ (y : Name). bytes_eq y x && eq j n) names ∙ ap (λ (i : ℕ). bytes_eq x x && eq i n) indices in
        let b = bytes_eq-itself x in
        let e = eq-itself n in
        let both : (bytes_eq x x && eq n n) ≡ true = rw (b, e) refl in
        sym both ∙ sym t ∙ f

pub at_place-substitutes : (ys : List Name) (x : Name) (n k : ℕ) (c : Core) → ref_of ys x n ≡ Bound k → IsSubstitution ys x n c (at_place k c)
at_place-substitutes ys x n k c h w j = at (bytes_eq w x && eq j n) refl (ref_of ys w j) refl
  where
    at : (b : Bool) → (bytes_eq w x && eq j n) ≡ b → (r : Ref) → ref_of ys w j ≡ r → sub_ref (at_place k c) r ≡ cond b c (Leaf r)
    at true p r q =
        let names = bytes_eq-true w x (and-true_left (bytes_eq w x) (eq j n) p) in
        let indices = eq-true j n (and-true_right (bytes_eq w x) (eq j n) p) in
        let s : r ≡ Bound k = sym q ∙ ap (λ (y : Name). ref_of ys y j) names ∙ ap (ref_of ys x) indices ∙ h in
        ap (sub_ref (at_place k c)) s ∙ at_place-this k c
    at false p (Free y i) q = refl
    at false p (Bound i) q = ap (λ (b : Bool). cond b c (Leaf (Bound i))) (not_this ys x w n j k i h q p)

-- binders above which bind `x@n`
abbrev pub binding_all : Name → ℕ → List Name
binding_all x zero = x ∷ []
binding_all x (suc n) = x ∷ binding_all x n

pub ref_of-binding_all : (x : Name) (n : ℕ) → ref_of (binding_all x n) x n ≡ Bound n
ref_of-binding_all x zero = ap (λ (b : Bool). nearest b (ref_of [] x) 0) (bytes_eq-itself x)
ref_of-binding_all x (suc n) =
    ap (λ (b : Bool). nearest b (ref_of (binding_all x n) x) (suc n)) (bytes_eq-itself x) ∙ ap past (ref_of-binding_all x n)
