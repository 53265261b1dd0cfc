-- What was put for the variable of a binder, after a renaming or a substitution.
use Rattle.std.specs.Prelude.{◌≡◌, ℕ, zero, suc, Bool, cond, List, [], ◌∷◌, refl}
use Rattle.std.proofs.Common.{ap, sym, ◌∙◌, subst as along}
use Rattle.std.proofs.Math.Path.{fun_ext}
use Rattle.dh_syntax.specs.Names.Nameless.{Ref, core_below, lifted, renamed_ref, ren, raised, sub, first, at_place, Core}
use Rattle.dh_syntax.specs.Names.Subst.{under, shift_up, shift_down, subst}
use Rattle.dh_syntax.specs.Expressions.Tree.{Tree, Name, Term}
use Rattle.dh_syntax.proofs.Numbers.{bytes_eq-itself}
use Rattle.dh_laws.proofs.Names.Cores.{IsShiftedTo, shifted-by_one, shifted-below, lifted-past, core-shift_up, core-subst, substituted-below, core-contracted, core_below-one_to_one}
use Rattle.dh_laws.proofs.Names.FreeShifts.{at_place-substitutes, binding_all, ref_of-binding_all}
use Rattle.dh_laws.proofs.Names.Renamings.{sub-ren, ren-sub, sub-sub, sub-Bound}

-- Nameless.

sub-first_at : {B : Type 0} (s : ℕ → Tree Ref B) (c : Tree Ref B) (i : ℕ) → sub s (first c i) ≡ sub (first (sub s c)) (raised s i)
sub-first_at s c zero = refl
sub-first_at s c (suc i) = sym (sub-ren (first (sub s c)) (λ k. suc k) (s i) ∙ sub-Bound (s i))

pub sub-first : {B : Type 0} (s : ℕ → Tree Ref B) (c b : Tree Ref B) → sub s (sub (first c) b) ≡ sub (first (sub s c)) (sub (raised s) b)
sub-first s c b = sub-sub s (first c) b ∙ ap (λ t. sub t b) (fun_ext (sub-first_at s c)) ∙ sym (sub-sub (first (sub s c)) (raised s) b)

ren-first_at : {B : Type 0} (f : ℕ → ℕ) (c : Tree Ref B) (i : ℕ) → ren f (first c i) ≡ first (ren f c) (lifted f i)
ren-first_at f c zero = refl
ren-first_at f c (suc i) = refl

pub ren-first : {B : Type 0} (f : ℕ → ℕ) (c b : Tree Ref B) → ren f (sub (first c) b) ≡ sub (first (ren f c)) (ren (lifted f) b)
ren-first f c b = ren-sub f (first c) b ∙ ap (λ t. sub t b) (fun_ext (ren-first_at f c)) ∙ sym (sub-ren (first (ren f c)) (lifted f) b)

-- By names: `b` with `a` for the variable of a binder of `y`, which is taken away.
abbrev pub put : Name → Term → Term → Term
put y a b = shift_down y 0 (subst y 0 (shift_up y 0 a) b)

pub subst-put : (x : Name) (n : ℕ) (d : Term) (y : Name) (a b : Term) → subst x n d (put y a b) ≡ put y (subst x n d a) (subst x (under x y n) (shift_up y 0 d) b)
subst-put x n d y a b =
    let ys = binding_all x n in
    let s = at_place n (core_below ys d) in
    let h = at_place-substitutes ys x n n (core_below ys d) (ref_of-binding_all x n) in
    let d' = shift_up y 0 d in
    core_below-one_to_one ys _ _
    (core-subst ys x n d s h (put y a b)
    ∙ ap (sub s) (core-contracted y ys a b)
    ∙ sub-first s (core_below ys a) (core_below (y ∷ ys) b)
    ∙ ap (λ (c : Core). sub (first c) (sub (raised s) (core_below (y ∷ ys) b))) (sym (core-subst ys x n d s h a))
    ∙ ap (sub (first (core_below ys (subst x n d a)))) (sym (core-subst (y ∷ ys) x (under x y n) d' (raised s) (substituted-below ys x n d s y h) b))
    ∙ sym (core-contracted y ys (subst x n d a) (subst x (under x y n) d' b)))

-- so many binders of `x`, and what is put in below them
copies : Name → ℕ → List Name → List Name
copies x zero ys = ys
copies x (suc m) ys = x ∷ copies x m ys

lifts : ℕ → ℕ → ℕ
lifts zero = λ i. suc i
lifts (suc m) = lifted (lifts m)

shifted-copies : (x : Name) (m : ℕ) → IsShiftedTo x m (copies x m []) (copies x m (x ∷ [])) (renamed_ref (lifts m))
unfolding copies lifts
shifted-copies x zero = shifted-by_one x []
shifted-copies x (suc m) =
    along (λ (b : Bool). IsShiftedTo x (cond b (suc m) m) (copies x (suc m) []) (copies x (suc m) (x ∷ [])) (renamed_ref (lifts (suc m)))) (bytes_eq-itself x)
    (shifted-below x m (copies x m []) (copies x m (x ∷ [])) (renamed_ref (lifts m)) (renamed_ref (lifts (suc m))) refl (lifted-past (lifts m)) x (shifted-copies x m))

pub shift_up-put : (x : Name) (m : ℕ) (y : Name) (a b : Term) → shift_up x m (put y a b) ≡ put y (shift_up x m a) (shift_up x (under x y m) b)
shift_up-put x m y a b =
    let as' = copies x m [] in
    let bs = copies x m (x ∷ []) in
    let f = lifts m in
    let h = shifted-copies x m in
    let below = shifted-below x m as' bs (renamed_ref f) (renamed_ref (lifted f)) refl (lifted-past f) y h in
    core_below-one_to_one bs _ _
    (core-shift_up x m as' bs f h (put y a b)
    ∙ ap (ren f) (core-contracted y as' a b)
    ∙ ren-first f (core_below as' a) (core_below (y ∷ as') b)
    ∙ ap (λ (c : Core). sub (first c) (ren (lifted f) (core_below (y ∷ as') b))) (sym (core-shift_up x m as' bs f h a))
    ∙ ap (sub (first (core_below bs (shift_up x m a)))) (sym (core-shift_up x (under x y m) (y ∷ as') (y ∷ bs) (lifted f) below b))
    ∙ sym (core-contracted y bs (shift_up x m a) (shift_up x (under x y m) b)))
