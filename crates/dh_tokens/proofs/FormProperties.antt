-- What holds of a form, where one is there.
use Rattle.std.proofs.Common.{◌≡◌, ℕ, zero, suc, ◌<◌, Bool, true, false, if◌then◌else◌, ltb, List, [], ◌∷◌, ◌++◌, Option, Some, None, IfSome, refl, subst, arith}
use Rattle.dh_syntax.specs.Text.LexForms.{Found, Form, form, longer, longest}

-- a property of each form of a list
abbrev pub Each : (Form → Type 0) → List (Option Form) → Type 0
Each P [] = Unit {0}
Each P (f ∷ fs) = IfSome f P × Each P fs

pub form-has : (P : Form → Type 0) (found : Found) (n : ℕ) → (0 < n → P (record { found = found; len = n })) → IfSome (form found n) P
form-has P found zero h = tt
form-has P found (suc n) h = h (omega arith)

pub when-has : (P : Form → Type 0) (test : Bool) (f : Option Form) → (test ≡ true → IfSome f P) → IfSome (if test then f else None) P
when-has P true f h = h refl
when-has P false f h = tt

pub if-has : (P : Form → Type 0) (test : Bool) (f g : Option Form) → (test ≡ true → IfSome f P) → (test ≡ false → IfSome g P) → IfSome (if test then f else g) P
if-has P true f g h k = h refl
if-has P false f g h k = k refl

chosen-has : (P : Form → Type 0) (test : Bool) (f g : Form) → P f → P g → P (if test then g else f)
chosen-has P true f g h k = k
chosen-has P false f g h k = h

longer-has : (P : Form → Type 0) (f : Form) (g : Option Form) → P f → IfSome g P → P (longer f g)
longer-has P f None h k = h
longer-has P f (Some g) h k = chosen-has P (ltb f.len g.len) f g h k

pub longest-has : (P : Form → Type 0) (fs : List (Option Form)) → Each P fs → IfSome (longest fs) P
longest-has P [] each = tt
longest-has P (None ∷ fs) each = longest-has P fs each.1
longest-has P (Some f ∷ fs) each = longer-has P f (longest fs) each.0 (longest-has P fs each.1)

pub Each-append : (P : Form → Type 0) (fs gs : List (Option Form)) → Each P fs → Each P gs → Each P (fs ++ gs)
Each-append P [] gs h k = k
Each-append P (f ∷ fs) gs h k = (h.0, Each-append P fs gs h.1 k)

pub has-more : (P Q : Form → Type 0) (f : Option Form) → ((g : Form) → P g → Q g) → IfSome f P → IfSome f Q
has-more P Q None more h = tt
has-more P Q (Some f) more h = more f h

pub has-at : (P : Form → Type 0) (f : Option Form) (g : Form) → IfSome f P → f ≡ Some g → P g
has-at P f g h e =
    let Q : Option Form → Type 0 = λ o. IfSome o P in
    subst Q e h
