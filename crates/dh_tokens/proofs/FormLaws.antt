-- Laws of forms at one place.
use Rattle.std.proofs.Common.{◌≡◌, ℕ, zero, suc, ◌+◌, ◌<◌, Bool, true, false, cond, if◌then◌else◌, ltb, nat_lt, List, [], ◌∷◌, get_or, Option, Some, None, refl, sym, ap, ◌∙◌, arith}
use Rattle.std.specs.List.{prefix_len}
use Rattle.std.proofs.lemmas.Bool.Decides.{nat_tests}
use Rattle.dh_syntax.specs.Text.LexForms.{Found, Form, form, longer, longest}
use Rattle.dh_tokens.specs.Inside.Forms.{joined}

-- a form of some bytes is there
pub form-some : (found : Found) (n : ℕ) → 0 < n → form found n ≡ Some (record { found = found; len = n })
form-some found zero some = absurd (omega (arith, some))
form-some found (suc n) some = refl

-- a test that the first byte passes is passed by some bytes
pub prefix_len-some : (p : ℕ → Bool) (bs : List ℕ) → p (get_or bs 0 0) ≡ true → p 0 ≡ false → 0 < prefix_len p bs
prefix_len-some p [] yes' no' = absurd (cc)
prefix_len-some p (b ∷ bs) yes' no' = let e : prefix_len p (b ∷ bs) ≡ 1 + prefix_len p bs = ap (λ (c : Bool). cond c (1 + prefix_len p bs) 0) yes' in omega (arith, e)

pub longest-cons : (f : Option Form) (fs : List (Option Form)) → longest (f ∷ fs) ≡ joined f (longest fs)
longest-cons None fs = refl
longest-cons (Some f) fs = refl

longer-by : (f g h : Form) (fg gh fh : Bool) → nat_lt f.len g.len ≡ fg → nat_lt g.len h.len ≡ gh → nat_lt f.len h.len ≡ fh
    → longer f (Some (if gh then h else g)) ≡ longer (if fg then g else f) (Some h)
longer-by f g h false false fh p q r =
    let e : ltb f.len h.len ≡ false = grind (arith, nat_tests) in
    ap (λ (b : Bool). if b then g else f) p ∙ sym (ap (λ (b : Bool). if b then h else f) e)
longer-by f g h false true fh p q r = refl
longer-by f g h true false fh p q r = ap (λ (b : Bool). if b then g else f) p ∙ sym (ap (λ (b : Bool). if b then h else g) q)
longer-by f g h true true fh p q r =
    let e : ltb f.len h.len ≡ true = grind (arith, nat_tests) in
    ap (λ (b : Bool). if b then h else f) e ∙ sym (ap (λ (b : Bool). if b then h else g) q)

longer-longer : (f g : Form) (other : Option Form) → longer f (Some (longer g other)) ≡ longer (longer f (Some g)) other
longer-longer f g None = refl
longer-longer f g (Some h) = longer-by f g h (nat_lt f.len g.len) (nat_lt g.len h.len) (nat_lt f.len h.len) refl refl refl

pub joined_assoc : (f g h : Option Form) → joined f (joined g h) ≡ joined (joined f g) h
joined_assoc None g h = refl
joined_assoc (Some f) None h = refl
joined_assoc (Some f) (Some g) h = ap Some (longer-longer f g h)

pub joined-none : (f : Option Form) → joined f None ≡ f
joined-none None = refl
joined-none (Some f) = refl

pub longest-one : (f : Option Form) → longest (f ∷ []) ≡ f
longest-one None = refl
longest-one (Some f) = refl
