-- The forms of numbers at one place.
use Rattle.std.proofs.Common.{◌≡◌, ℕ, zero, suc, ◌<◌, ◌≤◌, max, Bool, true, false, ◌&&◌, if◌then◌else◌, nat_lt, List, [], ◌∷◌, take, drop, Option, Some, None, refl, sym, ap, ◌∙◌, inl, inr, codes, arith}
use Rattle.std.proofs.lemmas.Bool.{cases_lt, lt-ltb, le-ltb, both_ways, and_parts, and_from}
use Rattle.std.specs.Char.{is_ascii_digit}
use Rattle.dh_syntax.specs.Text.Characters.{first, is_sign}
use Rattle.dh_syntax.specs.Text.LexForms.{Found, LeftOut, Form, form, longest}
use Rattle.dh_syntax.specs.Text.LexNumbers.{natural, integer, double, signed_double, date, time, signed_time, binary, bytes_literal, fractional, is_shaped, natural_found, integer_found}
use Rattle.dh_syntax.specs.Text.Numerals.{natural_len, integer_len, read_natural, read_integer}
use Rattle.dh_tokens.specs.Inside.Forms.{joined}
use Rattle.dh_tokens.specs.Inside.Numbers.{unsigned_left_out, signed_left_out, unsigned_form, signed_form}
use Rattle.dh_tokens.proofs.NumberLaws.{natural_len-some}
use Rattle.dh_tokens.proofs.FormLaws.{longest-cons, longest-one}

-- of two literals that are left out the longer one
left_out-longer : (m n : ℕ) (r : Bool) → nat_lt (suc m) (suc n) ≡ r → joined (form LeftOut (suc m)) (form LeftOut (suc n)) ≡ Some (record { found = LeftOut; len = if r then suc n else suc m })
left_out-longer m n true e = ap (λ (b : Bool). Some (if b then record { found = LeftOut; len = suc n } else record { found = LeftOut; len = suc m })) e
left_out-longer m n false e = ap (λ (b : Bool). Some (if b then record { found = LeftOut; len = suc n } else record { found = LeftOut; len = suc m })) e

pub left_out-joined : (m n : ℕ) → joined (form LeftOut m) (form LeftOut n) ≡ form LeftOut (max m n)
left_out-joined zero n = let e : n ≡ max 0 n = omega arith in ap (form LeftOut) e
left_out-joined (suc m) zero = let e : suc m ≡ max (suc m) 0 = omega arith in ap (form LeftOut) e
left_out-joined (suc m) (suc n) = elim (cases_lt (suc m) (suc n)) [
  | inl below ↦ (let e : suc n ≡ max (suc m) (suc n) = omega (arith, below) in left_out-longer m n true (lt-ltb (suc m) (suc n) below) ∙ ap (form LeftOut) e)
  | inr above ↦ (let e : suc m ≡ max (suc m) (suc n) = omega (arith, above) in left_out-longer m n false (le-ltb (suc m) (suc n) above) ∙ ap (form LeftOut) e)
]

shaped_form : (fits : Bool) (n : ℕ) → form LeftOut (if fits then suc n else 0) ≡ (if fits then form LeftOut (suc n) else None)
shaped_form true n = refl
shaped_form false n = refl

pub unsigned_left_out-is : (bs : List ℕ) (number' date' time' prefixed : ℕ) → form LeftOut number' ≡ fractional (natural_len bs) bs
    → date' ≡ (if is_shaped (codes "0000-00-00") bs then 10 else 0) → time' ≡ (if is_shaped (codes "00:00") bs then 5 else 0)
    → form LeftOut prefixed ≡ longest (binary bs ∷ bytes_literal bs ∷ [])
    → form LeftOut (max number' (max date' (max time' prefixed))) ≡ unsigned_left_out bs
unfolding unsigned_left_out
unsigned_left_out-is bs number' date' time' prefixed n d t p =
    let others = longest (binary bs ∷ bytes_literal bs ∷ []) in
    let d_is : form LeftOut date' ≡ date bs = ap (form LeftOut) d ∙ shaped_form (is_shaped (codes "0000-00-00") bs) 9 in
    let t_is : form LeftOut time' ≡ time bs = ap (form LeftOut) t ∙ shaped_form (is_shaped (codes "00:00") bs) 4 in
    sym (longest-cons (double bs) (date bs ∷ time bs ∷ binary bs ∷ bytes_literal bs ∷ [])
    ∙ ap (joined (double bs)) (longest-cons (date bs) (time bs ∷ binary bs ∷ bytes_literal bs ∷ []) ∙ ap (joined (date bs)) (longest-cons (time bs) (binary bs ∷ bytes_literal bs ∷ [])))
    ∙ sym (ap (λ f. joined f (joined (date bs) (joined (time bs) others))) n)
    ∙ sym (ap (λ f. joined (form LeftOut number') (joined f (joined (time bs) others))) d_is)
    ∙ sym (ap (λ f. joined (form LeftOut number') (joined (form LeftOut date') (joined f others))) t_is)
    ∙ sym (ap (λ f. joined (form LeftOut number') (joined (form LeftOut date') (joined (form LeftOut time') f))) p)
    ∙ ap (λ f. joined (form LeftOut number') (joined (form LeftOut date') f)) (left_out-joined time' prefixed)
    ∙ ap (joined (form LeftOut number')) (left_out-joined date' (max time' prefixed))
    ∙ left_out-joined number' (max date' (max time' prefixed)))

pub signed_left_out-is : (bs : List ℕ) (number' time' : ℕ) → form LeftOut number' ≡ fractional (integer_len bs) bs → form LeftOut time' ≡ signed_time bs
    → form LeftOut (max number' time') ≡ signed_left_out bs
unfolding signed_left_out
signed_left_out-is bs number' time' n t =
    sym (longest-cons (signed_double bs) (signed_time bs ∷ []) ∙ ap (joined (signed_double bs)) (longest-one (signed_time bs))
    ∙ sym (ap (λ f. joined f (signed_time bs)) n) ∙ sym (ap (joined (form LeftOut number')) t) ∙ left_out-joined number' time')

-- of a number and a literal that is left out the longer one, the number where they are equally long
pub later-wins : (found : Found) (n out : ℕ) → n < out → Some (record { found = LeftOut; len = out }) ≡ joined (form found n) (form LeftOut out)
later-wins found n zero below = absurd (omega (arith, below))
later-wins found zero (suc out) below = refl
later-wins found (suc n) (suc out) below =
    sym (ap (λ (b : Bool). Some (if b then record { found = LeftOut; len = suc out } else record { found = found; len = suc n })) (lt-ltb (suc n) (suc out) below))

pub first-wins : (found : Found) (n out : ℕ) → 0 < n → out ≤ n → Some (record { found = found; len = n }) ≡ joined (form found n) (form LeftOut out)
first-wins found zero out some above = absurd (omega (arith, some))
first-wins found (suc n) zero some above = refl
first-wins found (suc n) (suc out) some above =
    sym (ap (λ (b : Bool). Some (if b then record { found = LeftOut; len = suc out } else record { found = found; len = suc n })) (le-ltb (suc n) (suc out) above))

unsigned_form-joined : (bs : List ℕ) → unsigned_form bs ≡ joined (natural bs) (unsigned_left_out bs)
unfolding unsigned_form unsigned_left_out
unsigned_form-joined bs = longest-cons (natural bs) (double bs ∷ date bs ∷ time bs ∷ binary bs ∷ bytes_literal bs ∷ [])

signed_form-joined : (bs : List ℕ) → signed_form bs ≡ joined (integer bs) (signed_left_out bs)
unfolding signed_form signed_left_out
signed_form-joined bs = longest-cons (integer bs) (signed_double bs ∷ signed_time bs ∷ [])

abbrev natural_by : List ℕ → ℕ → Option Form
natural_by bs n = form (natural_found (read_natural (take n bs))) n

pub unsigned_form-left_out : (bs : List ℕ) (n out : ℕ) → n ≡ natural_len bs → form LeftOut out ≡ unsigned_left_out bs → n < out → Some (record { found = LeftOut; len = out }) ≡ unsigned_form bs
unsigned_form-left_out bs n out n_is out_is below =
    later-wins (natural_found (read_natural (take n bs))) n out below
    ∙ ap (λ k. joined (natural_by bs k) (form LeftOut out)) n_is ∙ ap (joined (natural bs)) out_is ∙ sym (unsigned_form-joined bs)

pub unsigned_form-natural : (bs digits : List ℕ) (found : Found) (n out : ℕ) → n ≡ natural_len bs → form LeftOut out ≡ unsigned_left_out bs → 0 < n → out ≤ n → digits ≡ take n bs → found ≡ natural_found (read_natural digits)
    → Some (record { found = found; len = n }) ≡ unsigned_form bs
unsigned_form-natural bs digits found n out n_is out_is some above digits_is found_is =
    ap (λ f. Some (record { found = f; len = n })) (found_is ∙ ap (λ t. natural_found (read_natural t)) digits_is)
    ∙ first-wins (natural_found (read_natural (take n bs))) n out some above
    ∙ ap (λ k. joined (natural_by bs k) (form LeftOut out)) n_is ∙ ap (joined (natural bs)) out_is ∙ sym (unsigned_form-joined bs)

abbrev integer_by : List ℕ → ℕ → Option Form
integer_by bs n = form (integer_found (read_integer (take n bs))) n

pub signed_form-left_out : (bs : List ℕ) (n out : ℕ) → n ≡ integer_len bs → form LeftOut out ≡ signed_left_out bs → n < out → Some (record { found = LeftOut; len = out }) ≡ signed_form bs
signed_form-left_out bs n out n_is out_is below =
    later-wins (integer_found (read_integer (take n bs))) n out below
    ∙ ap (λ k. joined (integer_by bs k) (form LeftOut out)) n_is ∙ ap (joined (integer bs)) out_is ∙ sym (signed_form-joined bs)

pub signed_form-integer : (bs digits : List ℕ) (found : Found) (n out : ℕ) → n ≡ integer_len bs → form LeftOut out ≡ signed_left_out bs → 0 < n → out ≤ n → digits ≡ take n bs → found ≡ integer_found (read_integer digits)
    → Some (record { found = found; len = n }) ≡ signed_form bs
signed_form-integer bs digits found n out n_is out_is some above digits_is found_is =
    ap (λ f. Some (record { found = f; len = n })) (found_is ∙ ap (λ t. integer_found (read_integer t)) digits_is)
    ∙ first-wins (integer_found (read_integer (take n bs))) n out some above
    ∙ ap (λ k. joined (integer_by bs k) (form LeftOut out)) n_is ∙ ap (joined (integer bs)) out_is ∙ sym (signed_form-joined bs)

shaped-digit : (cs bs : List ℕ) → is_shaped (48 ∷ cs) bs ≡ true → is_ascii_digit (first bs) ≡ true
shaped-digit cs [] h = absurd (both_ways false refl h)
shaped-digit cs (b ∷ bs) h = (and_parts (is_ascii_digit b) (is_shaped cs bs) h).0

signed_time-none-by : (bs : List ℕ) (t : Bool) → integer_len bs ≡ 0 → (is_sign (first bs) && is_shaped (codes "00:00") (drop 1 bs)) ≡ t → (if t then form LeftOut 6 else None) ≡ None
signed_time-none-by bs false none e = refl
signed_time-none-by bs true none e =
    let parts = and_parts (is_sign (first bs)) (is_shaped (codes "00:00") (drop 1 bs)) e in
    let digit = shaped-digit (codes "0:00") (drop 1 bs) parts.1 in
    let some : 0 < natural_len (drop 1 bs) = natural_len-some (drop 1 bs) (natural_len (drop 1 bs)) digit refl in
    let both = and_from (is_sign (first bs)) (nat_lt 0 (natural_len (drop 1 bs))) parts.0 (lt-ltb 0 (natural_len (drop 1 bs)) some) in
    let len_is : integer_len bs ≡ suc (natural_len (drop 1 bs)) = ap (λ (b : Bool). if b then suc (natural_len (drop 1 bs)) else 0) both in
    absurd (omega (arith, len_is, none))

-- with no digit behind the sign there is no number
pub signed_form-none : (bs : List ℕ) → integer_len bs ≡ 0 → signed_form bs ≡ None
unfolding signed_form
signed_form-none bs none =
    let parts : Option Form → Option Form → Option Form → Option Form = λ f g h. longest (f ∷ g ∷ h ∷ []) in
    ap (λ n. parts (form (integer_found (read_integer (take n bs))) n) (fractional n bs) (signed_time bs)) none
    ∙ ap (parts None None) (signed_time-none-by bs (is_sign (first bs) && is_shaped (codes "00:00") (drop 1 bs)) none refl)
