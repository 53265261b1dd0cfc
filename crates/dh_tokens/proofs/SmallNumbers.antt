-- Numbers that no other literal can stand in place of.
use Rattle.std.proofs.Common.{◌≡◌, ℕ, zero, suc, ◌+◌, ◌-◌, ◌*◌, ◌<◌, ◌≤◌, ◌^◌, max, Bool, true, false, not, ◌&&◌, ◌||◌, ◌==◌, if◌then◌else◌, eqb, nat_eq, nat_lt, List, [], ◌∷◌, ◌++◌, length, take, drop, drop-cons, cond, get_or, slice_index, codes, Option, Some, None, refl, sym, ap, ◌∙◌, arith}
use Rattle.std.proofs.lemmas.Bool.{and_left, and_right, eqb-true, lt-ltb, ne_eqb, eqb-false, not-false, or_from, or_parts}
use Rattle.std.proofs.lemmas.List.{get_or-drop}
use Rattle.std.proofs.lemmas.Bool.Decides.{nat_tests}
use Rattle.std.proofs.lemmas.Int.Digits.{digits_value_more}
use Rattle.std.specs.Char.{digit_value, is_ascii_digit, is_ascii_hexdigit}
use Rattle.std.specs.List.{prefix_len, starts_with}
use Rattle.std.specs.Str.Parse.{digits_value}
use Rattle.dh_syntax.specs.Limits.{natural_fits}
use Rattle.dh_syntax.specs.declared.tokens.TokenKind.TheVariants as kinds
use Rattle.dh_syntax.specs.Text.Characters.{first, begins, is_bit, is_sign}
use Rattle.dh_syntax.specs.Text.LexForms.{Is, LeftOut, Form, form, longest}
use Rattle.dh_syntax.specs.Text.LexNumbers.{natural_found, fractional, begins_fraction, begins_exponent, is_shaped, binary, bytes_literal}
use Rattle.dh_syntax.specs.Text.Numerals.{natural_len, natural_value, read_natural}
use Rattle.dh_tokens.specs.Inside.Numbers.{may_differ, unsigned_form}
use Rattle.dh_tokens.proofs.FormLaws.{form-some, prefix_len-some}
use Rattle.dh_tokens.proofs.NumberForms.{unsigned_form-natural, unsigned_left_out-is}

flipped : (a b : ℕ) → eqb a b ≡ false → eqb b a ≡ false
flipped a b e = ne_eqb b a (λ same. eqb-false a b e (sym same))

-- another second byte
second-other : (d c : ℕ) (cs bs : List ℕ) → (slice_index bs 1 == c) ≡ false → starts_with nat_eq bs (d ∷ c ∷ cs) ≡ false
second-other d c cs [] e = refl
second-other d c cs (a ∷ []) e = and_right (eqb d a) false refl
second-other d c cs (a ∷ b ∷ bs) e = and_right (eqb d a) (eqb c b && starts_with nat_eq bs cs) (and_left (eqb c b) (starts_with nat_eq bs cs) (flipped b c e))

second-taken : (n : ℕ) (bs : List ℕ) → (slice_index bs 1 == 120) ≡ false → (slice_index (take n bs) 1 == 120) ≡ false
second-taken zero bs e = refl
second-taken (suc zero) [] e = refl
second-taken (suc zero) (a ∷ bs) e = refl
second-taken (suc (suc n)) [] e = refl
second-taken (suc (suc n)) (a ∷ []) e = refl
second-taken (suc (suc n)) (a ∷ b ∷ bs) e = e

-- another byte at a place of a shape
shaped-other : (front : List ℕ) (x : ℕ) (cs bs : List ℕ) → (x == 48) ≡ false → (get_or bs (length front) 0 == x) ≡ false → is_shaped (front ++ x ∷ cs) bs ≡ false
shaped-other [] x cs [] p e = refl
shaped-other [] x cs (b ∷ bs) p e = and_left (if x == 48 then is_ascii_digit b else b == x) (is_shaped cs bs) (ap (λ (t : Bool). if t then is_ascii_digit b else b == x) p ∙ e)
shaped-other (f ∷ front) x cs [] p e = refl
shaped-other (f ∷ front) x cs (b ∷ bs) p e = and_right (if f == 48 then is_ascii_digit b else b == f) (is_shaped (front ++ x ∷ cs) bs) (shaped-other front x cs bs p e)

-- what the bytes rule out
record Ruled (n : ℕ) (bs : List ℕ) : Type 0 where
  dot : (slice_index bs n == 46) ≡ false
  small_e : (slice_index bs n == 101) ≡ false
  large_e : (slice_index bs n == 69) ≡ false
  x : (slice_index bs 1 == 120) ≡ false
  b : (slice_index bs 1 == 98) ≡ false
  colon : (slice_index bs 2 == 58) ≡ false
  dash : (slice_index bs 4 == 45) ≡ false
  zero' : (first bs == 48 && not (n == 1)) ≡ false

ruled : (n : ℕ) (bs : List ℕ) → may_differ n bs ≡ false → Ruled n bs
ruled n bs e =
    let t1 = slice_index bs n == 46 in let t2 = slice_index bs n == 101 in let t3 = slice_index bs n == 69 in
    let t4 = slice_index bs 1 == 120 in let t5 = slice_index bs 1 == 98 in let t6 = slice_index bs 2 == 58 in let t7 = slice_index bs 4 == 45 in
    let t8 = first bs == 48 && not (n == 1) in
    let p7 = or_parts (t1 || t2 || t3 || t4 || t5 || t6 || t7) t8 e in
    let p6 = or_parts (t1 || t2 || t3 || t4 || t5 || t6) t7 p7.0 in
    let p5 = or_parts (t1 || t2 || t3 || t4 || t5) t6 p6.0 in
    let p4 = or_parts (t1 || t2 || t3 || t4) t5 p5.0 in
    let p3 = or_parts (t1 || t2 || t3) t4 p4.0 in
    let p2 = or_parts (t1 || t2) t3 p3.0 in
    let p1 = or_parts t1 t2 p2.0 in
    record { dot = p1.0; small_e = p1.1; large_e = p2.1; x = p3.1; b = p4.1; colon = p5.1; dash = p6.1; zero' = p7.1 }

-- the digits are the longest natural
natural_len-by : (n : ℕ) (bs : List ℕ) (zero' : Bool) → n ≡ prefix_len is_ascii_digit bs → (first bs == 48) ≡ zero' → (zero' && not (n == 1)) ≡ false → n ≡ (if zero' then 1 else prefix_len is_ascii_digit bs)
natural_len-by n bs true e z h = eqb-true n 1 (not-false (n == 1) h)
natural_len-by n bs false e z h = e

natural_len-ruled : (n : ℕ) (bs : List ℕ) → n ≡ prefix_len is_ascii_digit bs → Ruled n bs → n ≡ natural_len bs
natural_len-ruled n bs e r =
    let hex = and_left (begins "0x" bs) (is_ascii_hexdigit (slice_index bs 2)) (second-other 48 120 [] bs r.x) in
    natural_len-by n bs (first bs == 48) e refl r.zero'
    ∙ sym (ap (λ (t : Bool). if t then 2 + prefix_len is_ascii_hexdigit (drop 2 bs) else if first bs == 48 then 1 else prefix_len is_ascii_digit bs) hex)

first_behind : (n : ℕ) (bs : List ℕ) → first (drop n bs) ≡ slice_index bs n
first_behind n bs = let e : n + 0 ≡ n = omega arith in get_or-drop n bs 0 0 ∙ ap (λ k. get_or bs k 0) e

fractional-ruled : (n : ℕ) (bs : List ℕ) → Ruled n bs → fractional n bs ≡ None
fractional-ruled n bs r =
    let next = drop n bs in
    let is_first : (c : ℕ) → (slice_index bs n == c) ≡ false → (first next == c) ≡ false = λ c e. ap (λ k. k == c) (first_behind n bs) ∙ e in
    let fraction : begins_fraction next ≡ false = and_left (first next == 46) (is_ascii_digit (slice_index next 1)) (is_first 46 r.dot) in
    let e_or_E = or_from (first next == 101) (first next == 69) (is_first 101 r.small_e) (is_first 69 r.large_e) in
    let exponent : begins_exponent next ≡ false = and_left (first next == 101 || first next == 69) (is_ascii_digit (slice_index next 1) || (is_sign (slice_index next 1) && is_ascii_digit (slice_index next 2))) e_or_E in
    ap (λ (t : Bool). if t then form LeftOut (2 + n) else None) (and_right (nat_lt 0 n) (begins_fraction next || begins_exponent next) (or_from (begins_fraction next) (begins_exponent next) fraction exponent))

not_there : (test : Bool) (f : Option Form) → test ≡ false → (if test then f else None) ≡ None
not_there test f e = ap (λ (b : Bool). if b then f else None) e

no_shape : (test : Bool) (n : ℕ) → test ≡ false → 0 ≡ (if test then n else 0)
no_shape test n e = sym (ap (λ (b : Bool). if b then n else 0) e)

prefixed-ruled : (n : ℕ) (bs : List ℕ) → Ruled n bs → longest (binary bs ∷ bytes_literal bs ∷ []) ≡ None
prefixed-ruled n bs r =
    let no_binary : binary bs ≡ None = not_there (begins "0b" bs && is_bit (slice_index bs 2)) (form LeftOut 3) (and_left (begins "0b" bs) (is_bit (slice_index bs 2)) (second-other 48 98 [] bs r.b)) in
    let no_bytes : bytes_literal bs ≡ None = not_there (begins "0x\"" bs) (form LeftOut 3) (second-other 48 120 (34 ∷ []) bs r.x) in
    ap (λ f. longest (f ∷ bytes_literal bs ∷ [])) no_binary ∙ ap (λ f. longest (f ∷ [])) no_bytes

fits : (v : ℕ) → v < 2 ^ 64 → natural_fits v ≡ true
fits v small = let h : v < 2 ^ 128 = omega (arith, small) in lt-ltb v (2 ^ 128) h

read-ruled : (n v : ℕ) (bs : List ℕ) → v ≡ digits_value 10 (take n bs) → v < 2 ^ 64 → Ruled n bs → read_natural (take n bs) ≡ Some v
read-ruled n v bs v_is small r =
    let digits = take n bs in
    let hex : begins "0x" digits ≡ false = second-other 48 120 [] digits (second-taken n bs r.x) in
    let value : natural_value digits ≡ v = ap (λ (t : Bool). if t then digits_value 16 (drop 2 digits) else digits_value 10 digits) hex ∙ sym v_is in
    ap (λ k. if natural_fits k then Some k else None) value ∙ ap (λ (t : Bool). if t then Some v else None) (fits v small)

-- a number that nothing else can be
pub small_natural-is : (bs : List ℕ) (n v : ℕ) → is_ascii_digit (first bs) ≡ true → n ≡ prefix_len is_ascii_digit bs → v ≡ digits_value 10 (take n bs) → v < 2 ^ 64 → may_differ n bs ≡ false
    → unsigned_form bs ≡ form (Is (kinds.Natural v)) n
small_natural-is bs n v digit n_is v_is small e =
    let r = ruled n bs e in
    let len_is : n ≡ natural_len bs = natural_len-ruled n bs n_is r in
    let some : 0 < n = omega (arith, n_is, prefix_len-some is_ascii_digit bs digit refl) in
    let no_fraction : form LeftOut 0 ≡ fractional (natural_len bs) bs = sym (fractional-ruled n bs r) ∙ ap (λ k. fractional k bs) len_is in
    let no_date = no_shape (is_shaped (codes "0000-00-00") bs) 10 (shaped-other (codes "0000") 45 (codes "00-00") bs refl r.dash) in
    let no_time = no_shape (is_shaped (codes "00:00") bs) 5 (shaped-other (codes "00") 58 (codes "00") bs refl r.colon) in
    let no_prefix : form LeftOut 0 ≡ longest (binary bs ∷ bytes_literal bs ∷ []) = sym (prefixed-ruled n bs r) in
    let none : 0 ≡ max 0 (max 0 (max 0 0)) = omega arith in
    let left_out = ap (form LeftOut) none ∙ unsigned_left_out-is bs 0 0 0 0 no_fraction no_date no_time no_prefix in
    let above : 0 ≤ n = omega arith in
    let found : Is (kinds.Natural v) ≡ natural_found (read_natural (take n bs)) = sym (ap natural_found (read-ruled n v bs v_is small r)) in
    sym (unsigned_form-natural bs (take n bs) (Is (kinds.Natural v)) n 0 len_is left_out some above refl found) ∙ sym (form-some (Is (kinds.Natural v)) n some)

-- one more byte of a run
pub run-step : (p : ℕ → Bool) (bs : List ℕ) (n i : ℕ) → n ≡ i → i < length bs → p (get_or bs i 0) ≡ true → prefix_len p bs ≡ n + prefix_len p (drop n bs) → prefix_len p bs ≡ n + 1 + prefix_len p (drop (n + 1) bs)
run-step p bs n i same within passes so_far =
    let here : n < length bs = omega (arith, same, within) in
    let b = get_or bs n 0 in
    let rest = drop (suc n) bs in
    let next : prefix_len p (drop n bs) ≡ 1 + prefix_len p rest =
    ap (prefix_len p) (drop-cons bs n 0 here) ∙ ap (λ (t : Bool). cond t (1 + prefix_len p rest) 0) (ap (λ k. p (get_or bs k 0)) same ∙ passes) in
    let e : suc n ≡ n + 1 = omega arith in
    let after : prefix_len p rest ≡ prefix_len p (drop (n + 1) bs) = ap (λ k. prefix_len p (drop k bs)) e in
    omega (arith, so_far, next, after)

digit_is : (b : ℕ) → is_ascii_digit b ≡ true → digit_value b ≡ b - 48
digit_is b h = grind (arith, nat_tests)

-- one more digit of a number
pub decimal-step : (bs : List ℕ) (n i value digit : ℕ) → n ≡ i → i < length bs → is_ascii_digit (get_or bs i 0) ≡ true → digit ≡ get_or bs i 0 - 48 → value ≡ digits_value 10 (take n bs)
    → value * 10 + digit ≡ digits_value 10 (take (n + 1) bs)
decimal-step bs n i value digit same within passes digit_is_byte value_is =
    let so_far = digits_value 10 (take i bs) in
    ap (λ k. k * 10 + digit) (value_is ∙ ap (λ k. digits_value 10 (take k bs)) same)
    ∙ ap (λ k. so_far * 10 + k) (digit_is_byte ∙ sym (digit_is (get_or bs i 0) passes))
    ∙ sym (digits_value_more 10 bs i within)
    ∙ sym (ap (λ k. digits_value 10 (take (k + 1) bs)) same)
