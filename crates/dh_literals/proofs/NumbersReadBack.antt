-- Printed numbers are read as what they are.
use Rattle.std.proofs.Common.{◌≡◌, ℕ, suc, ◌+◌, ◌/◌, ◌%◌, ◌^◌, ◌<◌, ◌≤◌, Bool, true, false, cond, if◌then◌else◌, ltb, List, [], ◌∷◌, ◌++◌, length, one-add, inl, inr, neg_ℤ, get_or, slice_index, drop, ◌==◌, ◌&&◌, Some, None, ℤ, pos, negsuc, refl, ap, sym, subst, ◌∙◌, lit<, arith, decimal}
use Rattle.std.proofs.lemmas.Bool.{cases_lt, eq-eqb, eqb-true, lt-ltb}
use Rattle.std.specs.Cmp.Derive.{both_true}
use borrow.Author.Tests.{ltb-true}
use Rattle.std.proofs.Math.Nat.{lt_trans}
use Rattle.std.proofs.lemmas.Bool.Decides.{nat_tests}
use Rattle.std.proofs.lemmas.Fmt.{decimal_is_IsNumeral_wide, decimal_by_steps_wide}
use Rattle.std.proofs.lemmas.List.{get_or_append_left, length_push}
use Rattle.std.proofs.lemmas.Str.Parse.{digit_from_value}
use Rattle.std.specs.Char.{digit_value, is_ascii_digit, is_ascii_hexdigit}
use Rattle.std.specs.List.{prefix_len}
use Rattle.std.specs.Str.{byte}
use Rattle.std.specs.Str.Parse.{AllDigits, digits_value}
use Rattle.dh_syntax.specs.Text.Characters.{first, begins, is_sign}
use Rattle.dh_syntax.specs.Text.Numerals.{is_natural, is_integer, natural_len, integer_len, natural_value, read_natural, read_integer, write_natural, write_integer}
use Rattle.dh_syntax.specs.Limits.{natural_fits}
use Rattle.dh_syntax.specs.Limits.{integer_fits}
use Rattle.dh_literals.proofs.NumbersRead.{begins-not}

decimal_digit : (c : ℕ) → digit_value c < 10 → is_ascii_digit c ≡ true
decimal_digit c h = let range = digit_from_value c h in grind (arith, nat_tests)

all_counted : (ds : List ℕ) → AllDigits 10 ds → prefix_len is_ascii_digit ds ≡ length ds
all_counted [] h = refl
all_counted (c ∷ cs) h = ap (λ b. cond b (1 + prefix_len is_ascii_digit cs) 0) (decimal_digit c h.0) ∙ one-add (prefix_len is_ascii_digit cs) ∙ ap suc (all_counted cs h.1)

-- a decimal numeral has no leading zero
record Leads (n : ℕ) (ds : List ℕ) : Type 0 where
  some : 0 < length ds
  short : n ≡ 0 → length ds ≡ 1
  above : 0 < n → 48 < get_or ds 0 0

leads_one : (n : ℕ) → n < 10 → Leads n ((48 + n) ∷ [])
leads_one n h = record { some = omega arith; short = λ e. refl; above = λ p. omega arith }

leads_more : (n : ℕ) (ds : List ℕ) → 10 ≤ n → Leads (n / 10) ds → Leads n (ds ++ ((48 + n % 10) ∷ []))
leads_more n ds h l =
    let size = length_push ds (48 + n % 10) in
    let high : 0 < n / 10 = omega arith in
    let at = get_or_append_left ds ((48 + n % 10) ∷ []) 0 0 l.some in
    let over = l.above high in
    record { some = omega (arith, size); short = λ e. absurd (omega arith); above = λ p. omega (arith, at, over) }

leads : (n : ℕ) → n < 10 ^ 64 → Leads n (decimal n)
leads n h = decimal_by_steps_wide Leads leads_one leads_more n h

wide : (n : ℕ) → n < 2 ^ 128 → n < 10 ^ 64
wide n h = lt_trans h (lit< tt)

no_prefix : (ds : List ℕ) → AllDigits 10 ds → begins "0x" ds ≡ false
no_prefix ds h = begins-not ds (λ rest e. let digit = subst (AllDigits 10) e h in absurd (omega (arith, digit.1.0)))

one_digit : (n : ℕ) (ds : List ℕ) → Leads n ds → (first ds == byte "0") ≡ true → 1 ≡ length ds
one_digit n ds l e =
    let zero_first : get_or ds 0 0 ≡ 48 = eqb-true (get_or ds 0 0) 48 e in
    elim (cases_lt 0 n) [ inl h ↦ let over = l.above h in absurd (omega (arith, over, zero_first)) | inr h ↦ sym (l.short (omega arith)) ]

natural_len-by : (n : ℕ) (ds : List ℕ) (zero_first : Bool) → AllDigits 10 ds → Leads n ds → (first ds == byte "0") ≡ zero_first → (if zero_first then 1 else prefix_len is_ascii_digit ds) ≡ length ds
natural_len-by n ds true h l e = one_digit n ds l e
natural_len-by n ds false h l e = all_counted ds h

natural_len_is : (n : ℕ) (ds : List ℕ) → AllDigits 10 ds → Leads n ds → natural_len ds ≡ length ds
natural_len_is n ds h l =
    let hexadecimal = is_ascii_hexdigit (slice_index ds 2) in
    let other = if first ds == byte "0" then 1 else prefix_len is_ascii_digit ds in
    ap (λ b. if b && hexadecimal then 2 + prefix_len is_ascii_hexdigit (drop 2 ds) else other) (no_prefix ds h) ∙ natural_len-by n ds (first ds == byte "0") h l refl

-- a printed natural is one natural literal
pub natural_spelled : (n : ℕ) → n < 2 ^ 128 → is_natural (write_natural n) ≡ true
natural_spelled n h =
    let ds = decimal n in
    let numeral = decimal_is_IsNumeral_wide n (wide n h) in
    both_true (lt-ltb 0 (length ds) numeral.0.0) (eq-eqb (natural_len ds) (length ds) (natural_len_is n ds numeral.0.1 (leads n (wide n h))))

value_is : (n : ℕ) → n < 2 ^ 128 → natural_value (decimal n) ≡ n
value_is n h =
    let ds = decimal n in
    let numeral = decimal_is_IsNumeral_wide n (wide n h) in
    ap (λ b. if b then digits_value 16 (drop 2 ds) else digits_value 10 ds) (no_prefix ds numeral.0.1) ∙ numeral.1

-- and is read as that natural
pub natural_read : (n : ℕ) → n < 2 ^ 128 → read_natural (write_natural n) ≡ Some n
natural_read n h =
    ap (λ v. if natural_fits v then Some v else None) (value_is n h) ∙ ap (λ b. if b then Some n else None) (lt-ltb n (2 ^ 128) h)

half : (n : ℕ) → n < 2 ^ 127 → n < 2 ^ 128
half n h = lt_trans h (lit< tt)

half_suc : (n : ℕ) → n < 2 ^ 127 → suc n < 2 ^ 128
half_suc n h = omega arith

-- the same of a sign and a natural
signed_spelled : (sign n : ℕ) → is_sign sign ≡ true → n < 2 ^ 128 → is_integer (sign ∷ decimal n) ≡ true
signed_spelled sign n s h =
    let ds = decimal n in
    let numeral = decimal_is_IsNumeral_wide n (wide n h) in
    let size = natural_len_is n ds numeral.0.1 (leads n (wide n h)) in
    let some : ltb 0 (natural_len ds) ≡ true = lt-ltb 0 (natural_len ds) (omega (arith, size, numeral.0.0)) in
    let len : integer_len (sign ∷ ds) ≡ suc (length ds) = ap (λ b. if b then suc (natural_len ds) else 0) (both_true s some) ∙ ap suc size in
    both_true (lt-ltb 0 (suc (length ds)) (omega arith)) (eq-eqb (integer_len (sign ∷ ds)) (suc (length ds)) len)

pub integer_spelled : (z : ℤ) → integer_fits z ≡ true → is_integer (write_integer z) ≡ true
integer_spelled (pos n) h = signed_spelled (byte "+") n refl (half n (ltb-true n (2 ^ 127) h))
integer_spelled (negsuc n) h = signed_spelled (byte "-") (suc n) refl (half_suc n (ltb-true n (2 ^ 127) h))

pub integer_read : (z : ℤ) → integer_fits z ≡ true → read_integer (write_integer z) ≡ Some z
integer_read (pos n) h =
    ap (λ v. if integer_fits (pos v) then Some (pos v) else None) (value_is n (half n (ltb-true n (2 ^ 127) h))) ∙ ap (λ b. if b then Some (pos n) else None) h
integer_read (negsuc n) h =
    ap (λ v. let z = neg_ℤ (pos v) in if integer_fits z then Some z else None) (value_is (suc n) (half_suc n (ltb-true n (2 ^ 127) h))) ∙ ap (λ b. if b then Some (negsuc n) else None) h
