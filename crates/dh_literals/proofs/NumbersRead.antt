-- What std's parsing of digits gives at a natural and at an integer.
use Rattle.std.proofs.Common.{◌≡◌, ℕ, suc, ◌+◌, ◌^◌, ◌<◌, ◌≤◌, Bool, true, false, cond, if◌then◌else◌, eqb, ltb, List, [], ◌∷◌, length, get_or, slice_index, ◌==◌, ◌&&◌, drop, Option, Some, None, Result, Ok, Err, refl, ap, sym, subst, arith}
use Rattle.std.proofs.lemmas.Bool.{eqb-true, true≢false}
use borrow.Author.Tests.{ltb-true}
use Rattle.dh_syntax.proofs.Numbers.{and-true_left, and-true_right}
use Rattle.std.proofs.lemmas.Bool.Decides.{nat_tests}
use Rattle.std.proofs.lemmas.Str.Parse.{without_leading_plus_none}
use Rattle.std.specs.Char.{digit_value, is_ascii_digit, is_ascii_hexdigit}
use Rattle.std.specs.List.{prefix_len}
use Rattle.std.specs.Result.{OkIff, result_ok}
use Rattle.std.specs.Str.{byte}
use Rattle.std.specs.Str.Parse.{AllDigits, IsNumeral, ParsesUnsigned, digits_value}
use Rattle.dh_syntax.specs.Text.Characters.{first, begins}
use Rattle.dh_syntax.specs.Text.Numerals.{is_natural, natural_len, read_natural}
use Rattle.dh_syntax.specs.Limits.{natural_fits}

pub decimal_digit : (c : ℕ) → is_ascii_digit c ≡ true → digit_value c < 10
decimal_digit c h = grind (arith, nat_tests)

pub hexadecimal_digit : (c : ℕ) → is_ascii_hexdigit c ≡ true → digit_value c < 16
hexadecimal_digit c h = grind (arith, nat_tests)

all_digits-by : (radix c n : ℕ) (cs : List ℕ) (passes : Bool) → (passes ≡ true → digit_value c < radix) → (n ≡ length cs → AllDigits radix cs) → cond passes (1 + n) 0 ≡ suc (length cs) → (digit_value c < radix) × AllDigits radix cs
all_digits-by radix c n cs true digit more h = (digit refl, more (omega (arith, h)))
all_digits-by radix c n cs false digit more h = absurd (omega (arith, h))

-- a text that passes a test of digits from its start to its end
pub all_digits : (radix : ℕ) (p : ℕ → Bool) → ((c : ℕ) → p c ≡ true → digit_value c < radix) → (ds : List ℕ) → prefix_len p ds ≡ length ds → AllDigits radix ds
all_digits radix p digit [] h = tt
all_digits radix p digit (c ∷ cs) h = all_digits-by radix c (prefix_len p cs) cs (p c) (digit c) (all_digits radix p digit cs) h

-- a numeral begins with no sign
pub no_plus : (radix : ℕ) (ds : List ℕ) → radix ≤ 16 → IsNumeral radix ds → get_or ds 0 0 ≡ 43 → ⊥
no_plus radix [] low h e = absurd (omega (arith, h.0))
no_plus radix (c ∷ cs) low h e = let below : digit_value c < radix = h.1.0 in grind (arith, nat_tests)

-- the number, where it fits
abbrev within : Bool → ℕ → Option ℕ
within fits v = if fits then Some v else None

within-ok : (fits : Bool) (v x : ℕ) → ltb v (2 ^ 128) ≡ fits → v < 2 ^ 128 → x ≡ v → Some x ≡ within fits v
within-ok true v x e h x_is = ap Some x_is
within-ok false v x e h x_is = grind (arith, nat_tests)

within-err : (fits : Bool) (v : ℕ) → ltb v (2 ^ 128) ≡ fits → ¬ (v < 2 ^ 128) → None ≡ within fits v
within-err true v e h = grind (arith, nat_tests)
within-err false v e h = refl

parsed : {E : Type 0} (radix : ℕ) (ds : List ℕ) (r : Result ℕ E) → IsNumeral radix ds → OkIff r (IsNumeral radix ds × (digits_value radix ds < 2 ^ 128)) (digits_value radix ds) → result_ok r ≡ within (natural_fits (digits_value radix ds)) (digits_value radix ds)
parsed radix ds (Ok x) n h = within-ok (natural_fits (digits_value radix ds)) (digits_value radix ds) x refl h.0.1 h.1
parsed radix ds (Err e) n h = within-err (natural_fits (digits_value radix ds)) (digits_value radix ds) refl (λ small. h (n, small))

-- what `from_str_radix` reads in a numeral
pub numeral_parsed : {E : Type 0} (radix : ℕ) (ds : List ℕ) (r : Result ℕ E) → radix ≤ 16 → IsNumeral radix ds → ParsesUnsigned 128 radix ds r → result_ok r ≡ within (natural_fits (digits_value radix ds)) (digits_value radix ds)
numeral_parsed {E} radix ds r low n h =
    let P : List ℕ → Type 0 = λ t. OkIff r (IsNumeral radix t × (digits_value radix t < 2 ^ 128)) (digits_value radix t) in
    parsed radix ds r n (subst P (without_leading_plus_none ds (no_plus radix ds low n)) h)

-- what follows `0x` in a natural is a hexadecimal numeral
hexadecimal_numeral-by : (ds : List ℕ) (digit : Bool) → is_ascii_hexdigit (get_or ds 0 0) ≡ digit → (if digit then 2 + prefix_len is_ascii_hexdigit ds else 1) ≡ suc (suc (length ds)) → IsNumeral 16 ds
hexadecimal_numeral-by [] true e h = grind (arith, nat_tests)
hexadecimal_numeral-by (c ∷ cs) true e h = (omega arith, all_digits 16 is_ascii_hexdigit hexadecimal_digit (c ∷ cs) (omega (arith, h)))
hexadecimal_numeral-by ds false e h = absurd (omega (arith, h))

pub hexadecimal_numeral : (ds : List ℕ) → is_natural (byte "0" ∷ byte "x" ∷ ds) ≡ true → IsNumeral 16 ds
hexadecimal_numeral ds h =
    let bs : List ℕ = byte "0" ∷ byte "x" ∷ ds in
    hexadecimal_numeral-by ds (is_ascii_hexdigit (get_or ds 0 0)) refl (eqb-true (natural_len bs) (length bs) (and-true_right (ltb 0 (length bs)) (eqb (natural_len bs) (length bs)) h))

-- every other natural is a decimal numeral
one_zero : (ds : List ℕ) → (first ds == byte "0") ≡ true → 1 ≡ length ds → IsNumeral 10 ds
one_zero [] e h = absurd (omega (arith, h))
one_zero (c ∷ []) e h = (omega arith, (grind (arith, nat_tests), tt))
one_zero (c ∷ d ∷ ds) e h = absurd (omega (arith, h))

decimal_numeral-by : (ds : List ℕ) (hexadecimal zero : Bool) (n : ℕ) → false ≡ hexadecimal → (first ds == byte "0") ≡ zero → 0 < length ds → (if hexadecimal then n else if zero then 1 else prefix_len is_ascii_digit ds) ≡ length ds → IsNumeral 10 ds
decimal_numeral-by ds true zero n none e some h = absurd (true≢false (sym none))
decimal_numeral-by ds false true n none e some h = one_zero ds e h
decimal_numeral-by ds false false n none e some h = (some, all_digits 10 is_ascii_digit decimal_digit ds h)

pub decimal_numeral : (ds : List ℕ) → is_natural ds ≡ true → begins "0x" ds ≡ false → IsNumeral 10 ds
decimal_numeral ds h none =
    decimal_numeral-by ds (begins "0x" ds && is_ascii_hexdigit (slice_index ds 2)) (first ds == byte "0") (2 + prefix_len is_ascii_hexdigit (drop 2 ds))
    (sym (ap (λ b. b && is_ascii_hexdigit (slice_index ds 2)) none)) refl
    (ltb-true 0 (length ds) (and-true_left (ltb 0 (length ds)) (eqb (natural_len ds) (length ds)) h))
    (eqb-true (natural_len ds) (length ds) (and-true_right (ltb 0 (length ds)) (eqb (natural_len ds) (length ds)) h))

not_both : (x y : Bool) → (x ≡ true → y ≡ true → ⊥) → (x && (y && true)) ≡ false
not_both false y h = refl
not_both true false h = refl
not_both true true h = absurd (h refl refl)

cons_same : (a x b y : ℕ) (rest : List ℕ) → a ≡ x → b ≡ y → a ∷ b ∷ rest ≡ x ∷ y ∷ rest
cons_same a x b y rest p q = cc

-- what begins with none `0x`
pub begins-not : (bs : List ℕ) → ((rest : List ℕ) → bs ≡ byte "0" ∷ byte "x" ∷ rest → ⊥) → begins "0x" bs ≡ false
begins-not [] none = refl
begins-not (a ∷ []) none = grind (arith, nat_tests)
begins-not (a ∷ b ∷ bs) none = not_both (eqb (byte "0") a) (eqb (byte "x") b) (λ x y. none bs (cons_same a 48 b 120 bs (sym (eqb-true 48 a x)) (sym (eqb-true 120 b y))))

-- what `from_str_radix` reads in a natural
pub reads_hexadecimal : {E : Type 0} (bs ds : List ℕ) (r : Result ℕ E) → bs ≡ byte "0" ∷ byte "x" ∷ ds → is_natural bs ≡ true → ParsesUnsigned 128 16 ds r → result_ok r ≡ read_natural bs
reads_hexadecimal {E} bs ds r e h p =
    let P : List ℕ → Type 0 = λ t. is_natural t ≡ true in
    let Q : List ℕ → Type 0 = λ t. result_ok r ≡ read_natural t in
    subst Q (sym e) (numeral_parsed 16 ds r (omega arith) (hexadecimal_numeral ds (subst P e h)) p)

pub reads_decimal : {E : Type 0} (bs : List ℕ) (r : Result ℕ E) → ((rest : List ℕ) → bs ≡ byte "0" ∷ byte "x" ∷ rest → ⊥) → is_natural bs ≡ true → ParsesUnsigned 128 10 bs r → result_ok r ≡ read_natural bs
reads_decimal {E} bs r none h p =
    let no_prefix : begins "0x" bs ≡ false = begins-not bs none in
    let Q : Bool → Type 0 = λ b. let v = if b then digits_value 16 (drop 2 bs) else digits_value 10 bs in result_ok r ≡ (if natural_fits v then Some v else None) in
    subst Q (sym no_prefix) (numeral_parsed 10 bs r (omega arith) (decimal_numeral bs h no_prefix) p)
