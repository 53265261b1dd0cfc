-- Numbers as words.
use Rattle.std.specs.Prelude.{◌≡◌, ◌<◌, ◌^◌, ℕ, Bool, true, false, ◌&&◌, not, ◌==◌, nat_le, if◌then◌else◌, List, [], ◌∷◌, Option, Some, None, Result, Ok, Err, refl}
use Rattle.std.specs.Char.{is_ascii_digit}
use Rattle.std.specs.List.{list_all}
use Rattle.std.specs.Result.{OkIff, result_ok}
use Rattle.std.specs.Str.Parse.{AllDigits, IsNumeral, ParsesUnsigned, digits_value}
use Rattle.std.proofs.Common.{ap, sym, ◌∙◌, arith, subst as along, true≢false}
use Rattle.std.proofs.lemmas.Bool.{and_parts, leb-true}
use Rattle.std.proofs.lemmas.Str.Parse.{without_leading_plus_none}
use Rattle.dh_literals.proofs.NumbersRead.{decimal_digit, no_plus}
use Rattle.dh_gen.specs.Numbers.{is_numeral, most_number, number_of}

all_digits : (ds : List ℕ) → list_all is_ascii_digit ds ≡ true → AllDigits 10 ds
all_digits [] h = tt
all_digits (c ∷ cs) h = let parts = and_parts (is_ascii_digit c) (list_all is_ascii_digit cs) h in (decimal_digit c parts.0, all_digits cs parts.1)

pub numeral : (w : List ℕ) → is_numeral w ≡ true → IsNumeral 10 w
numeral [] h = absurd cc
numeral (b ∷ []) h = (omega arith, all_digits (b ∷ []) h)
numeral (b ∷ c ∷ bs) h = (omega arith, all_digits (b ∷ c ∷ bs) (and_parts (not (b == 48)) (list_all is_ascii_digit (b ∷ c ∷ bs)) h).1)

too_large : (v : ℕ) (t : Bool) → nat_le v 4000 ≡ t → (v < 2 ^ 32 → ⊥) → None ≡ (if t then Some v else None)
too_large v true e h = absurd (h (let k = leb-true v 4000 e in omega (arith, k)))
too_large v false e h = refl

abbrev has : Option ℕ → Bool
has (Some n) = true
has None = false

unparsed_by : {E : Type 0} (w : List ℕ) (r : Result ℕ E) → IsNumeral 10 w → OkIff r (IsNumeral 10 w × (digits_value 10 w < 2 ^ 32)) (digits_value 10 w) → result_ok r ≡ None
    → digits_value 10 w < 2 ^ 32 → ⊥
unparsed_by w (Ok x) n h e small = true≢false (ap has e)
unparsed_by w (Err x) n h e small = h (n, small)

-- a numeral that is no number of 32 bits is too large
pub unparsed : {E : Type 0} (w : List ℕ) (r : Result ℕ E) → is_numeral w ≡ true → ParsesUnsigned 32 10 w r → result_ok r ≡ None → None ≡ number_of w
unparsed {E} w r c p e =
    let n = numeral w c in
    let P : List ℕ → Type 0 = λ t. OkIff r (IsNumeral 10 t × (digits_value 10 t < 2 ^ 32)) (digits_value 10 t) in
    let large = unparsed_by w r n (along P (without_leading_plus_none w (no_plus 10 w (omega arith) n)) p) e in
    along (λ b. None ≡ (if b && nat_le (digits_value 10 w) most_number then Some (digits_value 10 w) else None)) (sym c) (too_large (digits_value 10 w) (nat_le (digits_value 10 w) 4000) refl large)
