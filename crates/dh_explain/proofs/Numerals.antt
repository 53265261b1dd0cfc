-- Numbers as words.
use Rattle.std.specs.Prelude.{◌≡◌, ◌<◌, ◌^◌, ℕ, Bool, true, false, ◌&&◌, not, ◌==◌, nat_lt, if◌then◌else◌, List, [], ◌∷◌, Some, None, Result, Ok, Err, refl}
use Rattle.std.specs.Char.{is_ascii_digit}
use Rattle.std.specs.List.{list_all}
use Rattle.std.specs.Result.{OkIff, result_ok}
use Rattle.std.specs.Str.Parse.{AllDigits, IsNumeral, ParsesUnsigned, digits_value}
use Rattle.std.proofs.Common.{ap, sym, ◌∙◌, arith, subst as along}
use Rattle.std.proofs.lemmas.Bool.{and_parts}
use Rattle.std.proofs.lemmas.Bool.Decides.{Decides-ltb}
use Rattle.std.proofs.lemmas.Str.Parse.{without_leading_plus_none}
use Rattle.dh_literals.proofs.NumbersRead.{decimal_digit, no_plus}
use Rattle.dh_explain.specs.RuleWords.{is_numeral, number_of}

all_digits : (ds : List ℕ) → list_all is_ascii_digit ds ≡ true → AllDigits 10 ds
all_digits [] h = tt
all_digits (c ∷ cs) h = let parts = and_parts (is_ascii_digit c) (list_all is_ascii_digit cs) h in (decimal_digit c parts.0, all_digits cs parts.1)

numeral : (w : List ℕ) → is_numeral w ≡ true → IsNumeral 10 w
numeral [] h = absurd cc
numeral (b ∷ bs) h = (omega arith, all_digits (b ∷ bs) (and_parts (not (b == 48)) (list_all is_ascii_digit (b ∷ bs)) h).1)

by_value : {E : Type 0} (w : List ℕ) (r : Result ℕ E) → IsNumeral 10 w → OkIff r (IsNumeral 10 w × (digits_value 10 w < 2 ^ 32)) (digits_value 10 w)
    → (t : Bool) → nat_lt (digits_value 10 w) 4294967296 ≡ t → result_ok r ≡ (if t then Some (digits_value 10 w) else None)
by_value w (Ok x) n (p, q) true e = ap Some q
by_value w (Ok x) n (p, q) false e = absurd (let k = (Decides-ltb (digits_value 10 w) 4294967296).1 p.1 in let z = sym e ∙ k in cc)
by_value w (Err x) n h true e = absurd (h (n, (Decides-ltb (digits_value 10 w) 4294967296).0 e))
by_value w (Err x) n h false e = refl

-- what `from_str_radix` reads in a numeral
pub number_read : {E : Type 0} (w : List ℕ) (r : Result ℕ E) → is_numeral w ≡ true → ParsesUnsigned 32 10 w r → result_ok r ≡ number_of w
number_read {E} w r c p =
    let n = numeral w c in
    let P : List ℕ → Type 0 = λ t. OkIff r (IsNumeral 10 t × (digits_value 10 t < 2 ^ 32)) (digits_value 10 t) in
    by_value w r n (along P (without_leading_plus_none w (no_plus 10 w (omega arith) n)) p) (nat_lt (digits_value 10 w) 4294967296) refl
    ∙ ap (λ b. if b && nat_lt (digits_value 10 w) 4294967296 then Some (digits_value 10 w) else None) (sym c)
