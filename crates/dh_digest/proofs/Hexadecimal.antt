-- The digits of bytes by a table, and by the glyphs of digits.
use Rattle.std.proofs.Common.{◌≡◌, ℕ, zero, suc, ◌<◌, ◌/◌, ◌%◌, ◌==◌, Bool, true, false, List, [], ◌∷◌, refl, ◌∙◌, ap, arith, eqb-true, Result, Ok, Err, IfOk, String, string_bytes}
use Rattle.std.specs.declared.alloc.Global.{Global}
use Rattle.std.specs.Fmt.{digit_glyph}
use Rattle.std.specs.Prelude.{slice_index}
use Rattle.std.proofs.lemmas.Bool.{agree_below, agree_below_at}
use Rattle.hex.specs.Hex.{IsBytes, encode_lower, encode_with, lower_digits}
use Rattle.dh_digest.specs.Digits.{hexadecimal}

table_checked : agree_below (λ d. slice_index lower_digits d == digit_glyph false d) (λ _. true) 16 ≡ true
table_checked = refl

glyph_of : (d : ℕ) → d < 16 → slice_index lower_digits d ≡ digit_glyph false d
glyph_of d h = eqb-true (slice_index lower_digits d) (digit_glyph false d) (agree_below_at (λ d. slice_index lower_digits d == digit_glyph false d) (λ _. true) 16 d table_checked h)

pub encode_lower-hexadecimal : (bytes : List ℕ) → IsBytes bytes → encode_lower bytes ≡ hexadecimal bytes
unfolding encode_with
encode_lower-hexadecimal [] h = refl
encode_lower-hexadecimal (b ∷ bs) h =
    let first : b < 256 = h zero in
    let high : b / 16 < 16 = omega arith in
    let low : b % 16 < 16 = omega arith in
    ap (λ d. d ∷ slice_index lower_digits (b % 16) ∷ encode_with lower_digits bs) (glyph_of (b / 16) high)
    ∙ ap (λ d. digit_glyph false (b / 16) ∷ d ∷ encode_with lower_digits bs) (glyph_of (b % 16) low)
    ∙ ap (λ ds. digit_glyph false (b / 16) ∷ digit_glyph false (b % 16) ∷ ds) (encode_lower-hexadecimal bs (λ i. h (suc i)))

pub encoded : {E : Type 0} (bytes : List ℕ) (r : Result (String Global) E) → IsBytes bytes → IfOk r (λ text. string_bytes text ≡ encode_lower bytes) → IfOk r (λ text. string_bytes text ≡ hexadecimal bytes)
encoded bytes (Ok text) h e = e ∙ encode_lower-hexadecimal bytes h
encoded bytes (Err f) h e = tt
