-- The digits of a digest.
use Rattle.std.proofs.Common.{◌≡◌, ℕ, ◌+◌, ◌-◌, ◌^◌, ◌/◌, ◌%◌, ◌<◌, false, List, [], ◌∷◌, ◌++◌, Some, length, take, get_or, refl, ap, sym, subst, ◌∙◌, append_assoc}
use Rattle.std.specs.Prelude.{flat_map}
use Rattle.std.specs.Fmt.{AppendsText, digits, digit_glyph, digits_output, styled_digits_output, padded_integral, shown_prefix, radix_prefix, format_spec}
use Rattle.std.specs.Option.{option_map}
use Rattle.std.proofs.lemmas.Fmt.{hex_byte}
use Rattle.std.proofs.lemmas.List.{take_more}

abbrev pub glyphs : ℕ → List ℕ
glyphs b = digit_glyph false (b / 16) ∷ digit_glyph false (b % 16) ∷ []

hex_output : (n : ℕ) (d : _) (s : _) → n < 256 → digits_output d ≡ Some (digits 16 false n) → s ≡ format_spec 32 0 4 2 (2 ^ 64 - 1) → styled_digits_output d s ≡ Some (glyphs n)
hex_output n d s small e f =
    let shown : ℕ → _ → List ℕ → List ℕ = λ base spec. padded_integral spec false (shown_prefix spec (radix_prefix base)) in
    ap (styled_digits_output d) f
    ∙ ap (option_map (shown d.base (format_spec 32 0 4 2 (2 ^ 64 - 1)))) e
    ∙ ap Some (hex_byte false n small)

glyphs-push : (bs : List ℕ) (b : ℕ) → flat_map glyphs (bs ++ b ∷ []) ≡ flat_map glyphs bs ++ glyphs b
glyphs-push [] b = refl
glyphs-push (c ∷ bs) b = ap (λ l. glyphs c ++ l) (glyphs-push bs b) ∙ sym (append_assoc (glyphs c) (flat_map glyphs bs) (glyphs b))

-- one byte more
pub hexadecimal_step : (bytes : List ℕ) (i n : ℕ) (old text new : List ℕ) (d : _) (s : _) → i < length bytes → n ≡ get_or bytes i 0 → n < 256 →
    digits_output d ≡ Some (digits 16 false n) → s ≡ format_spec 32 0 4 2 (2 ^ 64 - 1) → AppendsText text new (styled_digits_output d s) →
    text ≡ old ++ flat_map glyphs (take i bytes) → new ≡ old ++ flat_map glyphs (take (i + 1) bytes)
hexadecimal_step bytes i n old text new d s within is small digits_are spec_is written so_far =
    let added : new ≡ text ++ glyphs n = subst (AppendsText text new) (hex_output n d s small digits_are spec_is) written in
    added ∙ ap (λ l. l ++ glyphs n) so_far ∙ append_assoc old (flat_map glyphs (take i bytes)) (glyphs n)
    ∙ ap (λ l. old ++ l) (sym (glyphs-push (take i bytes) n) ∙ ap (λ m. flat_map glyphs (take i bytes ++ m ∷ [])) is ∙ ap (flat_map glyphs) (sym (take_more bytes i 0 within)))
