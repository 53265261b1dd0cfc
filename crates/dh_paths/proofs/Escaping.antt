-- What the crate percent_encoding writes with the set of this one is the standard's escaping of a component of a URL.
use Rattle.std.proofs.Common.{◌≡◌, ℕ, if◌then◌else◌, ◌/◌, ◌%◌, ◌<◌, Bool, true, false, not, List, [], ◌∷◌, ◌++◌, All, refl, sym, ◌∙◌, ap, ⊎_elim, arith}
use Rattle.std.specs.Fmt.{digit_glyph}
use Rattle.std.proofs.lemmas.Bool.{agree_below, agree_below_at, cases_Bool}
use Rattle.std.proofs.lemmas.List.Elements.{All-head, All-tail}
use Rattle.dh_syntax.specs.Imports.Locations.{is_kept_in_url, percent_escape, url_component}
use Rattle.percent_encoding.specs.AsciiSet.{should_percent_encode}
use Rattle.percent_encoding.specs.Percent.{percent_encode_byte, percent_encode}
use Rattle.percent_encoding.proofs.PercentLemmas.{IsByte, percent_encode-nil, percent_encode_escaped, percent_encode_kept}
use Rattle.dh_paths.specs.declared.escapes.TheConstants.{ESCAPED}

checked : agree_below (should_percent_encode ESCAPED) (λ b. not (is_kept_in_url b)) 256 ≡ true
unfolding should_percent_encode
checked = refl

escaped_is : (b : ℕ) → b < 256 → should_percent_encode ESCAPED b ≡ not (is_kept_in_url b)
escaped_is b h = agree_below_at (should_percent_encode ESCAPED) (λ n. not (is_kept_in_url n)) 256 b checked h

byte_is : (b : ℕ) → b < 256 → percent_encode_byte b ≡ percent_escape b
unfolding percent_encode_byte
byte_is b h = let high : b / 16 % 16 ≡ b / 16 = omega arith in ap (λ d. 37 ∷ digit_glyph true d ∷ digit_glyph true (b % 16) ∷ []) high

not_true : (x : Bool) → not x ≡ true → x ≡ false
not_true true h = sym h
not_true false h = refl

not_false : (x : Bool) → not x ≡ false → x ≡ true
not_false true h = refl
not_false false h = sym h

-- one byte more, as it is and escaped
pub kept_more : (b : ℕ) (bs : List ℕ) → is_kept_in_url b ≡ true → b ∷ url_component bs ≡ url_component (b ∷ bs)
kept_more b bs k = sym (ap (λ t. (if t then b ∷ [] else percent_escape b) ++ url_component bs) k)

pub escaped_more : (b : ℕ) (bs : List ℕ) → is_kept_in_url b ≡ false → percent_escape b ++ url_component bs ≡ url_component (b ∷ bs)
escaped_more b bs k = sym (ap (λ t. (if t then b ∷ [] else percent_escape b) ++ url_component bs) k)

pub percent_encode-escaped : (bs : List ℕ) → All IsByte bs → percent_encode ESCAPED bs ≡ url_component bs
percent_encode-escaped [] small = percent_encode-nil ESCAPED
percent_encode-escaped (b ∷ bs) small =
    let h = All-head IsByte b bs small in
    let rest = percent_encode-escaped bs (All-tail IsByte b bs small) in
    ⊎_elim
    (λ e. percent_encode_escaped ESCAPED b bs e ∙ ap (λ l. l ++ percent_encode ESCAPED bs) (byte_is b h) ∙ ap (λ l. percent_escape b ++ l) rest ∙ escaped_more b bs (not_true _ (sym (escaped_is b h) ∙ e)))
    (λ e. percent_encode_kept ESCAPED b bs e ∙ ap (λ l. b ∷ l) rest ∙ kept_more b bs (not_false _ (sym (escaped_is b h) ∙ e)))
    (cases_Bool (should_percent_encode ESCAPED b))
