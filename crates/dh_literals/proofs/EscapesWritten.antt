-- A text as it is printed between double quotes: runs of bytes that stand for themselves, and escapes between them.
use Rattle.std.proofs.Common.{◌≡◌, ℕ, zero, suc, ◌-◌, ◌^◌, ◌<◌, ◌≤◌, ◌≢◌, ◌/◌, ◌%◌, true, false, List, [], ◌∷◌, ◌++◌, length, take, drop, slice_index, Option, None, Some, MatchOption, Result, OnOk, codes, append_assoc, take-append-drop, drop-cons, refl, ap, sym, subst, ◌∙◌, arith, ⊎_elim}
use lib.Utf8.{scalar, encode, scalar_cases}
use Rattle.std.proofs.str.Laws.{Shape, shape, of1, of2, of3, of4}
use Rattle.std.proofs.lemmas.Bool.{cases_lt}
use Rattle.std.proofs.lemmas.Bool.Decides.{nat_tests}
use Rattle.std.proofs.lemmas.Fmt.{hex_byte}
use Rattle.std.proofs.Math.Seq.{take-length}
use Rattle.std.proofs.lemmas.Result.{on_ok_weaker}
use Rattle.std.specs.Fmt.{AppendsText, ◌++?◌, digits, digit_glyph, digits_output, styled_digits_output, padded_integral, shown_prefix, radix_prefix, format_spec}
use Rattle.std.specs.List.{AllWithin, HoldsAt}
use Rattle.std.specs.Option.{option_map}
use Rattle.std.specs.Str.{byte}
use Rattle.dh_syntax.specs.Text.Literals.{escape, escape_byte, hex_digit}

pub escape-append : (xs ys : List ℕ) → escape (xs ++ ys) ≡ escape xs ++ escape ys
escape-append [] ys = refl
escape-append (x ∷ xs) ys = ap (λ l. escape_byte x ++ l) (escape-append xs ys) ∙ sym (append_assoc (escape_byte x) (escape xs) (escape ys))

-- a byte that stands for itself
plain_byte : (b : ℕ) → 32 ≤ b → b ≢ byte "\"" → b ≢ byte "\\" → b ≢ byte "$" → escape_byte b ≡ b ∷ []
plain_byte b h p q r = grind (arith, nat_tests)

high_byte : (b : ℕ) (bs : List ℕ) → 128 ≤ b → escape bs ≡ bs → escape (b ∷ bs) ≡ b ∷ bs
high_byte b bs h e = ap (λ l. l ++ escape bs) (plain_byte b (omega arith) (omega arith) (omega arith) (omega arith)) ∙ ap (λ l. b ∷ l) e

-- a character that stands for itself
plain_bytes : (c : ℕ) → Shape c → 32 ≤ c → c ≢ byte "\"" → c ≢ byte "\\" → c ≢ byte "$" → escape (encode c) ≡ encode c
plain_bytes c (of1 h e) low p q r = ap escape e ∙ ap (λ l. l ++ []) (plain_byte c low p q r) ∙ sym e
plain_bytes c (of2 a b l h f s e) low p q r = ap escape e ∙ high_byte a (b ∷ []) (omega arith) (high_byte b [] f.0 refl) ∙ sym e
plain_bytes c (of3 a b d l h f g s e) low p q r = ap escape e ∙ high_byte a (b ∷ d ∷ []) (omega arith) (high_byte b (d ∷ []) f.0 (high_byte d [] g.0 refl)) ∙ sym e
plain_bytes c (of4 a b d x l h f g k s e) low p q r = ap escape e ∙ high_byte a (b ∷ d ∷ x ∷ []) (omega arith) (high_byte b (d ∷ x ∷ []) f.0 (high_byte d (x ∷ []) g.0 (high_byte x [] k.0 refl))) ∙ sym e

pub plain_character : (c : ℕ) → scalar c ≡ true → 32 ≤ c → c ≢ byte "\"" → c ≢ byte "\\" → c ≢ byte "$" → escape (encode c) ≡ encode c
plain_character c s low p q r = plain_bytes c (shape c (scalar_cases c s)) low p q r

-- a control character without a letter of its own
pub control_byte : (b : ℕ) → b < 32 → b ≢ 8 → b ≢ 12 → b ≢ 10 → b ≢ 13 → b ≢ 9 → escape_byte b ≡ codes "\\u00" ++ (hex_digit (b / 16) ∷ hex_digit (b % 16) ∷ [])
control_byte b h p q r s t = grind (arith, nat_tests)

hex_output : (n : ℕ) (d : _) (s : _) → n < 256 → digits_output d ≡ Some (digits 16 true n) → s ≡ format_spec 32 0 4 2 (2 ^ 64 - 1) → styled_digits_output d s ≡ Some (digit_glyph true (n / 16) ∷ digit_glyph true (n % 16) ∷ [])
hex_output n d s small e f =
    let shown : ℕ → _ → List ℕ → List ℕ = λ base spec. padded_integral spec false (shown_prefix spec (radix_prefix base)) in
    ap (styled_digits_output d) f
    ∙ ap (option_map (shown d.base (format_spec 32 0 4 2 (2 ^ 64 - 1)))) e
    ∙ ap Some (hex_byte true n small)

written : (old new : List ℕ) (o : Option (List ℕ)) (bs : List ℕ) → o ≡ Some bs → AppendsText old new (Some (codes "\\u00") ++? o) → new ≡ old ++ (codes "\\u00" ++ bs)
written old new o bs e h =
    let P : Option (List ℕ) → Type 0 = λ p. AppendsText old new (Some (codes "\\u00") ++? p) in
    subst P e h

-- a control character that has no letter, written by its number
pub control_written : {E : Type 0} (b : ℕ) (old new : List ℕ) (r : Result (Unit {0}) E) (d : _) (s : _) → b < 32 → b ≢ 8 → b ≢ 12 → b ≢ 10 → b ≢ 13 → b ≢ 9 → digits_output d ≡ Some (digits 16 true b) → s ≡ format_spec 32 0 4 2 (2 ^ 64 - 1) → OnOk r (AppendsText old new (Some (codes "\\u00") ++? styled_digits_output d s)) → OnOk r (new ≡ old ++ escape_byte b)
control_written {E} b old new r d s h n8 n12 n10 n13 n9 digits_are spec_is w =
    on_ok_weaker r (λ a. written old new (styled_digits_output d s) (digit_glyph true (b / 16) ∷ digit_glyph true (b % 16) ∷ []) (hex_output b d s (omega arith) digits_are spec_is) a ∙ ap (λ l. old ++ l) (sym (control_byte b h n8 n12 n10 n13 n9))) w

-- ---- bytes that stand for themselves, and those that do not

abbrev pub IsPlain : ℕ → Type 0
IsPlain b = escape_byte b ≡ b ∷ []

abbrev pub IsEscaped : ℕ → Type 0
IsEscaped b = escape_byte b ≢ b ∷ []

pub escaped_control : (b : ℕ) → IsEscaped b → b ≢ byte "\"" → b ≢ byte "\\" → b ≢ byte "$" → b < 32
escaped_control b h p q r = ⊎_elim (λ low. low) (λ high. absurd (h (plain_byte b high p q r))) (cases_lt b 32)

pub escaped_ascii : (b : ℕ) → IsEscaped b → b < 128
escaped_ascii b h = ⊎_elim (λ low. low) (λ high. absurd (h (plain_byte b (omega arith) (omega arith) (omega arith) (omega arith)))) (cases_lt b 128)

plain_front : (bs : List ℕ) (n : ℕ) → n ≤ length bs → AllWithin IsPlain bs 0 n → escape (take n bs) ≡ take n bs
plain_front bs zero low h = refl
plain_front [] (suc n) low h = refl
plain_front (b ∷ bs) (suc n) low h =
    ap (λ l. l ++ escape (take n bs)) (h 0 0 (omega arith) (omega arith))
    ∙ ap (λ l. b ∷ l) (plain_front bs n (omega arith) (λ k d from until. h (suc k) d (omega arith) (omega arith)))

-- what a search for the first escaped byte tells
pub first_escape : (bs : List ℕ) (r : Option ℕ) → MatchOption r (AllWithin IsPlain bs 0 (length bs)) (λ i. (i < length bs) × HoldsAt IsEscaped bs i × AllWithin IsPlain bs 0 i) → MatchOption r (escape bs ≡ bs) (λ i. (i < length bs) × (escape (take i bs) ≡ take i bs) × IsEscaped (slice_index bs i))
first_escape bs None h = subst (λ l. escape l ≡ l) (take-length bs) (plain_front bs (length bs) (omega arith) h)
first_escape bs (Some i) h = let low = h.0 in (low, plain_front bs i (omega arith) h.2, h.1 0)

-- a run of plain bytes and the escaped one behind it, written
pub run_written : (text one two rest next all : List ℕ) (i : ℕ) → i < length rest → escape (take i rest) ≡ take i rest → one ≡ text ++ take i rest → two ≡ one ++ escape_byte (slice_index rest i) → next ≡ drop (suc i) rest → text ++ escape rest ≡ all → two ++ escape next ≡ all
run_written text one two rest next all i low plain first second behind so_far =
    let b = slice_index rest i in
    let split : rest ≡ take i rest ++ (b ∷ next) = sym (take-append-drop i rest) ∙ ap (λ l. take i rest ++ l) (drop-cons rest i 0 low ∙ ap (λ l. b ∷ l) (sym behind)) in
    let whole : escape rest ≡ take i rest ++ (escape_byte b ++ escape next) = ap escape split ∙ escape-append (take i rest) (b ∷ next) ∙ ap (λ l. l ++ escape (b ∷ next)) plain in
    ap (λ l. l ++ escape next) (second ∙ ap (λ l. l ++ escape_byte b) first) ∙ append_assoc (text ++ take i rest) (escape_byte b) (escape next) ∙ append_assoc text (take i rest) (escape_byte b ++ escape next)
    ∙ ap (λ l. text ++ l) (sym whole) ∙ so_far
