-- Tests of texts, a byte at a time.
use Rattle.std.proofs.Common.{◌≡◌, ℕ, zero, suc, ◌+◌, ◌-◌, ◌<◌, Bool, true, false, ◌&&◌, ◌||◌, ◌==◌, not, List, [], ◌∷◌, length, drop, get_or, Some, None, if◌then◌else◌, refl, sym, ◌∙◌, ap, arith}
use Rattle.std.proofs.lemmas.List.{drop_more, drop_all}
use Rattle.std.specs.List.{list_all}
use Rattle.std.specs.Str.{IsAscii, IsUtf8}
use Rattle.std.specs.Char.{is_ascii_hexdigit, is_ascii_digit, is_ascii_alphanumeric}
use Rattle.std.proofs.lemmas.Bool.Decides.{nat_tests}
use Rattle.std.proofs.lemmas.Str.{IsUtf8-from_ascii, IsUtf8-from_is_utf8}
use Rattle.std.proofs.lemmas.Str.Ascii.{IsAscii-nil, IsAscii-cons}
use Rattle.dh_syntax.specs.Bytes.BinaryLeaves.{check}
use Rattle.dh_syntax.specs.Imports.Locations.{is_kept_in_url}
use Rattle.dh_syntax.specs.Text.Characters.{is_quoted_label_byte, is_quoted_path_byte, is_quoted_environment_byte, is_query_byte}
use Rattle.dh_decode.specs.Inside.States.{test_of}
use Rattle.dh_decode.specs.declared.places.Test.{Test}
use Rattle.dh_decode.specs.declared.places.Test.TheVariants as tests
use Rattle.dh_syntax.specs.Expressions.Arity.{has_some}
use Rattle.dh_syntax.specs.Expressions.Spellable.{is_encoded, is_label, is_query, is_host, after_letter, after_hyphen, after_dot}
use Rattle.dh_decode.specs.Inside.Spelling.{url_class, encoded_next}

-- the rest of a text behind one more byte
pub encoded_step : (test : ℕ → Bool) (n m : ℕ) (bs : List ℕ) (i b : ℕ) (r : Bool) → i < length bs → b ≡ get_or bs i 0 → ((cs : List ℕ) → is_encoded test n (b ∷ cs) ≡ is_encoded test m cs) → is_encoded test n (drop i bs) ≡ r → is_encoded test m (drop (i + 1) bs) ≡ r
encoded_step test n m bs i b r h e s k =
    sym (s (drop (i + 1) bs)) ∙ ap (λ c. is_encoded test n (c ∷ drop (i + 1) bs)) e ∙ ap (is_encoded test n) (sym (drop_more bs i 0 h)) ∙ k

pub encoded_stop : (test : ℕ → Bool) (n : ℕ) (bs : List ℕ) (i b : ℕ) (r : Bool) → i < length bs → b ≡ get_or bs i 0 → ((cs : List ℕ) → is_encoded test n (b ∷ cs) ≡ false) → is_encoded test n (drop i bs) ≡ r → false ≡ r
encoded_stop test n bs i b r h e s k =
    sym (s (drop (i + 1) bs)) ∙ ap (λ c. is_encoded test n (c ∷ drop (i + 1) bs)) e ∙ ap (is_encoded test n) (sym (drop_more bs i 0 h)) ∙ k

pub encoded_percent : (q : Bool) (bs : List ℕ) → is_encoded (url_class q) 0 (37 ∷ bs) ≡ is_encoded (url_class q) 2 bs
encoded_percent true bs = by (is_encoded (url_class true) 2 bs)
  where
    by : (c : Bool) → (c || false) ≡ c
    by true = refl
    by false = refl
encoded_percent false bs = by (is_encoded (url_class false) 2 bs)
  where
    by : (c : Bool) → (c || false) ≡ c
    by true = refl
    by false = refl

pub has_some_first : (bs : List ℕ) (b : Bool) → b ≡ (length bs == 0) → b ≡ false → true ≡ has_some bs
has_some_first [] b e h = absurd cc
has_some_first (x ∷ bs) b e h = refl

pub encoded_digit : (test : ℕ → Bool) (n b : ℕ) (r : Bool) → 0 < n → r ≡ is_ascii_hexdigit b → r ≡ true → (bs : List ℕ) → is_encoded test n (b ∷ bs) ≡ is_encoded test (n - 1) bs
encoded_digit test zero b r h e f bs = absurd (omega arith)
encoded_digit test (suc n) b r h e f bs =
    ap (λ (c : Bool). c && is_encoded test n bs) (sym e ∙ f) ∙ ap (λ k. is_encoded test k bs) (sub_suc n)
  where
    sub_suc : (n : ℕ) → n ≡ suc n - 1
    sub_suc n = omega arith

-- ---- what passes a test is ASCII

and_left : (a b : Bool) → (a && b) ≡ true → a ≡ true
and_left true b h = refl
and_left false b h = h

and_right : (a b : Bool) → (a && b) ≡ true → b ≡ true
and_right true b h = h
and_right false b h = absurd cc

list_ascii : (test : ℕ → Bool) → ((b : ℕ) → test b ≡ true → b < 128) → (bs : List ℕ) → list_all test bs ≡ true → IsAscii bs
list_ascii test low [] h = IsAscii-nil
list_ascii test low (b ∷ bs) h = IsAscii-cons b bs (low b (and_left (test b) (list_all test bs) h)) (list_ascii test low bs (and_right (test b) (list_all test bs) h))

label_low : (b : ℕ) → is_quoted_label_byte b ≡ true → b < 128
label_low b h = grind (arith, nat_tests)

path_low : (b : ℕ) → is_quoted_path_byte b ≡ true → b < 128
path_low b h = grind (arith, nat_tests)

environment_low : (b : ℕ) → is_quoted_environment_byte b ≡ true → b < 128
environment_low b h = grind (arith, nat_tests)

digit_low : (b : ℕ) → is_ascii_digit b ≡ true → b < 128
digit_low b h = grind (arith, nat_tests)

hexdigit_low : (b : ℕ) → is_ascii_hexdigit b ≡ true → b < 128
hexdigit_low b h = grind (arith, nat_tests)

letter_low : (b : ℕ) → is_ascii_alphanumeric b ≡ true → b < 128
letter_low b h = grind (arith, nat_tests)

byte_low : (c b : ℕ) → c < 128 → (b == c) ≡ true → b < 128
byte_low c b k h = grind (arith, nat_tests)

kept_low : (b : ℕ) → is_kept_in_url b ≡ true → b < 128
kept_low b h = grind (arith, nat_tests)

query_low : (b : ℕ) → is_query_byte b ≡ true → b < 128
query_low b h = grind (arith, nat_tests)

-- of two ways to go on, each behind a byte of ASCII
either : (b : ℕ) (bs : List ℕ) (c x d y : Bool) → (c ≡ true → b < 128) → (x ≡ true → IsAscii bs) → (d ≡ true → b < 128) → (y ≡ true → IsAscii bs) → (c && x || d && y) ≡ true → IsAscii (b ∷ bs)
either b bs true true d y f g h k e = IsAscii-cons b bs (f refl) (g refl)
either b bs true false true true f g h k e = IsAscii-cons b bs (h refl) (k refl)
either b bs false x true true f g h k e = IsAscii-cons b bs (h refl) (k refl)
either b bs true false true false f g h k e = absurd cc
either b bs true false false y f g h k e = absurd cc
either b bs false x true false f g h k e = absurd cc
either b bs false x false y f g h k e = absurd cc

encoded_ascii : (test : ℕ → Bool) → ((b : ℕ) → test b ≡ true → b < 128) → (n : ℕ) (bs : List ℕ) → is_encoded test n bs ≡ true → IsAscii bs
encoded_ascii test low n [] h = IsAscii-nil
encoded_ascii test low zero (b ∷ bs) h = either b bs (b == 37) (is_encoded test 2 bs) (test b) (is_encoded test 0 bs) (byte_low 37 b (omega arith)) (encoded_ascii test low 2 bs) (low b) (encoded_ascii test low 0 bs) h
encoded_ascii test low (suc n) (b ∷ bs) h = IsAscii-cons b bs (hexdigit_low b (and_left (is_ascii_hexdigit b) (is_encoded test n bs) h)) (encoded_ascii test low n bs (and_right (is_ascii_hexdigit b) (is_encoded test n bs) h))

-- one of two facts
one_of : (c d : Bool) (P : Type 0) → (c ≡ true → P) → (d ≡ true → P) → (c || d) ≡ true → P
one_of true d P f g h = f refl
one_of false d P f g h = g h

both_of : (b : ℕ) (bs : List ℕ) (c d : Bool) → (c ≡ true → b < 128) → (d ≡ true → IsAscii bs) → (c && d) ≡ true → IsAscii (b ∷ bs)
both_of b bs c d f g h = IsAscii-cons b bs (f (and_left c d h)) (g (and_right c d h))

mutual
  host_ascii : (bs : List ℕ) → is_host bs ≡ true → IsAscii bs
  host_ascii [] h = IsAscii-nil
  host_ascii (b ∷ bs) h = both_of b bs (is_ascii_alphanumeric b) (after_letter bs) (letter_low b) (letter_ascii bs) h

  letter_ascii : (bs : List ℕ) → after_letter bs ≡ true → IsAscii bs
  letter_ascii [] h = IsAscii-nil
  letter_ascii (b ∷ bs) h =
      one_of _ (b == 58 && list_all is_ascii_digit bs) (IsAscii (b ∷ bs))
      (one_of _ (b == 46 && after_dot bs) (IsAscii (b ∷ bs))
      (one_of (is_ascii_alphanumeric b && after_letter bs) (b == 45 && after_hyphen bs) (IsAscii (b ∷ bs))
      (both_of b bs (is_ascii_alphanumeric b) (after_letter bs) (letter_low b) (letter_ascii bs))
      (both_of b bs (b == 45) (after_hyphen bs) (byte_low 45 b (omega arith)) (hyphen_ascii bs)))
      (both_of b bs (b == 46) (after_dot bs) (byte_low 46 b (omega arith)) (dot_ascii bs)))
      (both_of b bs (b == 58) (list_all is_ascii_digit bs) (byte_low 58 b (omega arith)) (list_ascii is_ascii_digit digit_low bs)) h

  hyphen_ascii : (bs : List ℕ) → after_hyphen bs ≡ true → IsAscii bs
  hyphen_ascii [] h = IsAscii-nil
  hyphen_ascii (b ∷ bs) h =
      one_of (is_ascii_alphanumeric b && after_letter bs) (b == 45 && after_hyphen bs) (IsAscii (b ∷ bs))
      (both_of b bs (is_ascii_alphanumeric b) (after_letter bs) (letter_low b) (letter_ascii bs))
      (both_of b bs (b == 45) (after_hyphen bs) (byte_low 45 b (omega arith)) (hyphen_ascii bs)) h

  dot_ascii : (bs : List ℕ) → after_dot bs ≡ true → IsAscii bs
  dot_ascii [] h = IsAscii-nil
  dot_ascii (b ∷ bs) h =
      one_of (is_ascii_alphanumeric b && after_letter bs) (b == 58 && list_all is_ascii_digit bs) (IsAscii (b ∷ bs))
      (both_of b bs (is_ascii_alphanumeric b) (after_letter bs) (letter_low b) (letter_ascii bs))
      (both_of b bs (b == 58) (list_all is_ascii_digit bs) (byte_low 58 b (omega arith)) (list_ascii is_ascii_digit digit_low bs)) h

-- what passes a test is UTF-8
pub passes_utf8 : (t : Test) (bs : List ℕ) → test_of t bs ≡ true → IsUtf8 bs
passes_utf8 tests.Named bs h = IsUtf8-from_ascii bs (list_ascii is_quoted_label_byte label_low bs (and_left (is_label bs) _ h))
passes_utf8 tests.Label bs h = IsUtf8-from_ascii bs (list_ascii is_quoted_label_byte label_low bs h)
passes_utf8 tests.Utf8 bs h = IsUtf8-from_is_utf8 bs h
passes_utf8 tests.Component bs h = IsUtf8-from_ascii bs (list_ascii is_quoted_path_byte path_low bs (and_right (has_some bs) _ h))
passes_utf8 tests.Host bs h = IsUtf8-from_ascii bs (host_ascii bs h)
passes_utf8 tests.Segment bs h = IsUtf8-from_ascii bs (encoded_ascii is_kept_in_url kept_low 0 bs h)
passes_utf8 tests.Environment bs h = IsUtf8-from_ascii bs (list_ascii is_quoted_environment_byte environment_low bs (and_right (has_some bs) _ h))

pub query_utf8 : (bs : List ℕ) → is_query bs ≡ true → IsUtf8 bs
query_utf8 bs h = IsUtf8-from_ascii bs (encoded_ascii is_query_byte query_low 0 bs h)

pub unspelled : (test : List ℕ → Bool) (bs : List ℕ) → (test bs ≡ true → IsUtf8 bs) → (IsUtf8 bs → ⊥) → check test bs ≡ None
unspelled test bs f g = by (test bs) refl
  where
    by : (c : Bool) → test bs ≡ c → (if c then Some bs else None) ≡ None
    by true h = absurd (g (f h))
    by false h = refl
