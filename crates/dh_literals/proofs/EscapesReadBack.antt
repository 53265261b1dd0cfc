-- A text that was escaped is read as that text.
use Rattle.std.proofs.Common.{◌≡◌, ℕ, ◌/◌, ◌%◌, ◌<◌, ◌≤◌, ◌≢◌, true, not, if◌then◌else◌, List, [], ◌∷◌, ◌++◌, length, get_or, ◌&&◌, codes, append_assoc, append-nil, length-append, inl, inr, Ok, refl, ap, sym, subst, ◌∙◌, lit<, arith}
use lib.Utf8.{scalar, scalars, encode, encodes}
use Rattle.std.proofs.lemmas.Bool.{cases_lt, cases_eq}
use Rattle.std.proofs.lemmas.Bool.Decides.{nat_tests}
use Rattle.std.proofs.lemmas.Str.{char_from_byte, encode_ascii}
use Rattle.std.specs.Char.{digit_value, is_ascii_hexdigit}
use Rattle.std.specs.Str.{IsUtf8, byte}
use Rattle.std.specs.Str.Parse.{digits_value}
use Rattle.dh_syntax.specs.Text.Characters.{is_scalar, is_noncharacter}
use Rattle.dh_syntax.specs.Text.Literals.{escape, escape_byte, escaped, hex_digit, numbered, escape_or_character, text_of, unescape, unicode_escape}
use Rattle.dh_syntax.specs.Text.Stretches.{Reads, Faults, stretch}
use Rattle.dh_syntax.proofs.Numbers.{and-true_left, and-true_right}
use Rattle.dh_literals.proofs.Stretching.{onto, onto-none, onto-onto, one_character, one_escape, some_bytes}
use Rattle.dh_literals.proofs.EscapesWritten.{escape-append, plain_character, control_byte}

-- what stands for these bytes, before any rest
abbrev IsReadBack : List ℕ → Type 0
IsReadBack text = (rest : List ℕ) → stretch escape_or_character 0 (escape text ++ rest) ≡ onto text (length (escape text)) (stretch escape_or_character 0 rest)

-- the same of what is written for them
abbrev IsReadFrom : List ℕ → List ℕ → List ℕ → Type 0
IsReadFrom text rest written = stretch escape_or_character 0 (written ++ [] ++ rest) ≡ onto text (length (written ++ [])) (stretch escape_or_character 0 rest)

-- an escape of one letter
letter : (b l : ℕ) → escape_byte b ≡ byte "\\" ∷ l ∷ [] → ((rest : List ℕ) → escaped (l ∷ rest) ≡ Reads (b ∷ []) 2) → IsReadBack (b ∷ [])
letter b l e reads rest = subst (IsReadFrom (b ∷ []) rest) (sym e) (one_escape (l ∷ rest) (b ∷ []) 1 (omega arith) (reads rest))

-- a digit of an escape by its number
digit_read : (d : ℕ) → d < 16 → digit_value (hex_digit d) ≡ d
digit_read d h = grind (arith, nat_tests)

digit_is_one : (d : ℕ) → d < 16 → is_ascii_hexdigit (hex_digit d) ≡ true
digit_is_one d h = grind (arith, nat_tests)

control_named : (b : ℕ) → b < 32 → (is_scalar b && not (is_noncharacter b)) ≡ true
control_named b h = grind (arith, nat_tests)

number_read : (b : ℕ) (rest : List ℕ) → b < 32 → unicode_escape (byte "0" ∷ byte "0" ∷ hex_digit (b / 16) ∷ hex_digit (b % 16) ∷ rest) ≡ Reads (encode b) 6
number_read b rest h =
    let m = hex_digit (b / 16) in
    let n = hex_digit (b % 16) in
    let high : b / 16 < 16 = omega arith in
    let low : b % 16 < 16 = omega arith in
    let value : digits_value 16 (byte "0" ∷ byte "0" ∷ m ∷ n ∷ []) ≡ b = let p = digit_read (b / 16) high in let q = digit_read (b % 16) low in omega (arith, p, q) in
    ap (λ t. if t && (is_ascii_hexdigit n && true) then numbered (digits_value 16 (byte "0" ∷ byte "0" ∷ m ∷ n ∷ [])) 6 else Faults) (digit_is_one (b / 16) high)
    ∙ ap (λ t. if t && true then numbered (digits_value 16 (byte "0" ∷ byte "0" ∷ m ∷ n ∷ [])) 6 else Faults) (digit_is_one (b % 16) low)
    ∙ ap (λ k. numbered k 6) value
    ∙ ap (λ t. if t then Reads (encode b) 6 else Faults) (control_named b h)

-- an escape by its number
number : (b : ℕ) → b < 32 → b ≢ 8 → b ≢ 12 → b ≢ 10 → b ≢ 13 → b ≢ 9 → IsReadBack (b ∷ [])
number b h n8 n12 n10 n13 n9 rest =
    let digits : List ℕ = hex_digit (b / 16) ∷ hex_digit (b % 16) ∷ [] in
    let one_byte = encode_ascii b (omega arith) in
    let reads = number_read b rest h ∙ ap (λ l. Reads l 6) one_byte in
    subst (IsReadFrom (b ∷ []) rest) (sym (control_byte b h n8 n12 n10 n13 n9)) (one_escape (codes "u00" ++ digits ++ rest) (b ∷ []) 5 (omega arith) reads)

-- a character that stands for itself
plain : (c : ℕ) → scalar c ≡ true → 32 ≤ c → c ≢ byte "\"" → c ≢ byte "\\" → c ≢ byte "$" → IsReadBack (encode c)
plain c s low quote backslash dollar rest =
    let other : get_or (encode c) 0 0 ≢ byte "\\" = λ e. backslash (char_from_byte (encode c) [] c (sym (append-nil (encode c))) (omega (arith, e)) (some_bytes c s) ∙ e) in
    let P : List ℕ → Type 0 = λ w. stretch escape_or_character 0 (w ++ rest) ≡ onto (encode c) (length w) (stretch escape_or_character 0 rest) in
    subst P (sym (plain_character c s low quote backslash dollar)) (one_character c rest s other)

-- a character that may be this one
or_else : (c b : ℕ) → b < 128 → IsReadBack (b ∷ []) → (c ≢ b → IsReadBack (encode c)) → IsReadBack (encode c)
or_else c b ascii here other = elim (cases_eq c b) [
  | inl e ↦ subst IsReadBack (sym (ap encode e ∙ encode_ascii b ascii)) here
  | inr n ↦ other n
]

character : (c : ℕ) → scalar c ≡ true → IsReadBack (encode c)
character c s =
    or_else c (byte "\"") (lit< tt) (letter (byte "\"") (byte "\"") refl (λ r. refl)) (λ quote.
    or_else c (byte "\\") (lit< tt) (letter (byte "\\") (byte "\\") refl (λ r. refl)) (λ backslash.
    or_else c (byte "$") (lit< tt) (letter (byte "$") (byte "$") refl (λ r. refl)) (λ dollar.
    or_else c 8 (lit< tt) (letter 8 (byte "b") refl (λ r. refl)) (λ n8.
    or_else c 12 (lit< tt) (letter 12 (byte "f") refl (λ r. refl)) (λ n12.
    or_else c 10 (lit< tt) (letter 10 (byte "n") refl (λ r. refl)) (λ n10.
    or_else c 13 (lit< tt) (letter 13 (byte "r") refl (λ r. refl)) (λ n13.
    or_else c 9 (lit< tt) (letter 9 (byte "t") refl (λ r. refl)) (λ n9.
    elim (cases_lt c 32) [
      | inl low ↦ subst IsReadBack (sym (encode_ascii c (omega arith))) (number c low n8 n12 n10 n13 n9)
      | inr high ↦ plain c s high quote backslash dollar
    ]))))))))

chars_back : (cs : List ℕ) → scalars cs ≡ true → IsReadBack (encodes cs)
chars_back [] s rest = onto-none (stretch escape_or_character 0 rest)
chars_back (c ∷ cs) s rest =
    let here = escape (encode c) in
    let later = escape (encodes cs) in
    let S = stretch escape_or_character 0 rest in
    ap (λ w. stretch escape_or_character 0 (w ++ rest)) (escape-append (encode c) (encodes cs))
    ∙ ap (stretch escape_or_character 0) (append_assoc here later rest)
    ∙ character c (and-true_left (scalar c) (scalars cs) s) (later ++ rest)
    ∙ ap (onto (encode c) (length here)) (chars_back cs (and-true_right (scalar c) (scalars cs) s) rest)
    ∙ onto-onto (encode c) (encodes cs) (length here) (length later) S
    ∙ ap (λ k. onto (encode c ++ encodes cs) k S) (sym (ap length (escape-append (encode c) (encodes cs)) ∙ length-append here later))

pub text_read : (text : List ℕ) → IsUtf8 text → unescape (escape text) ≡ Ok text
text_read text u =
    ap unescape (sym (append-nil (escape text)))
    ∙ ap text_of (subst IsReadBack u.1.1 (chars_back u.0 u.1.0) [])
    ∙ ap Ok (append-nil text)
