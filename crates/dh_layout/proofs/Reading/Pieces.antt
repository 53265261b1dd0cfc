-- The pieces of texts, and their interpolations.
use Rattle.std.proofs.Common.{◌≡◌, ℕ, zero, suc, ◌+◌, ◌/◌, ◌%◌, ◌<◌, ◌≤◌, ◌≢◌, Bool, true, false, not, if◌then◌else◌, ◌||◌, List, [], ◌∷◌, ◌++◌, length, take, drop, get_or, ◌&&◌, eqb, nat_eq, nat_lt, codes, append_assoc, append-nil, length-append, inl, inr, refl, ap, sym, subst, ◌∙◌, lit<, arith}
use lib.Utf8.{scalar, scalars, encode, encodes, scalar_cases}
use Rattle.std.proofs.str.Laws.{shape}
use Rattle.std.proofs.lemmas.Bool.{cases_lt, cases_eq}
use Rattle.std.proofs.lemmas.Bool.Decides.{nat_tests}
use Rattle.std.proofs.lemmas.List.{drop_at, take_at}
use Rattle.std.proofs.lemmas.Str.{char_from_byte, encode_ascii}
use Rattle.std.specs.List.{starts_with}
use Rattle.std.specs.Char.{digit_value, is_ascii_hexdigit}
use Rattle.std.specs.Str.{IsUtf8, byte, continuation_len, lead_bits}
use Rattle.std.specs.Str.Parse.{digits_value}
use Rattle.dh_syntax.specs.declared.tokens.TextForm.TheVariants.{DoubleQuoted}
use Rattle.dh_syntax.specs.Text.Characters.{begins, is_scalar, is_noncharacter, is_control, code_at, code_after}
use Rattle.dh_syntax.specs.Text.Literals.{escape, escape_byte, escaped, hex_digit, numbered, unicode_escape}
use Rattle.dh_syntax.specs.Text.LexTexts.{piece_character}
use Rattle.dh_syntax.specs.Text.Stretches.{Character, Reads, Ends, Faults, UpTo, stretch, itself}
use Rattle.dh_syntax.proofs.Numbers.{and-true_left, and-true_right}
use Rattle.dh_literals.proofs.Stretching.{onto, onto-none, onto-onto, by_first, has_head, some_bytes}
use Rattle.dh_literals.proofs.EscapesWritten.{escape-append, plain_character, control_byte}
use Rattle.dh_layout.proofs.Texts.Values.{HasNoNoncharacter}

abbrev pub piece_at : List ℕ → Character
piece_at bs = piece_character DoubleQuoted bs

-- the character at the front is told by its own bytes
code_within : (n k : ℕ) (xs rest : List ℕ) → n ≡ length xs → code_after n k (xs ++ rest) ≡ code_after n k xs
code_within zero k xs rest e = refl
code_within (suc n) k [] rest e = absurd (omega (arith, e))
code_within (suc n) k (x ∷ xs) rest e = code_within n _ xs rest (omega (arith, e))

code_front : (b : ℕ) (bs rest : List ℕ) → continuation_len b ≡ length bs → code_at (b ∷ bs ++ rest) ≡ code_at (b ∷ bs)
code_front b bs rest e = code_within (continuation_len b) (lead_bits b) bs rest e

by_itself : (b : ℕ) (bs rest : List ℕ) → continuation_len b ≡ length bs → 32 ≤ b → b ≢ 34 → b ≢ 92 → b ≢ 36 → is_noncharacter (code_at (b ∷ bs)) ≡ false
    → stretch piece_at 0 (b ∷ bs ++ rest) ≡ onto (b ∷ bs) (length (b ∷ bs)) (stretch piece_at 0 rest)
by_itself b bs rest counts low quote backslash dollar good =
    let quote' : eqb 34 b ≡ false = grind (arith, nat_tests) in
    let backslash' : eqb 92 b ≡ false = grind (arith, nat_tests) in
    let dollar' : eqb 36 b ≡ false = grind (arith, nat_tests) in
    let control : is_control b ≡ false = grind (arith, nat_tests) in
    let all = b ∷ (bs ++ rest) in
    let good' : is_noncharacter (code_at all) ≡ false = ap is_noncharacter (code_front b bs rest counts) ∙ good in
    let size : length bs ≤ length (bs ++ rest) = omega (arith, length-append bs rest) in
    let by : Bool → Bool → Bool → Bool → Bool → Character = λ q d s c g.
    if nat_lt 0 (if q && true then 1 else 0) || d then Ends else if s && true then escaped (bs ++ rest) else if c || g then Faults else itself all in
    let dollar_begins : begins "${" all ≡ false = ap (λ t. t && starts_with nat_eq (bs ++ rest) (codes "{")) dollar' in
    let reads : piece_at all ≡ Reads (b ∷ bs) (suc (length bs)) =
    ap (λ q. by q (begins "${" all) (eqb 92 b) (is_control b) (is_noncharacter (code_at all))) quote'
    ∙ ap (λ d. by false d (eqb 92 b) (is_control b) (is_noncharacter (code_at all))) dollar_begins
    ∙ ap (λ s. by false false s (is_control b) (is_noncharacter (code_at all))) backslash'
    ∙ ap (λ c. by false false false c (is_noncharacter (code_at all))) control
    ∙ ap (λ g. by false false false false g) good'
    ∙ ap (λ k. Reads (take (suc k) all) (suc k)) counts
    ∙ ap (λ l. Reads (b ∷ l) (suc (length bs))) (take_at bs rest (length bs) refl) in
    by_first piece_at b (length bs) (bs ++ rest) (b ∷ bs) size reads
    ∙ ap (λ l. onto (b ∷ bs) (suc (length bs)) (stretch piece_at 0 l)) (drop_at bs rest (length bs) refl)

one_escape : (bs front : List ℕ) (n : ℕ) → n ≤ length bs → escaped bs ≡ Reads front (1 + n) → stretch piece_at 0 (byte "\\" ∷ bs) ≡ onto front (1 + n) (stretch piece_at 0 (drop n bs))
one_escape bs front n h e =
    let size : 1 + n ≡ suc n = omega arith in
    by_first piece_at (byte "\\") n bs front h (e ∙ ap (Reads front) size) ∙ ap (λ k. onto front k (stretch piece_at 0 (drop n bs))) (sym size)

-- what stands for these bytes, before any rest
abbrev IsReadBack : List ℕ → Type 0
IsReadBack text = (rest : List ℕ) → stretch piece_at 0 (escape text ++ rest) ≡ onto text (length (escape text)) (stretch piece_at 0 rest)

-- the same of what is written for them
abbrev IsReadFrom : List ℕ → List ℕ → List ℕ → Type 0
IsReadFrom text rest written = stretch piece_at 0 (written ++ [] ++ rest) ≡ onto text (length (written ++ [])) (stretch piece_at 0 rest)

-- an escape of one letter
letter : (b l : ℕ) → escape_byte b ≡ byte "\\" ∷ l ∷ [] → ((rest : List ℕ) → escaped (l ∷ rest) ≡ Reads (b ∷ []) 2) → IsReadBack (b ∷ [])
letter b l e reads rest = subst (IsReadFrom (b ∷ []) rest) (sym e) (one_escape (l ∷ rest) (b ∷ []) 1 (omega arith) (reads rest))

-- a digit of an escape by its number
digit_read : (d : ℕ) → d < 16 → digit_value (hex_digit d) ≡ d
digit_read d h = grind (arith, nat_tests)

digit_is_one : (d : ℕ) → d < 16 → is_ascii_hexdigit (hex_digit d) ≡ true
digit_is_one d h = grind (arith, nat_tests)

control_named : (b : ℕ) → b < 32 → (is_scalar b && not (is_noncharacter b)) ≡ true
control_named b h = grind (arith, nat_tests)

number_read : (b : ℕ) (rest : List ℕ) → b < 32 → unicode_escape (byte "0" ∷ byte "0" ∷ hex_digit (b / 16) ∷ hex_digit (b % 16) ∷ rest) ≡ Reads (encode b) 6
number_read b rest h =
    let m = hex_digit (b / 16) in
    let n = hex_digit (b % 16) in
    let high : b / 16 < 16 = omega arith in
    let low : b % 16 < 16 = omega arith in
    let value : digits_value 16 (byte "0" ∷ byte "0" ∷ m ∷ n ∷ []) ≡ b = let p = digit_read (b / 16) high in let q = digit_read (b % 16) low in omega (arith, p, q) in
    ap (λ t. if t && (is_ascii_hexdigit n && true) then numbered (digits_value 16 (byte "0" ∷ byte "0" ∷ m ∷ n ∷ [])) 6 else Faults) (digit_is_one (b / 16) high)
    ∙ ap (λ t. if t && true then numbered (digits_value 16 (byte "0" ∷ byte "0" ∷ m ∷ n ∷ [])) 6 else Faults) (digit_is_one (b % 16) low)
    ∙ ap (λ k. numbered k 6) value
    ∙ ap (λ t. if t then Reads (encode b) 6 else Faults) (control_named b h)

-- an escape by its number
number : (b : ℕ) → b < 32 → b ≢ 8 → b ≢ 12 → b ≢ 10 → b ≢ 13 → b ≢ 9 → IsReadBack (b ∷ [])
number b h n8 n12 n10 n13 n9 rest =
    let digits : List ℕ = hex_digit (b / 16) ∷ hex_digit (b % 16) ∷ [] in
    let one_byte = encode_ascii b (omega arith) in
    let reads = number_read b rest h ∙ ap (λ l. Reads l 6) one_byte in
    subst (IsReadFrom (b ∷ []) rest) (sym (control_byte b h n8 n12 n10 n13 n9)) (one_escape (codes "u00" ++ digits ++ rest) (b ∷ []) 5 (omega arith) reads)

-- a character that stands for itself
plain : (c : ℕ) → scalar c ≡ true → is_noncharacter (code_at (encode c)) ≡ false → 32 ≤ c → c ≢ byte "\"" → c ≢ byte "\\" → c ≢ byte "$" → IsReadBack (encode c)
plain c s good low quote backslash dollar rest =
    let h = has_head c (shape c (scalar_cases c s)) in
    let same : get_or (encode c) 0 0 < 128 → c ≡ get_or (encode c) 0 0 = λ l. char_from_byte (encode c) [] c (sym (append-nil (encode c))) l (some_bytes c s) in
    let head : get_or (encode c) 0 0 ≡ h.head = ap (λ l. get_or l 0 0) h.is in
    let differs : (k : ℕ) → k < 128 → c ≢ k → h.head ≢ k = λ k l n e. n (same (omega (arith, l, e, head)) ∙ head ∙ e) in
    let high : 32 ≤ h.head = elim (cases_lt h.head 32) [ inl l ↦ absurd (let e = same (omega (arith, l, head)) in omega (arith, l, e, head, low)) | inr g ↦ g ] in
    let P : List ℕ → Type 0 = λ w. stretch piece_at 0 (w ++ rest) ≡ onto (encode c) (length w) (stretch piece_at 0 rest) in
    let Q : List ℕ → Type 0 = λ l. stretch piece_at 0 (l ++ rest) ≡ onto l (length l) (stretch piece_at 0 rest) in
    subst P (sym (plain_character c s low quote backslash dollar))
    (subst Q (sym h.is) (by_itself h.head h.tail rest h.counts high (differs 34 (lit< tt) quote) (differs 92 (lit< tt) backslash) (differs 36 (lit< tt) dollar) (sym (ap (λ l. is_noncharacter (code_at l)) h.is) ∙ good)))

-- a character that may be this one
or_else : (c b : ℕ) → b < 128 → IsReadBack (b ∷ []) → (c ≢ b → IsReadBack (encode c)) → IsReadBack (encode c)
or_else c b ascii here other = elim (cases_eq c b) [
  | inl e ↦ subst IsReadBack (sym (ap encode e ∙ encode_ascii b ascii)) here
  | inr n ↦ other n
]

character : (c : ℕ) → scalar c ≡ true → is_noncharacter (code_at (encode c)) ≡ false → IsReadBack (encode c)
character c s good =
    or_else c (byte "\"") (lit< tt) (letter (byte "\"") (byte "\"") refl (λ r. refl)) (λ quote.
    or_else c (byte "\\") (lit< tt) (letter (byte "\\") (byte "\\") refl (λ r. refl)) (λ backslash.
    or_else c (byte "$") (lit< tt) (letter (byte "$") (byte "$") refl (λ r. refl)) (λ dollar.
    or_else c 8 (lit< tt) (letter 8 (byte "b") refl (λ r. refl)) (λ n8.
    or_else c 12 (lit< tt) (letter 12 (byte "f") refl (λ r. refl)) (λ n12.
    or_else c 10 (lit< tt) (letter 10 (byte "n") refl (λ r. refl)) (λ n10.
    or_else c 13 (lit< tt) (letter 13 (byte "r") refl (λ r. refl)) (λ n13.
    or_else c 9 (lit< tt) (letter 9 (byte "t") refl (λ r. refl)) (λ n9.
    elim (cases_lt c 32) [
      | inl low ↦ subst IsReadBack (sym (encode_ascii c (omega arith))) (number c low n8 n12 n10 n13 n9)
      | inr high ↦ plain c s good high quote backslash dollar
    ]))))))))

abbrev pub AreGoodChars : List ℕ → Type 0
AreGoodChars [] = Unit {0}
AreGoodChars (c ∷ cs) = (is_noncharacter (code_at (encode c)) ≡ false) × AreGoodChars cs

chars_back : (cs : List ℕ) → scalars cs ≡ true → AreGoodChars cs → IsReadBack (encodes cs)
chars_back [] s good rest = onto-none (stretch piece_at 0 rest)
chars_back (c ∷ cs) s good rest =
    let here = escape (encode c) in
    let later = escape (encodes cs) in
    let S = stretch piece_at 0 rest in
    ap (λ w. stretch piece_at 0 (w ++ rest)) (escape-append (encode c) (encodes cs))
    ∙ ap (stretch piece_at 0) (append_assoc here later rest)
    ∙ character c (and-true_left (scalar c) (scalars cs) s) good.0 (later ++ rest)
    ∙ ap (onto (encode c) (length here)) (chars_back cs (and-true_right (scalar c) (scalars cs) s) good.1 rest)
    ∙ onto-onto (encode c) (encodes cs) (length here) (length later) S
    ∙ ap (λ k. onto (encode c ++ encodes cs) k S) (sym (ap length (escape-append (encode c) (encodes cs)) ∙ length-append here later))

-- good characters of a text without non-characters
later_good : (xs ys : List ℕ) → HasNoNoncharacter (xs ++ ys) → HasNoNoncharacter ys
later_good [] ys h = h
later_good (x ∷ xs) ys h = later_good xs ys h.1

good_chars : (cs : List ℕ) → scalars cs ≡ true → HasNoNoncharacter (encodes cs) → AreGoodChars cs
good_chars [] s h = tt
good_chars (c ∷ cs) s h =
    let one = and-true_left (scalar c) (scalars cs) s in
    let k = has_head c (shape c (scalar_cases c one)) in
    let P : List ℕ → Type 0 = λ l. HasNoNoncharacter (l ++ encodes cs) → is_noncharacter (code_at l) ≡ false in
    let here : P (k.head ∷ k.tail) = λ g. sym (ap is_noncharacter (code_front k.head k.tail (encodes cs) k.counts)) ∙ g.0 in
    (subst P (sym k.is) here h, good_chars cs (and-true_right (scalar c) (scalars cs) s) (later_good (encode c) (encodes cs) h))

pub piece_read : (q rest : List ℕ) → IsUtf8 q → HasNoNoncharacter q → stretch piece_at 0 rest ≡ UpTo [] 0 → stretch piece_at 0 (escape q ++ rest) ≡ UpTo q (length (escape q))
piece_read q rest u good stop =
    let P : List ℕ → Type 0 = λ l. HasNoNoncharacter l → IsReadBack l in
    let back = subst P u.1.1 (λ g. chars_back u.0 u.1.0 (good_chars u.0 u.1.0 g)) good rest in
    back ∙ ap (onto q (length (escape q))) stop ∙ ap (λ l. UpTo l (length (escape q) + 0)) (append-nil q) ∙ ap (UpTo q) (omega arith)
