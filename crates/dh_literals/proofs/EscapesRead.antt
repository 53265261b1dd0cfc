-- What the parts of an escape are read as.
use Rattle.std.proofs.Common.{◌≡◌, ℕ, suc, ◌+◌, ◌^◌, ◌<◌, ◌≤◌, Bool, true, false, not, if◌then◌else◌, eqb, leb, ltb, List, [], ◌∷◌, ◌++◌, lit<, length, get_or, one-add, slice_index, slice_get, add-zero, inl, inr, ◌==◌, ◌&&◌, drop, take, Some, None, Result, Ok, Err, ap, sym, subst, ◌∙◌, arith}
use Rattle.std.proofs.lemmas.Bool.{cases_lt, eqb-true, lt-ltb}
use Rattle.std.proofs.lemmas.Bool.Decides.{nat_tests, same_from_decides, Decides-eqb, Decides-like}
use Rattle.std.proofs.lemmas.List.{get_or-drop, get_or_past}
use Rattle.std.specs.Bool.{Decides}
use Rattle.std.proofs.lemmas.List.Sums.{prefix_len_passes}
use Rattle.std.proofs.lemmas.Str.{encode_ascii, IsCharBoundary-after_ascii, IsCharBoundary-from_rest}
use Rattle.std.proofs.lemmas.Str.Parse.{without_leading_plus_none}
use Rattle.std.specs.Char.{is_ascii_hexdigit, encode_utf8}
use Rattle.std.specs.List.{prefix_len, list_all}
use Rattle.std.specs.Result.{OkIff, result_ok}
use Rattle.std.specs.Str.{IsUtf8, IsCharBoundary, byte}
use Rattle.std.specs.Str.Parse.{IsNumeral, ParsesUnsigned, digits_value}
use Rattle.dh_syntax.specs.Text.Characters.{first, is_scalar, is_noncharacter}
use Rattle.dh_syntax.specs.Text.Literals.{escaped, numbered, unicode_escape}
use Rattle.dh_syntax.specs.Text.Stretches.{Character, Reads, Faults}
use Rattle.dh_syntax.proofs.Numbers.{and-true_right}
use Rattle.dh_literals.specs.Escape.{IsNamed, IsRead}
use Rattle.dh_literals.proofs.Fronts.{taken, length-taken, front_passes, passing_boundary}
use Rattle.dh_literals.proofs.NumbersRead.{hexadecimal_digit, all_digits, no_plus}

-- so many hexadecimal digits at the front are a numeral
taken_numeral : (n : ℕ) (bs : List ℕ) → 0 < n → n ≤ prefix_len is_ascii_hexdigit bs → IsNumeral 16 (take n bs)
taken_numeral n bs some h =
    let len = length-taken is_ascii_hexdigit n bs h in
    (omega (arith, len, some), all_digits 16 is_ascii_hexdigit hexadecimal_digit (take n bs) (taken is_ascii_hexdigit n bs h ∙ sym len))

hexadecimal_ascii : (c : ℕ) → is_ascii_hexdigit c ≡ true → c < 128
hexadecimal_ascii c h = grind (arith, nat_tests)

-- after hexadecimal digits a text may be cut
pub hexadecimal_boundary : (n : ℕ) (bs : List ℕ) → IsUtf8 bs → n ≤ prefix_len is_ascii_hexdigit bs → IsCharBoundary bs n
hexadecimal_boundary n bs u h = passing_boundary is_ascii_hexdigit hexadecimal_ascii n bs u h

-- a number of more than 32 bits is no character's
wide_unnamed : (n : ℕ) → ¬ (n < 2 ^ 32) → (is_scalar n && not (is_noncharacter n)) ≡ false
wide_unnamed n wide = grind (arith, nat_tests)

wide_if_refused : {E : Type 0} (n : ℕ) (P : Type 0) (r : Result ℕ E) → P → OkIff r (P × (n < 2 ^ 32)) n → result_ok r ≡ None → ¬ (n < 2 ^ 32)
wide_if_refused n P (Ok x) p h e = cc
wide_if_refused n P (Err x) p h e = λ small. h (p, small)

pub refused_unnamed : {E : Type 0} (n : ℕ) (bs : List ℕ) (r : Result ℕ E) → 0 < n → n ≤ prefix_len is_ascii_hexdigit bs → ParsesUnsigned 32 16 (take n bs) r → result_ok r ≡ None → IsNamed (digits_value 16 (take n bs)) None
refused_unnamed {E} n bs r some digits h e =
    let ds = take n bs in
    let numeral : IsNumeral 16 ds = taken_numeral n bs some digits in
    let P : List ℕ → Type 0 = λ t. OkIff r (IsNumeral 16 t × (digits_value 16 t < 2 ^ 32)) (digits_value 16 t) in
    wide_unnamed (digits_value 16 ds) (wide_if_refused (digits_value 16 ds) (IsNumeral 16 ds) r numeral (subst P (without_leading_plus_none ds (no_plus 16 ds (omega arith) numeral)) h) e)

-- an escape by its number
numbered_none : (n k : ℕ) → IsNamed n None → numbered n k ≡ Faults
numbered_none n k h = ap (λ b. if b then Reads (encode_utf8 n) k else Faults) h

numbered_some : (n k c : ℕ) → IsNamed n (Some c) → numbered n k ≡ Reads (encode_utf8 c) k
numbered_some n k c h = ap (λ b. if b then Reads (encode_utf8 n) k else Faults) h.0 ∙ ap (λ m. Reads (encode_utf8 m) k) (sym h.1)

differs : (b c : ℕ) → (b ≡ c → ⊥) → (b == c) ≡ false
differs b c h = grind (arith, nat_tests)

-- a text that does not begin with this ASCII character
begins_not : (c : ℕ) (bs : List ℕ) → 0 < c → c < 128 → ((rest : List ℕ) → bs ≡ encode_utf8 c ++ rest → ⊥) → (first bs == c) ≡ false
begins_not c [] some ascii none = grind (arith, nat_tests)
begins_not c (b ∷ bs) some ascii none = differs b c (λ e. none bs (ap (λ x. x ∷ bs) e ∙ ap (λ l. l ++ bs) (sym (encode_ascii c ascii))))

-- the two forms of an escape by its number
abbrev either_form : Bool → Bool → ℕ → ℕ → ℕ → Character
either_form braced four n k m = if braced then numbered n k else if four then numbered m 6 else Faults

unicode_escape-by : (bs : List ℕ) (braced four : Bool) → (first bs == byte "{" && ltb 0 (prefix_len is_ascii_hexdigit (drop 1 bs)) && slice_index bs (1 + prefix_len is_ascii_hexdigit (drop 1 bs)) == byte "}") ≡ braced → (length (take 4 bs) == 4 && list_all is_ascii_hexdigit (take 4 bs)) ≡ four → unicode_escape bs ≡ either_form braced four (digits_value 16 (take (prefix_len is_ascii_hexdigit (drop 1 bs)) (drop 1 bs))) (4 + prefix_len is_ascii_hexdigit (drop 1 bs)) (digits_value 16 (take 4 bs))
unicode_escape-by bs braced four e f = cc

-- four digits
four_form : (bs : List ℕ) → (first bs == byte "{") ≡ false → unicode_escape bs ≡ (if leb 4 (prefix_len is_ascii_hexdigit bs) then numbered (digits_value 16 (take 4 bs)) 6 else Faults)
four_form bs e =
    let count = prefix_len is_ascii_hexdigit (drop 1 bs) in
    unicode_escape-by bs false (leb 4 (prefix_len is_ascii_hexdigit bs)) (ap (λ b. b && ltb 0 count && slice_index bs (1 + count) == byte "}") e) (front_passes is_ascii_hexdigit 4 bs)

digits_open_no_brace : (bs : List ℕ) → 4 ≤ prefix_len is_ascii_hexdigit bs → (first bs == byte "{") ≡ false
digits_open_no_brace bs h =
    let digit : is_ascii_hexdigit (get_or bs 0 0) ≡ true = prefix_len_passes is_ascii_hexdigit bs 0 0 (omega (arith, h)) in
    grind (arith, nat_tests)

pub four_too_few : (bs : List ℕ) → ((rest : List ℕ) → bs ≡ encode_utf8 (byte "{") ++ rest → ⊥) → prefix_len is_ascii_hexdigit bs < 4 → unicode_escape bs ≡ Faults
four_too_few bs none few =
    let short : leb 4 (prefix_len is_ascii_hexdigit bs) ≡ false = grind (arith, nat_tests) in
    four_form bs (begins_not (byte "{") bs (lit< tt) (lit< tt) none) ∙ ap (λ b. if b then numbered (digits_value 16 (take 4 bs)) 6 else Faults) short

four_enough : (bs : List ℕ) → 4 ≤ prefix_len is_ascii_hexdigit bs → unicode_escape bs ≡ numbered (digits_value 16 (take 4 bs)) 6
four_enough bs h =
    let long : leb 4 (prefix_len is_ascii_hexdigit bs) ≡ true = grind (arith, nat_tests) in
    four_form bs (digits_open_no_brace bs h) ∙ ap (λ b. if b then numbered (digits_value 16 (take 4 bs)) 6 else Faults) long

pub four_none : (bs : List ℕ) → 4 ≤ prefix_len is_ascii_hexdigit bs → IsNamed (digits_value 16 (take 4 bs)) None → unicode_escape bs ≡ Faults
four_none bs h n = four_enough bs h ∙ numbered_none (digits_value 16 (take 4 bs)) 6 n

pub four_some : (bs : List ℕ) (c : ℕ) → IsUtf8 bs → 4 ≤ prefix_len is_ascii_hexdigit bs → IsNamed (digits_value 16 (take 4 bs)) (Some c) → IsRead (unicode_escape bs) 2 bs (Some (c, 4))
four_some bs c u h n = (four_enough bs h ∙ numbered_some (digits_value 16 (take 4 bs)) 6 c n, hexadecimal_boundary 4 bs u h)

-- digits between braces
braced_form : (ds : List ℕ) (closed : Bool) → (ltb 0 (prefix_len is_ascii_hexdigit ds) && slice_index ds (prefix_len is_ascii_hexdigit ds) == byte "}") ≡ closed → unicode_escape (byte "{" ∷ ds) ≡ (if closed then numbered (digits_value 16 (take (prefix_len is_ascii_hexdigit ds) ds)) (4 + prefix_len is_ascii_hexdigit ds) else Faults)
braced_form ds closed e =
    let count = prefix_len is_ascii_hexdigit ds in
    let bs : List ℕ = byte "{" ∷ ds in
    unicode_escape-by bs closed false (ap (λ k. ltb 0 count && slice_index bs k == byte "}") (one-add count) ∙ e) (front_passes is_ascii_hexdigit 4 bs)

-- whether a brace follows the digits
abbrev pub is_closed : ℕ → List ℕ → Bool
is_closed n ds = ltb 0 n && slice_index ds n == byte "}"

pub no_digits : (n : ℕ) (ds : List ℕ) → n ≡ 0 → is_closed n ds ≡ false
no_digits n ds e = ap (λ k. ltb 0 k && slice_index ds k == byte "}") e

pub closed_by : (r : Bool) (n : ℕ) (ds tail : List ℕ) → 0 < n → tail ≡ drop n ds → Decides r (get_or tail 0 0 ≡ byte "}") → is_closed n ds ≡ r
closed_by r n ds tail some e d =
    let at : get_or tail 0 0 ≡ get_or ds n 0 = ap (λ l. get_or l 0 0) e ∙ get_or-drop n ds 0 0 ∙ ap (λ k. get_or ds k 0) (add-zero n) in
    let test : is_closed n ds ≡ eqb (get_or ds n 0) 125 = ap (λ b. b && slice_index ds n == byte "}") (lt-ltb 0 n some) in
    test ∙ same_from_decides (eqb (get_or ds n 0) 125) r (Decides-eqb (get_or ds n 0) 125) (Decides-like r (λ x. sym at ∙ x) (λ x. at ∙ x) d)

not_read_past : (ds : List ℕ) (n : ℕ) → get_or ds n 0 ≡ byte "}" → n < length ds
not_read_past ds n e = elim (cases_lt n (length ds)) [ inl h ↦ h | inr h ↦ let past = get_or_past ds n 0 h in cc ]

pub braced_open : (bs ds : List ℕ) (n : ℕ) → bs ≡ byte "{" ∷ ds → n ≡ prefix_len is_ascii_hexdigit ds → is_closed n ds ≡ false → unicode_escape bs ≡ Faults
braced_open bs ds n e len h = ap unicode_escape e ∙ braced_form ds false (ap (λ k. is_closed k ds) (sym len) ∙ h)

-- the text may be cut after the closing brace
after_brace : (bs ds : List ℕ) (n : ℕ) → IsUtf8 bs → bs ≡ byte "{" ∷ ds → get_or ds n 0 ≡ byte "}" → IsCharBoundary bs (n + 2)
after_brace bs ds n u e at =
    let within = not_read_past ds n at in
    let len : length bs ≡ suc (length ds) = ap length e in
    let here : get_or bs (suc n) 0 ≡ byte "}" = ap (λ l. get_or l (suc n) 0) e ∙ at in
    let P : ℕ → Type 0 = λ k. IsCharBoundary bs k in
    let step : suc n + 1 ≡ n + 2 = omega arith in
    subst P step (IsCharBoundary-after_ascii bs (suc n) u (omega (arith, within, len)) (omega (arith, here)))

pub braced_some : (bs ds : List ℕ) (c n : ℕ) → IsUtf8 bs → bs ≡ byte "{" ∷ ds → n ≡ prefix_len is_ascii_hexdigit ds → is_closed n ds ≡ true → IsNamed (digits_value 16 (take n ds)) (Some c) → IsRead (unicode_escape bs) 2 bs (Some (c, n + 2))
braced_some bs ds c n u e len closed named =
    let form : unicode_escape bs ≡ numbered (digits_value 16 (take n ds)) (4 + n) =
    ap unicode_escape e ∙ braced_form ds true (ap (λ k. is_closed k ds) (sym len) ∙ closed) ∙ ap (λ k. numbered (digits_value 16 (take k ds)) (4 + k)) (sym len) in
    let size : 4 + n ≡ 2 + (n + 2) = omega arith in
    let at = eqb-true (get_or ds n 0) 125 (and-true_right (ltb 0 n) (slice_index ds n == byte "}") closed) in
    (form ∙ numbered_some (digits_value 16 (take n ds)) (4 + n) c named ∙ ap (Reads (encode_utf8 c)) size, after_brace bs ds n u e at)

-- the first byte, and what follows it
first_is : (bytes bs : List ℕ) (x b : ℕ) → Some x ≡ slice_get bytes 0 → bytes ≡ bs → x ≡ b → bs ≡ b ∷ drop 1 bs
first_is bytes [] x b e same is =
    let none : Some x ≡ None = e ∙ ap (λ l. slice_get l 0) same in
    cc
first_is bytes (c ∷ bs) x b e same is =
    let at : Some x ≡ Some c = e ∙ ap (λ l. slice_get l 0) same in
    cc

-- after a first byte that is ASCII a text may be cut
pub first_boundary : (bytes bs : List ℕ) (x b : ℕ) → b < 128 → IsUtf8 bs → Some x ≡ slice_get bytes 0 → bytes ≡ bs → x ≡ b → IsCharBoundary bs 1
first_boundary bytes bs x b ascii u e same is =
    let opened = first_is bytes bs x b e same is in
    let len : length bs ≡ suc (length (drop 1 bs)) = ap length opened in
    let P : List ℕ → Type 0 = λ l. get_or l 0 0 < 128 in
    IsCharBoundary-after_ascii bs 0 u (omega (arith, len)) (subst P (sym opened) ascii)

-- an escape of one letter
pub one_letter : (bytes bs : List ℕ) (x b c : ℕ) → b < 128 → c < 128 → ((rest : List ℕ) → escaped (b ∷ rest) ≡ Reads (c ∷ []) 2) → IsUtf8 bs → Some x ≡ slice_get bytes 0 → bytes ≡ bs → x ≡ b → IsRead (escaped bs) 1 bs (Some (c, 1))
one_letter bytes bs x b c ascii_b ascii_c reads u e same is =
    let opened = first_is bytes bs x b e same is in
    (ap escaped opened ∙ reads (drop 1 bs) ∙ ap (λ l. Reads l 2) (sym (encode_ascii c ascii_c)), first_boundary bytes bs x b ascii_b u e same is)

-- an escape by its number, after its `u`
pub after_u : (bytes bs rest : List ℕ) (x c n : ℕ) → Some x ≡ slice_get bytes 0 → bytes ≡ bs → x ≡ byte "u" → rest ≡ drop 1 bs → IsRead (unicode_escape rest) 2 rest (Some (c, n)) → IsRead (escaped bs) 1 bs (Some (c, n + 1))
after_u bytes bs rest x c n e same is cut h =
    let opened = first_is bytes bs x (byte "u") e same is in
    let len : length bs ≡ suc (length (drop 1 bs)) = ap length opened in
    let size : 2 + n ≡ 1 + (n + 1) = omega arith in
    let place : 1 + n ≡ n + 1 = omega arith in
    let P : ℕ → Type 0 = λ k. IsCharBoundary bs k in
    let Q : List ℕ → Type 0 = λ l. IsCharBoundary l n in
    (ap escaped opened ∙ ap unicode_escape (sym cut) ∙ h.0 ∙ ap (Reads (encode_utf8 c)) size, subst P place (IsCharBoundary-from_rest bs 1 n (omega (arith, len)) (subst Q cut h.1)))
