-- The forms at a letter, at a digit and at a byte that begins no form but marks.
use Rattle.std.proofs.Common.{◌≡◌, ℕ, ◌<◌, true, false, not, ◌&&◌, List, [], ◌∷◌, length, Option, None, refl, sym, ap, ◌∙◌, arith}
use Rattle.std.proofs.lemmas.Bool.{and_parts, both_ways, not-true}
use Rattle.std.proofs.lemmas.Bool.Decides.{nat_tests}
use Rattle.std.specs.Char.{is_ascii_digit}
use Rattle.dh_syntax.specs.Text.Characters.{first, is_name_start}
use Rattle.dh_syntax.specs.Text.Lexing.{code_form}
use Rattle.dh_syntax.specs.Text.LexForms.{Form, longest}
use Rattle.dh_syntax.specs.Text.LexGaps.{white_space, line_comment, block_comment}
use Rattle.dh_syntax.specs.Text.LexLocations.{digest, environment, path, url}
use Rattle.dh_syntax.specs.Text.LexMarks.{mark}
use Rattle.dh_syntax.specs.Text.LexNames.{name, quoted_name, minus_infinity}
use Rattle.dh_syntax.specs.Text.LexNumbers.{natural, integer, double, signed_double, date, time, signed_time, binary, bytes_literal}
use Rattle.dh_syntax.specs.Text.LexTexts.{double_quoted_opening, multi_line_opening}
use Rattle.dh_tokens.specs.Inside.Fronts.{is_symbol}
use Rattle.dh_tokens.specs.Inside.Numbers.{unsigned_form}
use Rattle.dh_tokens.proofs.FormLaws.{joined-none}
use Rattle.dh_tokens.proofs.FrontBytes.{code_form-joined_all, joined_all, longest-joined_all}
use Rattle.dh_tokens.proofs.FrontClasses as classes

without_symbols : (white line block name' quoted natural' integer' double_quoted multi_line path' url' environment' digest' mark' infinity double' signed_double' date' time' signed_time' binary' bytes' : Option Form)
    → white ≡ None → line ≡ None → block ≡ None → quoted ≡ None → integer' ≡ None → double_quoted ≡ None → multi_line ≡ None → path' ≡ None → infinity ≡ None → signed_double' ≡ None → signed_time' ≡ None
    → joined_all (white ∷ line ∷ block ∷ name' ∷ quoted ∷ natural' ∷ integer' ∷ double_quoted ∷ multi_line ∷ path' ∷ url' ∷ environment' ∷ digest' ∷ mark' ∷ infinity ∷ double' ∷ signed_double' ∷ date' ∷ time' ∷ signed_time' ∷ binary' ∷ bytes' ∷ [])
    ≡ joined_all (name' ∷ natural' ∷ url' ∷ environment' ∷ digest' ∷ mark' ∷ double' ∷ date' ∷ time' ∷ binary' ∷ bytes' ∷ [])
without_symbols white line block name' quoted natural' integer' double_quoted multi_line path' url' environment' digest' mark' infinity double' signed_double' date' time' signed_time' binary' bytes' w l b q i d m p n s t =
    simp (w, l, b, q, i, d, m, p, n, s, t)

no_symbols : (b : ℕ) (bs : List ℕ) → is_symbol b ≡ false
    → code_form (b ∷ bs) ≡ joined_all (name (b ∷ bs) ∷ natural (b ∷ bs) ∷ url (b ∷ bs) ∷ environment (b ∷ bs) ∷ digest (b ∷ bs) ∷ mark (b ∷ bs) ∷ double (b ∷ bs) ∷ date (b ∷ bs) ∷ time (b ∷ bs) ∷ binary (b ∷ bs) ∷ bytes_literal (b ∷ bs) ∷ [])
no_symbols b bs e =
    code_form-joined_all (b ∷ bs)
    ∙ without_symbols (white_space (b ∷ bs)) (line_comment (b ∷ bs)) (block_comment (b ∷ bs)) (name (b ∷ bs)) (quoted_name (b ∷ bs)) (natural (b ∷ bs)) (integer (b ∷ bs)) (double_quoted_opening (b ∷ bs)) (multi_line_opening (b ∷ bs))
    (path (b ∷ bs)) (url (b ∷ bs)) (environment (b ∷ bs)) (digest (b ∷ bs)) (mark (b ∷ bs)) (minus_infinity (b ∷ bs)) (double (b ∷ bs)) (signed_double (b ∷ bs)) (date (b ∷ bs)) (time (b ∷ bs)) (signed_time (b ∷ bs)) (binary (b ∷ bs)) (bytes_literal (b ∷ bs))
    (classes.white_space-none b bs e) (classes.line_comment-none b bs e) (classes.block_comment-none b bs e) (classes.quoted_name-none b bs e) (classes.integer-none b bs e) (classes.double_quoted_opening-none b bs e) (classes.multi_line_opening-none b bs e)
    (classes.path-none b bs e) (classes.minus_infinity-none b bs e) (classes.signed_double-none b bs e) (classes.signed_time-none b bs e)

without_numbers : (name' natural' url' environment' digest' mark' double' date' time' binary' bytes' : Option Form) → natural' ≡ None → double' ≡ None → date' ≡ None → time' ≡ None → binary' ≡ None → bytes' ≡ None
    → joined_all (name' ∷ natural' ∷ url' ∷ environment' ∷ digest' ∷ mark' ∷ double' ∷ date' ∷ time' ∷ binary' ∷ bytes' ∷ []) ≡ joined_all (name' ∷ url' ∷ environment' ∷ digest' ∷ mark' ∷ [])
without_numbers name' natural' url' environment' digest' mark' double' date' time' binary' bytes' n d a t b y = simp (n, d, a, t, b, y)

without_words : (name' natural' url' environment' digest' mark' double' date' time' binary' bytes' : Option Form) → name' ≡ None → url' ≡ None → environment' ≡ None → digest' ≡ None
    → joined_all (name' ∷ natural' ∷ url' ∷ environment' ∷ digest' ∷ mark' ∷ double' ∷ date' ∷ time' ∷ binary' ∷ bytes' ∷ []) ≡ joined_all (natural' ∷ mark' ∷ double' ∷ date' ∷ time' ∷ binary' ∷ bytes' ∷ [])
without_words name' natural' url' environment' digest' mark' double' date' time' binary' bytes' n u e d = simp (n, u, e, d)

no_numbers : (b : ℕ) (bs : List ℕ) → is_symbol b ≡ false → is_ascii_digit b ≡ false → code_form (b ∷ bs) ≡ joined_all (name (b ∷ bs) ∷ url (b ∷ bs) ∷ environment (b ∷ bs) ∷ digest (b ∷ bs) ∷ mark (b ∷ bs) ∷ [])
no_numbers b bs e d =
    no_symbols b bs e
    ∙ without_numbers (name (b ∷ bs)) (natural (b ∷ bs)) (url (b ∷ bs)) (environment (b ∷ bs)) (digest (b ∷ bs)) (mark (b ∷ bs)) (double (b ∷ bs)) (date (b ∷ bs)) (time (b ∷ bs)) (binary (b ∷ bs)) (bytes_literal (b ∷ bs))
    (classes.natural-none b bs d) (classes.double-none b bs d) (classes.date-none b bs d) (classes.time-none b bs d) (classes.binary-none b bs d) (classes.bytes_literal-none b bs d)

letter_is_no_symbol : (b : ℕ) → is_name_start b ≡ true → is_symbol b ≡ false
letter_is_no_symbol b h = grind (arith, nat_tests)

letter_is_no_digit : (b : ℕ) → is_name_start b ≡ true → is_ascii_digit b ≡ false
letter_is_no_digit b h = grind (arith, nat_tests)

digit_is_no_symbol : (b : ℕ) → is_ascii_digit b ≡ true → is_symbol b ≡ false
digit_is_no_symbol b h = grind (arith, nat_tests)

digit_is_no_letter : (b : ℕ) → is_ascii_digit b ≡ true → is_name_start b ≡ false
digit_is_no_letter b h = grind (arith, nat_tests)

pub code_form-word : (bs : List ℕ) → is_name_start (first bs) ≡ true → code_form bs ≡ longest (name bs ∷ url bs ∷ environment bs ∷ digest bs ∷ [])
code_form-word [] h = absurd (both_ways false refl h)
code_form-word (b ∷ bs) h =
    no_numbers b bs (letter_is_no_symbol b h) (letter_is_no_digit b h)
    ∙ ap (λ m. joined_all (name (b ∷ bs) ∷ url (b ∷ bs) ∷ environment (b ∷ bs) ∷ digest (b ∷ bs) ∷ m ∷ [])) (classes.mark-none_at_name b bs h)
    ∙ sym (longest-joined_all (name (b ∷ bs) ∷ url (b ∷ bs) ∷ environment (b ∷ bs) ∷ digest (b ∷ bs) ∷ []))

unsigned_form-joined_all : (bs : List ℕ) → unsigned_form bs ≡ joined_all (natural bs ∷ double bs ∷ date bs ∷ time bs ∷ binary bs ∷ bytes_literal bs ∷ [])
unfolding unsigned_form
unsigned_form-joined_all bs = longest-joined_all (natural bs ∷ double bs ∷ date bs ∷ time bs ∷ binary bs ∷ bytes_literal bs ∷ [])

pub code_form-digit : (bs : List ℕ) → is_ascii_digit (first bs) ≡ true → code_form bs ≡ unsigned_form bs
code_form-digit [] h = absurd (both_ways false refl h)
code_form-digit (b ∷ bs) h =
    let e = digit_is_no_letter b h in
    no_symbols b bs (digit_is_no_symbol b h)
    ∙ without_words (name (b ∷ bs)) (natural (b ∷ bs)) (url (b ∷ bs)) (environment (b ∷ bs)) (digest (b ∷ bs)) (mark (b ∷ bs)) (double (b ∷ bs)) (date (b ∷ bs)) (time (b ∷ bs)) (binary (b ∷ bs)) (bytes_literal (b ∷ bs))
    (classes.name-none b bs e) (classes.url-none b bs e) (classes.environment-none b bs e) (classes.digest-none b bs e)
    ∙ ap (λ m. joined_all (natural (b ∷ bs) ∷ m ∷ double (b ∷ bs) ∷ date (b ∷ bs) ∷ time (b ∷ bs) ∷ binary (b ∷ bs) ∷ bytes_literal (b ∷ bs) ∷ [])) (classes.mark-none_at_digit b bs h)
    ∙ sym (unsigned_form-joined_all (b ∷ bs))

without_locations : (name' url' environment' digest' mark' : Option Form) → name' ≡ None → url' ≡ None → environment' ≡ None → digest' ≡ None → joined_all (name' ∷ url' ∷ environment' ∷ digest' ∷ mark' ∷ []) ≡ mark'
without_locations name' url' environment' digest' mark' n u e d = simp (n, u, e, d) (joined-none mark')

only_marks : (bs : List ℕ) → 0 < length bs → is_name_start (first bs) ≡ false → is_ascii_digit (first bs) ≡ false → is_symbol (first bs) ≡ false → code_form bs ≡ mark bs
only_marks [] some n d s = absurd (omega (arith, some))
only_marks (b ∷ bs) some n d s =
    no_numbers b bs s d
    ∙ without_locations (name (b ∷ bs)) (url (b ∷ bs)) (environment (b ∷ bs)) (digest (b ∷ bs)) (mark (b ∷ bs)) (classes.name-none b bs n) (classes.url-none b bs n) (classes.environment-none b bs n) (classes.digest-none b bs n)

pub code_form-other : (bs : List ℕ) → 0 < length bs → (not (is_name_start (first bs)) && not (is_ascii_digit (first bs)) && not (is_symbol (first bs))) ≡ true → code_form bs ≡ mark bs
code_form-other bs some h =
    let b = first bs in
    let parts = and_parts (not (is_name_start b) && not (is_ascii_digit b)) (not (is_symbol b)) h in
    let others = and_parts (not (is_name_start b)) (not (is_ascii_digit b)) parts.0 in
    only_marks bs some (not-true (is_name_start b) others.0) (not-true (is_ascii_digit b) others.1) (not-true (is_symbol b) parts.1)
