-- Laws of what stands at the front.
use Rattle.std.proofs.Common.{◌≡◌, ℕ, zero, suc, ◌+◌, ◌-◌, ◌<◌, Bool, true, false, ◌&&◌, ◌||◌, if◌then◌else◌, ◌==◌, eqb, ltb, List, [], ◌∷◌, ◌++◌, take, drop, get_or, Option, Some, None, IfSome, refl, sym, ap, ◌∙◌, arith}
use Rattle.std.proofs.lemmas.Bool.{and_parts, both_ways, eqb-true, ltb-true}
use Rattle.std.proofs.lemmas.Bool.Decides.{nat_tests}
use Rattle.std.proofs.lemmas.List.{get_or-drop}
use Rattle.dh_syntax.specs.declared.tokens.TextForm.{TextForm}
use Rattle.dh_syntax.specs.declared.tokens.TextForm.TheVariants.{DoubleQuoted, MultiLine}
use Rattle.dh_syntax.specs.declared.tokens.TokenKind.{TokenKind}
use Rattle.dh_syntax.specs.declared.tokens.TokenKind.TheVariants as kinds
use Rattle.dh_syntax.specs.Text.Characters.{first, begins, line_end_len, is_noncharacter, code_at}
use Rattle.dh_syntax.specs.Text.Lexing.{Before, Start, AName, NameAt, Other, Place, Outside, Interpolated, Among, gap_forms, token_forms, forms_left_out, code_form, no_form, form_or, form_at}
use Rattle.dh_syntax.specs.Text.LexForms.{Found, White, SkippedLine, Is, LeftOut, TooWide, Faulty, Unclosed, Form, form, stretching}
use Rattle.dh_syntax.specs.Text.LexGaps.{Comment, ClosedAfter, FaultyAfter, NotClosed, block_comment, comment, comment_form, line_character, line_comment, skipped_line, with_line_end}
use Rattle.dh_syntax.specs.Text.LexLocations.{after_sha256, digest, digest_digits, digest_of}
use Rattle.dh_syntax.specs.Text.LexTexts.{closing_len, double_quoted_opening, multi_line_opening, piece_character, text_part}
use Rattle.dh_syntax.specs.Text.Stretches.{Stretch, UpTo, FaultAt, stretch}
use Rattle.dh_tokens.specs.Inside.Forms.{HasFaultWithin, IsSound}
use Rattle.dh_tokens.proofs.FormProperties.{Each, Each-append, form-has, when-has, if-has, longest-has, has-more}
use Rattle.dh_tokens.proofs.PlainForms

-- what holds of the forms that go on for a stretch
stretching-has : (P : Form → Type 0) (found : List ℕ → Found) (before : ℕ) (s : Stretch) → ((text : List ℕ) (n : ℕ) → P (record { found = found text; len = n })) → ((n : ℕ) → P (record { found = Faulty n; len = suc n }))
    → IfSome (stretching found before s) P
stretching-has P found before (UpTo text n) whole part = form-has P (found text) (before + n) (λ some. whole text (before + n))
stretching-has P found before (FaultAt n) whole part = form-has P (Faulty (before + n)) (suc (before + n)) (λ some. part (before + n))

line_comment-has : (P : Form → Type 0) (bs : List ℕ) → ((n : ℕ) → P (record { found = White; len = n })) → ((n : ℕ) → P (record { found = Faulty n; len = suc n })) → IfSome (line_comment bs) P
line_comment-has P bs whole part =
    let s = stretch line_character 0 (drop 2 bs) in
    when-has P (begins "--" bs) (stretching (λ text. White) 2 s) (λ yes'. stretching-has P (λ text. White) 2 s (λ text n. whole n) part)

comment_form-has : (P : Form → Type 0) (c : Comment) → ((n : ℕ) → P (record { found = White; len = n })) → ((n : ℕ) → P (record { found = Faulty (2 + n); len = 3 + n })) → P (record { found = Unclosed; len = 2 }) → IfSome (comment_form c) P
comment_form-has P (ClosedAfter n) whole part open' = form-has P White (2 + n) (λ some. whole (2 + n))
comment_form-has P (FaultyAfter n) whole part open' = form-has P (Faulty (2 + n)) (3 + n) (λ some. part n)
comment_form-has P NotClosed whole part open' = open'

block_comment-has : (P : Form → Type 0) (bs : List ℕ) → ((n : ℕ) → P (record { found = White; len = n })) → ((n : ℕ) → P (record { found = Faulty (2 + n); len = 3 + n })) → P (record { found = Unclosed; len = 2 }) → IfSome (block_comment bs) P
block_comment-has P bs whole part open' =
    let c = comment 0 0 (drop 2 bs) in
    when-has P (begins "{-" bs) (comment_form c) (λ yes'. comment_form-has P c whole part open')

-- what holds of the two forms of a digest
after_sha256-has : (P : Form → Type 0) (bs : List ℕ) → P (record { found = Is (kinds.Digest (digest_of (take 64 bs))); len = 71 }) → ((n : ℕ) → P (record { found = Faulty 0; len = 7 + n })) → IfSome (after_sha256 bs) P
after_sha256-has P bs whole part =
    let n = digest_digits bs in
    let found = Is (kinds.Digest (digest_of (take 64 bs))) in
    let more = form (Faulty 0) (7 + n) in
    if-has P (n == 0) None (if n == 64 then form found 71 else more) (λ yes'. tt)
    (λ no'. if-has P (n == 64) (form found 71) more (λ yes'. form-has P found 71 (λ some. whole)) (λ no''. form-has P (Faulty 0) (7 + n) (λ some. part n)))

pub digest-has : (P : Form → Type 0) (bs : List ℕ) → P (record { found = Is (kinds.Digest (digest_of (take 64 (drop 7 bs)))); len = 71 }) → ((n : ℕ) → P (record { found = Faulty 0; len = 7 + n })) → IfSome (digest bs) P
digest-has P bs whole part = when-has P (begins "sha256:" bs) (after_sha256 (drop 7 bs)) (λ yes'. after_sha256-has P (drop 7 bs) whole part)

double_quoted_opening-has : (P : Form → Type 0) (bs : List ℕ) → (begins "\"" bs ≡ true → P (record { found = Is (kinds.TextOpen DoubleQuoted); len = 1 })) → IfSome (double_quoted_opening bs) P
double_quoted_opening-has P bs h = when-has P (begins "\"" bs) (form (Is (kinds.TextOpen DoubleQuoted)) 1) h

multi_line_opening-has : (P : Form → Type 0) (bs : List ℕ) → (0 < line_end_len (drop 2 bs) → P (record { found = Is (kinds.TextOpen MultiLine); len = 2 + line_end_len (drop 2 bs) })) → IfSome (multi_line_opening bs) P
multi_line_opening-has P bs h =
    let n = line_end_len (drop 2 bs) in
    let found = Is (kinds.TextOpen MultiLine) in
    when-has P (begins "''" bs && ltb 0 n) (form found (2 + n)) (λ both. form-has P found (2 + n) (λ some. h (ltb-true 0 n (and_parts (begins "''" bs) (ltb 0 n) both).1)))

-- what holds of every form that is neither a fault nor the opening of a text, and of the five other forms, holds of the longest
pub code_form-has : (P : Form → Type 0) (bs : List ℕ) → ((f : Form) → PlainForms.IsPlain f → P f) → IfSome (line_comment bs) P → IfSome (block_comment bs) P
    → IfSome (double_quoted_opening bs) P → IfSome (multi_line_opening bs) P → IfSome (digest bs) P → IfSome (code_form bs) P
code_form-has P bs plain line block double multi_line digest' =
    let by : (f : Option Form) → IfSome f PlainForms.IsPlain → IfSome f P = λ f h. has-more PlainForms.IsPlain P f plain h in
    let gaps : Each P (gap_forms bs) = (by _ (PlainForms.white_space-plain bs), (line, (block, tt))) in
    let tokens : Each P (token_forms bs) = (
      by _ (PlainForms.name-plain bs),
      (
        by _ (PlainForms.quoted_name-plain bs),
        (
          by _ (PlainForms.natural-plain bs),
          (
            by _ (PlainForms.integer-plain bs),
            (
              double,
              (
                multi_line,
                (by _ (PlainForms.path-plain bs), (by _ (PlainForms.url-plain bs), (by _ (PlainForms.environment-plain bs), (digest', (by _ (PlainForms.mark-plain bs), tt))))),
              ),
            ),
          ),
        ),
      ),
    ) in
    let left_out : Each P (forms_left_out bs) = (
      by _ (PlainForms.minus_infinity-plain bs),
      (
        by _ (PlainForms.double-plain bs),
        (
          by _ (PlainForms.signed_double-plain bs),
          (
            by _ (PlainForms.date-plain bs),
            (
              by _ (PlainForms.time-plain bs),
              (by _ (PlainForms.signed_time-plain bs), (by _ (PlainForms.binary-plain bs), (by _ (PlainForms.bytes_literal-plain bs), tt))),
            ),
          ),
        ),
      ),
    ) in
    longest-has P (gap_forms bs ++ token_forms bs ++ forms_left_out bs)
    (Each-append P (gap_forms bs) (token_forms bs ++ forms_left_out bs) gaps (Each-append P (token_forms bs) (forms_left_out bs) tokens left_out))

-- the fault of a stretch stands in the form's last byte
last : (n : ℕ) → n < suc n
last n = omega arith

sound : (bs : List ℕ) → IfSome (code_form bs) IsSound
sound bs =
    let in_comment : (n : ℕ) → 2 + n < 3 + n = λ n. omega arith in
    let in_digest : (n : ℕ) → 0 < 7 + n = λ n. omega arith in
    code_form-has IsSound bs (λ f plain. PlainForms.HasFaultWithin-plain f.found f.len plain) (line_comment-has IsSound bs (λ n. tt) last) (block_comment-has IsSound bs (λ n. tt) in_comment tt)
    (double_quoted_opening-has IsSound bs (λ begins'. tt)) (multi_line_opening-has IsSound bs (λ some. tt)) (digest-has IsSound bs tt in_digest)

refused-sound : (refused : Bool) → HasFaultWithin (if refused then Faulty 0 else LeftOut) 1
refused-sound true = omega arith
refused-sound false = tt

pub no_form-sound : (bs : List ℕ) → HasFaultWithin (no_form bs).found (no_form bs).len
no_form-sound bs = refused-sound (ltb (first bs) 128 || is_noncharacter (code_at bs))

-- the fault stays within a form that is longer
HasFaultWithin-more : (found : Found) (m n : ℕ) → HasFaultWithin found m → HasFaultWithin found (m + n)
HasFaultWithin-more White m n h = tt
HasFaultWithin-more SkippedLine m n h = tt
HasFaultWithin-more (Is kind) m n h = tt
HasFaultWithin-more LeftOut m n h = tt
HasFaultWithin-more TooWide m n h = tt
HasFaultWithin-more (Faulty k) m n h = omega (arith, h)
HasFaultWithin-more Unclosed m n h = tt

with_line_end-sound : (f : Option Form) (bs : List ℕ) → IfSome f IsSound → IfSome (with_line_end f bs) IsSound
with_line_end-sound None bs h = tt
with_line_end-sound (Some f) bs h = HasFaultWithin-more f.found f.len (line_end_len (drop f.len bs)) h

a_skipped_line-sound : (bs : List ℕ) → IfSome (skipped_line bs) IsSound
a_skipped_line-sound bs =
    let line = stretching (λ text. SkippedLine) 2 (stretch line_character 0 (drop 2 bs)) in
    when-has IsSound (begins "#!" bs) (with_line_end line bs)
    (λ yes'. with_line_end-sound line bs (stretching-has IsSound (λ text. SkippedLine) 2 (stretch line_character 0 (drop 2 bs)) (λ text n. tt) last))

a_text_part-sound : (form' : TextForm) (bs : List ℕ) → IfSome (text_part form' bs) IsSound
a_text_part-sound form' bs =
    let n = closing_len form' bs in
    let piece = stretch (piece_character form') 0 bs in
    let part = stretching (λ text. Is (kinds.TextPiece text)) 0 piece in
    if-has IsSound (ltb 0 n) (form (Is kinds.TextClose) n) (if begins "${" bs then form (Is kinds.InterpolationOpen) 2 else part) (λ some. form-has IsSound (Is kinds.TextClose) n (λ some'. tt))
    (λ none. if-has IsSound (begins "${" bs) (form (Is kinds.InterpolationOpen) 2) part (λ yes'. tt) (λ no'. stretching-has IsSound (λ text. Is (kinds.TextPiece text)) 0 piece (λ text m. tt) last))

form_or-sound : (f : Option Form) (other : Form) → IfSome f IsSound → IsSound other → IsSound (form_or f other)
form_or-sound None other h k = k
form_or-sound (Some f) other h k = h

code-sound : (bs : List ℕ) → IsSound (form_or (code_form bs) (no_form bs))
code-sound bs = form_or-sound (code_form bs) (no_form bs) (sound bs) (no_form-sound bs)

braced-sound : (test : Bool) (f g : Form) → IsSound f → IsSound g → IsSound (if test then f else g)
braced-sound true f g h k = h
braced-sound false f g h k = k

-- the fault of the form at a place stands within it
pub form_at-sound : (before : Before) (place : Place) (bs : List ℕ) → HasFaultWithin (form_at before place bs).found (form_at before place bs).len
form_at-sound before (Among f from place) bs = form_or-sound (text_part f bs) (no_form bs) (a_text_part-sound f bs) (no_form-sound bs)
form_at-sound before (Interpolated zero f from place) bs = braced-sound (first bs == 125) (record { found = Is kinds.InterpolationClose; len = 1 }) (form_or (code_form bs) (no_form bs)) tt (code-sound bs)
form_at-sound before (Interpolated (suc braces) f from place) bs = code-sound bs
form_at-sound Start Outside bs = form_or-sound (skipped_line bs) (form_or (code_form bs) (no_form bs)) (a_skipped_line-sound bs) (code-sound bs)
form_at-sound AName Outside bs = code-sound bs
form_at-sound NameAt Outside bs = code-sound bs
form_at-sound Other Outside bs = code-sound bs

-- where the characters of a text follow this form of so many bytes, it ends with an ASCII byte
abbrev pub EndsAscii : List ℕ → Found → ℕ → Type 0
EndsAscii bs (Is (kinds.TextOpen g)) n = (0 < n) × (get_or bs (n - 1) 0 < 128)
EndsAscii bs (Is kinds.InterpolationClose) n = (0 < n) × (get_or bs (n - 1) 0 < 128)
EndsAscii bs found n = Unit {0}

kind-plain_ends : (bs : List ℕ) (kind : TokenKind) (n : ℕ) → PlainForms.is_plain_kind kind ≡ true → EndsAscii bs (Is kind) n
kind-plain_ends bs (kinds.TextOpen g) n h = absurd (both_ways false refl h)
kind-plain_ends bs kinds.InterpolationClose n h = absurd (both_ways false refl h)
kind-plain_ends bs kind n h = tt

plain_ends : (bs : List ℕ) (found : Found) (n : ℕ) → PlainForms.is_plain found ≡ true → EndsAscii bs found n
plain_ends bs (Is kind) n h = kind-plain_ends bs kind n h
plain_ends bs found n h = tt

quote_is_ascii : (bs : List ℕ) → begins "\"" bs ≡ true → get_or bs 0 0 < 128
quote_is_ascii [] h = absurd (both_ways false refl h)
quote_is_ascii (b ∷ bs) h = grind (arith, nat_tests)

line_end-by : (b n : ℕ) (bs : List ℕ) (feed return' : Bool) → eqb b 10 ≡ feed → (eqb b 13 && eqb (get_or bs 0 0) 10) ≡ return' → n ≡ (if feed then 1 else if return' then 2 else 0) → 0 < n → get_or (b ∷ bs) (n - 1) 0 ≡ 10
line_end-by b n bs true return' p q n_is some = ap (λ k. get_or (b ∷ bs) (k - 1) 0) n_is ∙ eqb-true b 10 p
line_end-by b n bs false true p q n_is some = ap (λ k. get_or (b ∷ bs) (k - 1) 0) n_is ∙ eqb-true (get_or bs 0 0) 10 (and_parts (eqb b 13) (eqb (get_or bs 0 0) 10) q).1
line_end-by b n bs false false p q n_is some = absurd (omega (arith, n_is, some))

-- a line end ends with a line feed
line_end-last : (bs : List ℕ) → 0 < line_end_len bs → get_or bs (line_end_len bs - 1) 0 ≡ 10
line_end-last [] some = absurd (omega (arith, some))
line_end-last (b ∷ bs) some = line_end-by b (line_end_len (b ∷ bs)) bs (eqb b 10) (eqb b 13 && eqb (get_or bs 0 0) 10) refl refl refl some

multi_line_ends : (bs : List ℕ) → 0 < line_end_len (drop 2 bs) → get_or bs (2 + line_end_len (drop 2 bs) - 1) 0 < 128
multi_line_ends bs some =
    let n = line_end_len (drop 2 bs) in
    let e : 2 + (n - 1) ≡ 2 + n - 1 = omega (arith, some) in
    let feed : get_or bs (2 + n - 1) 0 ≡ 10 = ap (λ k. get_or bs k 0) (sym e) ∙ sym (get_or-drop 2 bs (n - 1) 0) ∙ line_end-last (drop 2 bs) some in
    omega (arith, feed)

-- what follows a form outside the characters of texts
abbrev EndsFront : List ℕ → Form → Type 0
EndsFront bs f = EndsAscii bs f.found f.len

code-ends : (bs : List ℕ) → IfSome (code_form bs) (EndsFront bs)
code-ends bs =
    let P : Form → Type 0 = EndsFront bs in
    let plain : (f : Form) → PlainForms.IsPlain f → P f = λ f h. plain_ends bs f.found f.len h in
    code_form-has P bs plain (line_comment-has P bs (λ n. tt) (λ n. tt)) (block_comment-has P bs (λ n. tt) (λ n. tt) tt)
    (double_quoted_opening-has P bs (λ quoted. (omega arith, quote_is_ascii bs quoted)))
    (multi_line_opening-has P bs (λ some. (omega arith, multi_line_ends bs some)))
    (digest-has P bs tt (λ n. tt))

refused-ends : (bs : List ℕ) (refused : Bool) → EndsAscii bs (if refused then Faulty 0 else LeftOut) 1
refused-ends bs true = tt
refused-ends bs false = tt

form_or-ends : (bs : List ℕ) (f : Option Form) (other : Form) → IfSome f (EndsFront bs) → EndsFront bs other → EndsFront bs (form_or f other)
form_or-ends bs None other h k = k
form_or-ends bs (Some f) other h k = h

front-ends : (bs : List ℕ) → EndsFront bs (form_or (code_form bs) (no_form bs))
front-ends bs = form_or-ends bs (code_form bs) (no_form bs) (code-ends bs) (refused-ends bs (ltb (first bs) 128 || is_noncharacter (code_at bs)))

braced-ends : (bs : List ℕ) (test : Bool) (f : Form) → (first bs == 125) ≡ test → EndsFront bs f → EndsFront bs (if test then record { found = Is kinds.InterpolationClose; len = 1 } else f)
braced-ends bs true f e h = (omega arith, let brace : get_or bs 0 0 ≡ 125 = eqb-true (get_or bs 0 0) 125 e in omega (arith, brace))
braced-ends bs false f e h = h

with_line_end-ends : (bs : List ℕ) (f : Option Form) → IfSome f (λ g. (n : ℕ) → EndsAscii bs g.found n) → IfSome (with_line_end f bs) (EndsFront bs)
with_line_end-ends bs None h = tt
with_line_end-ends bs (Some f) h = h (f.len + line_end_len (drop f.len bs))

skipped-ends : (bs : List ℕ) → IfSome (skipped_line bs) (EndsFront bs)
skipped-ends bs =
    let line = stretch line_character 0 (drop 2 bs) in
    let P : Form → Type 0 = λ g. (n : ℕ) → EndsAscii bs g.found n in
    when-has (EndsFront bs) (begins "#!" bs) (with_line_end (stretching (λ text. SkippedLine) 2 line) bs)
    (λ yes'. with_line_end-ends bs (stretching (λ text. SkippedLine) 2 line) (stretching-has P (λ text. SkippedLine) 2 line (λ text n m. tt) (λ n m. tt)))

-- a place among the characters of a text
abbrev pub IsAmong : Place → Type 0
IsAmong Outside = ⊥
IsAmong (Interpolated braces f from place) = ⊥
IsAmong (Among f from place) = Unit {0}

-- between the characters of texts, a form that the characters of a text follow ends with an ASCII byte
pub form_at-ends : (before : Before) (place : Place) (bs : List ℕ) → ¬ IsAmong place → EndsAscii bs (form_at before place bs).found (form_at before place bs).len
form_at-ends before (Among f from place) bs h = absurd (h tt)
form_at-ends before (Interpolated zero f from place) bs h = braced-ends bs (first bs == 125) (form_or (code_form bs) (no_form bs)) refl (front-ends bs)
form_at-ends before (Interpolated (suc braces) f from place) bs h = front-ends bs
form_at-ends Start Outside bs h = form_or-ends bs (skipped_line bs) (form_or (code_form bs) (no_form bs)) (skipped-ends bs) (front-ends bs)
form_at-ends AName Outside bs h = front-ends bs
form_at-ends NameAt Outside bs h = front-ends bs
form_at-ends Other Outside bs h = front-ends bs
