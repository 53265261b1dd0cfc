-- Each form that stands at a place of a text takes some bytes.
use Rattle.std.proofs.Common.{ℕ, zero, suc, ◌+◌, ◌<◌, Bool, true, false, List, [], ◌∷◌, ◌++◌, map, length, take, drop, arith}
use Rattle.std.specs.Prelude.{⊤, Option, Some, None, ◌&&◌, ◌||◌, ◌==◌, nat_lt, nat_eq, if◌then◌else◌, codes, slice_index}
use Rattle.std.specs.List.{prefix_len, starts_with}
use Rattle.std.specs.Str.{byte}
use Prim.Native.String.{String}
use Rattle.dh_syntax.specs.declared.locations.Loc.{Loc}
use Rattle.dh_syntax.specs.declared.locations.Loc.TheVariants as locs
use Rattle.dh_syntax.specs.declared.locations.Url.{Url}
use Rattle.dh_syntax.specs.declared.tokens.TextForm.{TextForm}
use Rattle.dh_syntax.specs.declared.tokens.TextForm.TheVariants.{DoubleQuoted, MultiLine}
use Rattle.dh_syntax.specs.declared.tokens.TokenKind.TheVariants as kinds
use Rattle.dh_syntax.specs.Text.Characters.{first, begins, tab, is_sign, is_bit, is_quoted_label_byte, is_environment_start, is_environment_byte, is_quoted_environment_byte, line_end_len}
use Rattle.dh_syntax.specs.Text.LexForms.{Found, White, SkippedLine, Is, LeftOut, Faulty, Unclosed, Form, form, longer, longest, stretching}
use Rattle.dh_syntax.specs.Text.LexGaps.{line_comment, line_character, Comment, ClosedAfter, FaultyAfter, NotClosed, comment, comment_form, block_comment, with_line_end, skipped_line}
use Rattle.dh_syntax.specs.Text.Lexing.{gap_forms, token_forms, forms_left_out, code_form, no_form, form_or, Place, Outside, Interpolated, Among, Before, Start, AName, NameAt, Other, form_at}
use Rattle.dh_syntax.specs.Text.LexLocations.{Components, components, path_component, path_form, path_from, path, segment, one_or_more, query_of, query_len, host_len, url_form, after_scheme, url, plain_environment, quoted_environment, after_env, environment, digest_of, digest_digits, after_sha256, digest}
use Rattle.dh_syntax.specs.Text.LexMarks.{Spelled, brackets, separators, binders, operators, operators_twice, mark_form, mark}
use Rattle.dh_syntax.specs.Text.LexNames.{named, name_len, quoted_name}
use Rattle.dh_syntax.specs.Text.LexNumbers.{natural_found, integer_found, begins_fraction, begins_exponent, is_shaped, fractional}
use Rattle.dh_syntax.specs.Text.LexTexts.{multi_line_opening, closing_len, piece_character, text_part}
use Rattle.dh_syntax.specs.Text.Numerals.{natural_len, integer_len, read_natural, read_integer}
use Rattle.dh_syntax.specs.Text.Stretches.{Stretch, UpTo, FaultAt, stretch}

abbrev TakesBytes : Option Form → Type 0
TakesBytes None = ⊤
TakesBytes (Some f) = 0 < f.len

abbrev AllTakeBytes : List (Option Form) → Type 0
AllTakeBytes [] = ⊤
AllTakeBytes (f ∷ fs) = TakesBytes f × AllTakeBytes fs

made : (found : Found) (n : ℕ) → TakesBytes (form found n)
made found zero = tt
made found (suc n) = omega arith

when : (b : Bool) (f : Option Form) → TakesBytes f → TakesBytes (if b then f else None)
when true f h = h
when false f h = tt

either : (b : Bool) (f g : Option Form) → TakesBytes f → TakesBytes g → TakesBytes (if b then f else g)
either true f g h k = h
either false f g h k = k

stretched : (found : List ℕ → Found) (n : ℕ) (s : Stretch) → TakesBytes (stretching found n s)
stretched found n (UpTo text k) = made (found text) (n + k)
stretched found n (FaultAt k) = made (Faulty (n + k)) (suc (n + k))

chosen : (b : Bool) (f g : Form) → 0 < f.len → 0 < g.len → 0 < (if b then g else f).len
chosen true f g h k = k
chosen false f g h k = h

of_longer : (f : Form) (o : Option Form) → 0 < f.len → TakesBytes o → 0 < (longer f o).len
of_longer f None h k = h
of_longer f (Some g) h k = chosen (nat_lt f.len g.len) f g h k

of_longest : (fs : List (Option Form)) → AllTakeBytes fs → TakesBytes (longest fs)
of_longest [] h = tt
of_longest (None ∷ fs) h = of_longest fs h.1
of_longest (Some f ∷ fs) h = of_longer f (longest fs) h.0 (of_longest fs h.1)

-- ---- forms

-- a form of so many bytes where a test holds, else none
tested : (b : Bool) (found : Found) (n : ℕ) → TakesBytes (if b then form found n else None)
tested b found n = when b (form found n) (made found n)

of_comment : (c : Comment) → TakesBytes (comment_form c)
of_comment (ClosedAfter n) = made White (2 + n)
of_comment (FaultyAfter n) = made (Faulty (2 + n)) (3 + n)
of_comment NotClosed = made Unclosed 2

with_end : (o : Option Form) (bs : List ℕ) → TakesBytes o → TakesBytes (with_line_end o bs)
with_end None bs h = tt
with_end (Some f) bs h = omega (arith, h)

of_skipped_line : (bs : List ℕ) → TakesBytes (skipped_line bs)
of_skipped_line bs =
    let line = stretching (λ text. SkippedLine) 2 (stretch line_character 0 (drop 2 bs)) in
    when (begins "#!" bs) (with_line_end line bs) (with_end line bs (stretched (λ text. SkippedLine) 2 (stretch line_character 0 (drop 2 bs))))

of_line_comment : (bs : List ℕ) → TakesBytes (line_comment bs)
of_line_comment bs = when (begins "--" bs) (stretching (λ text. White) 2 (stretch line_character 0 (drop 2 bs))) (stretched (λ text. White) 2 (stretch line_character 0 (drop 2 bs)))

of_block_comment : (bs : List ℕ) → TakesBytes (block_comment bs)
of_block_comment bs = when (begins "{-" bs) (comment_form (comment 0 0 (drop 2 bs))) (of_comment (comment 0 0 (drop 2 bs)))

of_quoted_name : (bs : List ℕ) → TakesBytes (quoted_name bs)
of_quoted_name bs =
    let n = prefix_len is_quoted_label_byte (drop 1 bs) in
    tested (first bs == byte "`" && slice_index bs (1 + n) == byte "`") (Is (kinds.Quoted (take n (drop 1 bs)))) (2 + n)

of_fractional : (n : ℕ) (bs : List ℕ) → TakesBytes (fractional n bs)
of_fractional n bs = tested (nat_lt 0 n && (begins_fraction (drop n bs) || begins_exponent (drop n bs))) LeftOut (2 + n)

of_multi_line_opening : (bs : List ℕ) → TakesBytes (multi_line_opening bs)
of_multi_line_opening bs =
    let n = line_end_len (drop 2 bs) in
    tested (begins "''" bs && nat_lt 0 n) (Is (kinds.TextOpen MultiLine)) (2 + n)

of_path_form : (kind : List (List ℕ) → Loc) (n : ℕ) (cs : Components) → TakesBytes (path_form kind n cs)
of_path_form kind n cs = tested (nat_lt 0 cs.total) (Is (kinds.Path (kind cs.texts))) (n + cs.total)

of_path_from : (before : String) (kind : List (List ℕ) → Loc) (bs : List ℕ) → TakesBytes (path_from before kind bs)
of_path_from before kind bs =
    let n = length (codes before) in
    let cs = components path_component 0 (drop n bs) in
    when (begins before bs) (path_form kind n cs) (of_path_form kind n cs)

of_path : (bs : List ℕ) → TakesBytes (path bs)
of_path bs =
    of_longest (path_from "." locs.Here bs ∷ path_from ".." locs.Parent bs ∷ path_from "~" locs.Home bs ∷ path_from "" locs.Abs bs ∷ [])
    (of_path_from "." locs.Here bs, (of_path_from ".." locs.Parent bs, (of_path_from "~" locs.Home bs, (of_path_from "" locs.Abs bs, tt))))

of_url_form : (kind : Url → Loc) (before n : ℕ) (bs : List ℕ) → TakesBytes (url_form kind before n bs)
of_url_form kind before n bs =
    let cs = components segment 0 (drop n bs) in
    let query = query_of (drop (n + cs.total) bs) in
    made (Is (kinds.Url (kind (record { host = take n bs; comps = one_or_more cs.texts; query = query })))) (before + n + cs.total + query_len query)

of_after_scheme : (kind : Url → Loc) (before : ℕ) (bs : List ℕ) → TakesBytes (after_scheme kind before bs)
of_after_scheme kind before bs =
    let n = host_len bs in
    let with_host = if slice_index bs n == byte "@" then form LeftOut (1 + before + n) else url_form kind before n bs in
    either (first bs == byte "[") (form LeftOut (1 + before)) (if n == 0 then None else with_host) (made LeftOut (1 + before))
    (either (n == 0) None with_host tt
    (either (slice_index bs n == byte "@") (form LeftOut (1 + before + n)) (url_form kind before n bs) (made LeftOut (1 + before + n)) (of_url_form kind before n bs)))

of_url : (bs : List ℕ) → TakesBytes (url bs)
of_url bs =
    let https = after_scheme locs.Https 8 (drop 8 bs) in
    either (begins "http://" bs) (after_scheme locs.Http 7 (drop 7 bs)) (if begins "https://" bs then https else None) (of_after_scheme locs.Http 7 (drop 7 bs))
    (when (begins "https://" bs) https (of_after_scheme locs.Https 8 (drop 8 bs)))

of_quoted_environment : (bs : List ℕ) → TakesBytes (quoted_environment bs)
of_quoted_environment bs =
    let n = prefix_len is_quoted_environment_byte (drop 1 bs) in
    let closed = nat_lt 0 n && slice_index bs (1 + n) == byte "\"" in
    let variable = Is (kinds.Environment (take n (drop 1 bs))) in
    either (slice_index bs (1 + n) == byte "\\") (form LeftOut (6 + n)) (if closed then form variable (6 + n) else None) (made LeftOut (6 + n)) (tested closed variable (6 + n))

of_plain_environment : (bs : List ℕ) → TakesBytes (plain_environment bs)
of_plain_environment bs =
    let n = prefix_len is_environment_byte bs in
    tested (is_environment_start (first bs)) (Is (kinds.Environment (take n bs))) (4 + n)

of_environment : (bs : List ℕ) → TakesBytes (environment bs)
of_environment bs =
    let rest = drop 4 bs in
    when (begins "env:" bs) (after_env rest)
    (either (first rest == byte "\"") (quoted_environment rest) (plain_environment rest) (of_quoted_environment rest) (of_plain_environment rest))

of_digest : (bs : List ℕ) → TakesBytes (digest bs)
of_digest bs =
    let rest = drop 7 bs in
    let n = digest_digits rest in
    let whole = form (Is (kinds.Digest (digest_of (take 64 rest)))) 71 in
    let short = form (Faulty 0) (7 + n) in
    when (begins "sha256:" bs) (after_sha256 rest)
    (either (n == 0) None (if n == 64 then whole else short) tt (either (n == 64) whole short (made (Is (kinds.Digest (digest_of (take 64 rest)))) 71) (made (Faulty 0) (7 + n))))

of_marks : (bs : List ℕ) (ss : List Spelled) → AllTakeBytes (map (mark_form bs) ss)
of_marks bs [] = tt
of_marks bs (s ∷ ss) = (tested (starts_with nat_eq bs s.bytes) (Is (kinds.Mark s.mark)) (length s.bytes), of_marks bs ss)

of_mark : (bs : List ℕ) → TakesBytes (mark bs)
of_mark bs = let ss = brackets ++ separators ++ binders ++ operators ++ operators_twice in of_longest (map (mark_form bs) ss) (of_marks bs ss)

of_text_part : (f : TextForm) (bs : List ℕ) → TakesBytes (text_part f bs)
of_text_part f bs =
    let piece = stretching (λ text. Is (kinds.TextPiece text)) 0 (stretch (piece_character f) 0 bs) in
    let «open» = form (Is kinds.InterpolationOpen) 2 in
    either (nat_lt 0 (closing_len f bs)) (form (Is kinds.TextClose) (closing_len f bs)) (if begins "${" bs then «open» else piece) (made (Is kinds.TextClose) (closing_len f bs))
    (either (begins "${" bs) «open» piece (made (Is kinds.InterpolationOpen) 2) (stretched (λ text. Is (kinds.TextPiece text)) 0 (stretch (piece_character f) 0 bs)))

-- ---- all of them

joined : (fs gs : List (Option Form)) → AllTakeBytes fs → AllTakeBytes gs → AllTakeBytes (fs ++ gs)
joined [] gs h k = k
joined (f ∷ fs) gs h k = (h.0, joined fs gs h.1 k)

of_gaps : (bs : List ℕ) → AllTakeBytes (gap_forms bs)
of_gaps bs = (made White (if first bs == byte " " || first bs == tab then 1 else line_end_len bs), (of_line_comment bs, (of_block_comment bs, tt)))

of_tokens : (bs : List ℕ) → AllTakeBytes (token_forms bs)
of_tokens bs = (
  made (named (take (name_len bs) bs)) (name_len bs),
  (
    of_quoted_name bs,
    (
      made (natural_found (read_natural (take (natural_len bs) bs))) (natural_len bs),
      (
        made (integer_found (read_integer (take (integer_len bs) bs))) (integer_len bs),
        (
          tested (begins "\"" bs) (Is (kinds.TextOpen DoubleQuoted)) 1,
          (of_multi_line_opening bs, (of_path bs, (of_url bs, (of_environment bs, (of_digest bs, (of_mark bs, tt)))))),
        ),
      ),
    ),
  ),
)

of_left_out : (bs : List ℕ) → AllTakeBytes (forms_left_out bs)
of_left_out bs = (
  tested (begins "-Infinity" bs && name_len (drop 1 bs) == 8) LeftOut 9,
  (
    of_fractional (natural_len bs) bs,
    (
      of_fractional (integer_len bs) bs,
      (
        tested (is_shaped (codes "0000-00-00") bs) LeftOut 10,
        (
          tested (is_shaped (codes "00:00") bs) LeftOut 5,
          (
            tested (is_sign (first bs) && is_shaped (codes "00:00") (drop 1 bs)) LeftOut 6,
            (tested (begins "0b" bs && is_bit (slice_index bs 2)) LeftOut 3, (tested (begins "0x\"" bs) LeftOut 3, tt)),
          ),
        ),
      ),
    ),
  ),
)

of_code : (bs : List ℕ) → TakesBytes (code_form bs)
of_code bs = of_longest (gap_forms bs ++ token_forms bs ++ forms_left_out bs) (joined (gap_forms bs) (token_forms bs ++ forms_left_out bs) (of_gaps bs) (joined (token_forms bs) (forms_left_out bs) (of_tokens bs) (of_left_out bs)))

of_either : (o : Option Form) (f : Form) → TakesBytes o → 0 < f.len → 0 < (form_or o f).len
of_either None f h k = k
of_either (Some g) f h k = h

of_any_code : (bs : List ℕ) → 0 < (form_or (code_form bs) (no_form bs)).len
of_any_code bs = of_either (code_form bs) (no_form bs) (of_code bs) (omega arith)

pub takes_bytes : (before : Before) (place : Place) (bs : List ℕ) → 0 < (form_at before place bs).len
takes_bytes before (Among f n p) bs = of_either (text_part f bs) (no_form bs) (of_text_part f bs) (omega arith)
takes_bytes before (Interpolated zero f n p) bs = chosen (first bs == byte "}") (form_or (code_form bs) (no_form bs)) (record { found = Is kinds.InterpolationClose; len = 1 }) (of_any_code bs) (omega arith)
takes_bytes before (Interpolated (suc k) f n p) bs = of_any_code bs
takes_bytes Start Outside bs = of_either (skipped_line bs) (form_or (code_form bs) (no_form bs)) (of_skipped_line bs) (of_any_code bs)
takes_bytes AName Outside bs = of_any_code bs
takes_bytes NameAt Outside bs = of_any_code bs
takes_bytes Other Outside bs = of_any_code bs
