-- Each form of a token gives a good one.
use Rattle.std.proofs.Common.{arith, ◌≡◌, ℕ, zero, suc, ◌+◌, ◌*◌, ◌≤◌, ◌<◌, Bool, true, false, List, [], ◌∷◌, ◌++◌, map, length, take, drop, refl, sym, ◌∙◌, ap, lt-ltb}
use Rattle.std.specs.Prelude.{IsTrue, ⊤, ◌&&◌, ◌||◌, ◌==◌, nat_lt, nat_eq, if◌then◌else◌, Option, Some, None, codes, slice_index}
use Rattle.std.specs.Char.{is_ascii_hexdigit, is_ascii_alphabetic, is_ascii_alphanumeric, digit_value}
use Rattle.std.specs.Int.{is_in_range}
use Rattle.std.specs.List.{list_all, prefix_len, starts_with}
use Rattle.std.specs.Str.{byte}
use Rattle.std.proofs.lemmas.Bool.{eqb-true, ltb-true, eq-eqb}
use Rattle.std.proofs.lemmas.List.Sums.{prefix_len-le-length}
use Prim.Native.String.{String}
use Rattle.dh_syntax.specs.declared.locations.Loc.{Loc}
use Rattle.dh_syntax.specs.declared.locations.Loc.TheVariants as locs
use Rattle.dh_syntax.specs.declared.tokens.TextForm.{TextForm}
use Rattle.dh_syntax.specs.declared.tokens.TextForm.TheVariants.{DoubleQuoted, MultiLine}
use Rattle.dh_syntax.specs.declared.tokens.TokenKind.TheVariants as kinds
use Rattle.dh_syntax.specs.Expressions.Arity.{has_some}
use Rattle.dh_syntax.specs.Text.Characters.{first, begins, is_sign, is_bit, is_name_byte, is_name_start, is_quoted_label_byte, is_quoted_path_byte, is_environment_start, is_environment_byte, is_quoted_environment_byte, line_end_len}
use Rattle.dh_syntax.specs.Text.LexForms.{Found, White, SkippedLine, Is, LeftOut, Faulty, Form, form, longer, longest, stretching}
use Rattle.dh_syntax.specs.Text.LexGaps.{white_space, line_comment, line_character, Comment, ClosedAfter, FaultyAfter, NotClosed, comment, comment_form, block_comment, with_line_end, skipped_line}
use Rattle.dh_syntax.specs.Text.LexLocations.{Component, Components, components, by_component, plain_component, quoted_component, path_component, path_form, path_from, path, plain_environment, quoted_environment, environment, hex_bytes, digest_of, digest_digits, digest}
use Rattle.dh_syntax.specs.Text.LexMarks.{Spelled, brackets, separators, binders, operators, operators_twice, mark_form, mark}
use Rattle.dh_syntax.specs.Text.LexNames.{Reserved, keyword_names, built_in_names, names_left_out, named_in, named, name_len, name, quoted_name, minus_infinity}
use Rattle.dh_syntax.specs.Text.LexNumbers.{natural_found, integer_found, natural, integer, begins_fraction, begins_exponent, is_shaped, fractional, double, signed_double, date, time, signed_time, binary, bytes_literal}
use Rattle.dh_syntax.specs.Text.LexTexts.{double_quoted_opening, multi_line_opening, closing_len, piece_character, text_part}
use Rattle.dh_syntax.specs.Imports.Locations.{is_path_character}
use Rattle.dh_syntax.specs.Text.Numerals.{natural_len, integer_len, natural_value, integer_value, read_natural, read_integer}
use Rattle.dh_syntax.specs.Limits.{natural_fits}
use Rattle.dh_syntax.specs.Limits.{integer_fits}
use Rattle.dh_syntax.specs.Expressions.Spellable.{is_label, is_component}
use Rattle.dh_syntax.specs.Text.Stretches.{Stretch, UpTo, FaultAt, stretch}
use Rattle.dh_grammar.specs.Inside.SoundTokens.{good_kind}
use Rattle.dh_syntax.specs.Expressions.Values.{digest_fits}
use Rattle.dh_grammar.proofs.Lexed.Bytes.{hex_digit_low, name_is_label, environment_is_quoted, path_is_quoted, all_imply, all_prefix, some_prefix, some_first, whole_prefix, or_case}
use Rattle.dh_grammar.proofs.TruthValues.{both, left_of, right_of, by_test}

-- ---- what is found

abbrev pub found_good : Found → Bool
found_good (Is k) = good_kind k
found_good _ = true

abbrev pub opt_good : Option Form → Bool
opt_good None = true
opt_good (Some f) = found_good f.found

abbrev pub Good : Option Form → Type 0
Good o = IsTrue (opt_good o)

abbrev pub Goods : List (Option Form) → Type 0
Goods [] = ⊤
Goods (f ∷ fs) = Good f × Goods fs

pub form_good : (f : Found) (n : ℕ) → IsTrue (found_good f) → Good (form f n)
form_good f zero h = refl
form_good f (suc n) h = h

pub if_good : (b : Bool) (x y : Option Form) → (b ≡ true → Good x) → (b ≡ false → Good y) → Good (if b then x else y)
if_good b x y f g = by_test Good b x y f g

-- a form where a test holds, else none
when : (b : Bool) (x : Option Form) → Good x → Good (if b then x else None)
when b x h = if_good b x None (λ e. h) (λ e. refl)

longer_good : (f : Form) (o : Option Form) → IsTrue (found_good f.found) → Good o → IsTrue (found_good (longer f o).found)
longer_good f None h k = h
longer_good f (Some g) h k = by_test (λ x. IsTrue (found_good x.found)) (nat_lt f.len g.len) g f (λ e. k) (λ e. h)

pub longest_good : (fs : List (Option Form)) → Goods fs → Good (longest fs)
longest_good [] h = refl
longest_good (None ∷ fs) h = longest_good fs h.1
longest_good (Some f ∷ fs) h = longer_good f (longest fs) h.0 (longest_good fs h.1)

stretching_good : (found : List ℕ → Found) (n : ℕ) (s : Stretch) → ((text : List ℕ) → IsTrue (found_good (found text))) → Good (stretching found n s)
stretching_good found n (UpTo text k) h = form_good (found text) (n + k) (h text)
stretching_good found n (FaultAt k) h = refl

-- ---- gaps

pub white_space_good : (bs : List ℕ) → Good (white_space bs)
white_space_good bs = form_good White _ refl

pub line_comment_good : (bs : List ℕ) → Good (line_comment bs)
line_comment_good bs = when (begins "--" bs) _ (stretching_good (λ text. White) 2 (stretch line_character 0 (drop 2 bs)) (λ t. refl))

comment_form_good : (c : Comment) → Good (comment_form c)
comment_form_good (ClosedAfter n) = form_good White (2 + n) refl
comment_form_good (FaultyAfter n) = form_good (Faulty (2 + n)) (3 + n) refl
comment_form_good NotClosed = refl

pub block_comment_good : (bs : List ℕ) → Good (block_comment bs)
block_comment_good bs = when (begins "{-" bs) _ (comment_form_good (comment 0 0 (drop 2 bs)))

with_end_good : (o : Option Form) (bs : List ℕ) → Good o → Good (with_line_end o bs)
with_end_good None bs h = refl
with_end_good (Some f) bs h = h

pub skipped_line_good : (bs : List ℕ) → Good (skipped_line bs)
skipped_line_good bs = when (begins "#!" bs) _ (with_end_good (stretching (λ text. SkippedLine) 2 (stretch line_character 0 (drop 2 bs))) bs (stretching_good (λ text. SkippedLine) 2 (stretch line_character 0 (drop 2 bs)) (λ t. refl)))

-- ---- names

named_in_good : (rs : List Reserved) (x : List ℕ) → IsTrue (list_all (λ r. found_good r.meaning) rs) → IsTrue (is_label x) → IsTrue (found_good (named_in rs x))
named_in_good [] x h l = l
named_in_good (r ∷ rs) x h l =
    by_test (λ f. IsTrue (found_good f)) _ r.meaning (named_in rs x) (λ e. left_of (found_good r.meaning) (list_all (λ r. found_good r.meaning) rs) h)
    (λ e. named_in_good rs x (right_of (found_good r.meaning) (list_all (λ r. found_good r.meaning) rs) h) l)

name_all : (b : Bool) (bs : List ℕ) → IsTrue (is_label (take (if b then prefix_len is_name_byte bs else 0) bs))
name_all true bs = all_imply is_name_byte is_quoted_label_byte name_is_label (take (prefix_len is_name_byte bs) bs) (all_prefix is_name_byte bs)
name_all false bs = refl

pub name_good : (bs : List ℕ) → Good (name bs)
name_good bs =
    form_good (named (take (name_len bs) bs)) (name_len bs)
    (named_in_good (keyword_names ++ built_in_names ++ names_left_out) (take (name_len bs) bs) refl (name_all (is_name_start (first bs)) bs))

pub quoted_name_good : (bs : List ℕ) → Good (quoted_name bs)
quoted_name_good bs =
    let n = prefix_len is_quoted_label_byte (drop 1 bs) in
    when (first bs == byte "`" && slice_index bs (1 + n) == byte "`") (form (Is (kinds.Quoted (take n (drop 1 bs)))) (2 + n)) (form_good (Is (kinds.Quoted (take n (drop 1 bs)))) (2 + n) (all_prefix is_quoted_label_byte (drop 1 bs)))

pub minus_infinity_good : (bs : List ℕ) → Good (minus_infinity bs)
minus_infinity_good bs = when (begins "-Infinity" bs && name_len (drop 1 bs) == 8) (form LeftOut 9) (form_good LeftOut 9 refl)

-- ---- numbers

natural_found_good : (v : ℕ) → IsTrue (found_good (natural_found (if natural_fits v then Some v else None)))
natural_found_good v = by_test (λ o. IsTrue (found_good (natural_found o))) (natural_fits v) (Some v) None (λ e. e) (λ e. refl)

integer_found_good : (v : _) → IsTrue (found_good (integer_found (if integer_fits v then Some v else None)))
integer_found_good v = by_test (λ o. IsTrue (found_good (integer_found o))) (integer_fits v) (Some v) None (λ e. e) (λ e. refl)

pub natural_good : (bs : List ℕ) → Good (natural bs)
natural_good bs = form_good (natural_found (read_natural (take (natural_len bs) bs))) (natural_len bs) (natural_found_good (natural_value (take (natural_len bs) bs)))

pub integer_good : (bs : List ℕ) → Good (integer bs)
integer_good bs = form_good (integer_found (read_integer (take (integer_len bs) bs))) (integer_len bs) (integer_found_good (integer_value (take (integer_len bs) bs)))

fractional_good : (n : ℕ) (bs : List ℕ) → Good (fractional n bs)
fractional_good n bs = when (nat_lt 0 n && (begins_fraction (drop n bs) || begins_exponent (drop n bs))) (form LeftOut (2 + n)) (form_good LeftOut (2 + n) refl)

pub double_good : (bs : List ℕ) → Good (double bs)
double_good bs = fractional_good (natural_len bs) bs

pub signed_double_good : (bs : List ℕ) → Good (signed_double bs)
signed_double_good bs = fractional_good (integer_len bs) bs

pub date_good : (bs : List ℕ) → Good (date bs)
date_good bs = when (is_shaped (codes "0000-00-00") bs) (form LeftOut 10) (form_good LeftOut 10 refl)

pub time_good : (bs : List ℕ) → Good (time bs)
time_good bs = when (is_shaped (codes "00:00") bs) (form LeftOut 5) (form_good LeftOut 5 refl)

pub signed_time_good : (bs : List ℕ) → Good (signed_time bs)
signed_time_good bs = when (is_sign (first bs) && is_shaped (codes "00:00") (drop 1 bs)) (form LeftOut 6) (form_good LeftOut 6 refl)

pub binary_good : (bs : List ℕ) → Good (binary bs)
binary_good bs = when (begins "0b" bs && is_bit (slice_index bs 2)) (form LeftOut 3) (form_good LeftOut 3 refl)

pub bytes_literal_good : (bs : List ℕ) → Good (bytes_literal bs)
bytes_literal_good bs = when (begins "0x\"" bs) (form LeftOut 3) (form_good LeftOut 3 refl)

-- ---- texts and marks

pub double_quoted_opening_good : (bs : List ℕ) → Good (double_quoted_opening bs)
double_quoted_opening_good bs = when (begins "\"" bs) (form (Is (kinds.TextOpen DoubleQuoted)) 1) (form_good (Is (kinds.TextOpen DoubleQuoted)) 1 refl)

pub multi_line_opening_good : (bs : List ℕ) → Good (multi_line_opening bs)
multi_line_opening_good bs =
    let n = line_end_len (drop 2 bs) in
    when (begins "''" bs && nat_lt 0 n) (form (Is (kinds.TextOpen MultiLine)) (2 + n)) (form_good (Is (kinds.TextOpen MultiLine)) (2 + n) refl)

pub text_part_good : (f : TextForm) (bs : List ℕ) → Good (text_part f bs)
text_part_good f bs =
    if_good (nat_lt 0 (closing_len f bs)) _ _ (λ e. form_good (Is kinds.TextClose) (closing_len f bs) refl)
    (λ e. if_good (begins "${" bs) _ _ (λ e. refl) (λ e. stretching_good (λ text. Is (kinds.TextPiece text)) 0 (stretch (piece_character f) 0 bs) (λ t. refl)))

marks_good : (bs : List ℕ) (ss : List Spelled) → Goods (map (mark_form bs) ss)
marks_good bs [] = tt
marks_good bs (s ∷ ss) = (when (starts_with nat_eq bs s.bytes) _ (form_good (Is (kinds.Mark s.mark)) (length s.bytes) refl), marks_good bs ss)

pub mark_good : (bs : List ℕ) → Good (mark bs)
mark_good bs =
    let ss = brackets ++ separators ++ binders ++ operators ++ operators_twice in
    longest_good (map (mark_form bs) ss) (marks_good bs ss)

-- ---- components of paths and URLs

abbrev pub TextIs : (List ℕ → Bool) → Option Component → Type 0
TextIs p None = ⊤
TextIs p (Some c) = IsTrue (p c.text)

by_component_all : (p : List ℕ → Bool) (o : Option Component) (rest : ℕ → Components) → TextIs p o → ((n : ℕ) → IsTrue (list_all p (rest n).texts)) → IsTrue (list_all p (by_component o rest).texts)
by_component_all p None rest h k = refl
by_component_all p (Some c) rest h k = both (p c.text) (list_all p (rest c.len).texts) h (k c.len)

pub all_components : (p : List ℕ → Bool) (component : List ℕ → Option Component) → ((bs : List ℕ) → TextIs p (component bs)) → (skip : ℕ) (bs : List ℕ) → IsTrue (list_all p (components component skip bs).texts)
all_components p component h skip [] = refl
all_components p component h (suc skip) (b ∷ bs) = all_components p component h skip bs
all_components p component h zero (b ∷ bs) =
    by_component_all p (if b == byte "/" then component bs else None) (λ n. components component n bs) (by_test (TextIs p) (b == byte "/") (component bs) None (λ e. h bs) (λ e. tt)) (λ n. all_components p component h n bs)

by_component_some : (o : Option Component) (rest : ℕ → Components) → 0 < (by_component o rest).total → IsTrue (has_some (by_component o rest).texts)
by_component_some None rest h = absurd (omega arith)
by_component_some (Some c) rest h = refl

some_components : (component : List ℕ → Option Component) (bs : List ℕ) → 0 < (components component 0 bs).total → IsTrue (has_some (components component 0 bs).texts)
some_components component [] h = absurd (omega arith)
some_components component (b ∷ bs) h = by_component_some _ _ h

plain_component_good : (bs : List ℕ) → TextIs is_component (plain_component bs)
plain_component_good bs =
    by_test (TextIs is_component) (nat_lt 0 (prefix_len is_path_character bs)) (Some (record { text = take (prefix_len is_path_character bs) bs; len = prefix_len is_path_character bs })) None
    (λ e. both (has_some (take (prefix_len is_path_character bs) bs)) _ (some_prefix is_path_character bs (ltb-true 0 (prefix_len is_path_character bs) e))
    (all_imply is_path_character is_quoted_path_byte path_is_quoted (take (prefix_len is_path_character bs) bs) (all_prefix is_path_character bs)))
    (λ e. tt)

quoted_component_good : (bs : List ℕ) → TextIs is_component (quoted_component bs)
quoted_component_good bs =
    let n = prefix_len is_quoted_path_byte (drop 1 bs) in
    by_test (TextIs is_component) (nat_lt 0 n && slice_index bs (1 + n) == byte "\"") (Some (record { text = take n (drop 1 bs); len = 2 + n })) None
    (λ e. both (has_some (take n (drop 1 bs))) _ (some_prefix is_quoted_path_byte (drop 1 bs) (ltb-true 0 n (left_of (nat_lt 0 n) _ e))) (all_prefix is_quoted_path_byte (drop 1 bs)))
    (λ e. tt)

path_component_good : (bs : List ℕ) → TextIs is_component (path_component bs)
path_component_good bs = by_test (TextIs is_component) (first bs == byte "\"") (quoted_component bs) (plain_component bs) (λ e. quoted_component_good bs) (λ e. plain_component_good bs)

path_form_good : (kind : List (List ℕ) → Loc) (n : ℕ) (bs : List ℕ) → ((cs : List (List ℕ)) → IsTrue (has_some cs) → IsTrue (list_all is_component cs) → IsTrue (good_kind (kinds.Path (kind cs)))) → Good (path_form kind n (components path_component 0 bs))
path_form_good kind n bs h =
    let cs = components path_component 0 bs in
    if_good (nat_lt 0 cs.total) _ None
    (λ e. form_good (Is (kinds.Path (kind cs.texts))) (n + cs.total) (h cs.texts (some_components path_component bs (ltb-true 0 cs.total e)) (all_components is_component path_component path_component_good 0 bs)))
    (λ e. refl)

path_from_good : (before : String) (kind : List (List ℕ) → Loc) (bs : List ℕ) → ((cs : List (List ℕ)) → IsTrue (has_some cs) → IsTrue (list_all is_component cs) → IsTrue (good_kind (kinds.Path (kind cs)))) → Good (path_from before kind bs)
path_from_good before kind bs h = when (begins before bs) _ (path_form_good kind (length (codes before)) (drop (length (codes before)) bs) h)

pub path_good : (bs : List ℕ) → Good (path bs)
path_good bs =
    longest_good (path_from "." locs.Here bs ∷ path_from ".." locs.Parent bs ∷ path_from "~" locs.Home bs ∷ path_from "" locs.Abs bs ∷ []) (
      path_from_good "." locs.Here bs (λ cs h k. both (has_some cs) (list_all is_component cs) h k),
      (
        path_from_good ".." locs.Parent bs (λ cs h k. both (has_some cs) (list_all is_component cs) h k),
        (
          path_from_good "~" locs.Home bs (λ cs h k. both (has_some cs) (list_all is_component cs) h k),
          (path_from_good "" locs.Abs bs (λ cs h k. both (has_some cs) (list_all is_component cs) h k), tt),
        ),
      ),
    )

-- ---- environment

pub or_true_left : (a b : Bool) → IsTrue a → IsTrue (a || b)
or_true_left true b h = refl
or_true_left false b h = cc

pub or_true_right : (a b : Bool) → IsTrue b → IsTrue (a || b)
or_true_right true b h = refl
or_true_right false b h = h

alphabetic_is : (c : ℕ) → IsTrue (is_ascii_alphabetic c) → IsTrue (is_ascii_alphanumeric c)
alphabetic_is c h = or_case (is_in_range 65 90 c) (is_in_range 97 122 c) (λ a. or_true_left (is_in_range 48 57 c || is_in_range 65 90 c) (is_in_range 97 122 c) (or_true_right (is_in_range 48 57 c) (is_in_range 65 90 c) a)) (λ b. or_true_right (is_in_range 48 57 c || is_in_range 65 90 c) (is_in_range 97 122 c) b) h

start_is_byte : (c : ℕ) → IsTrue (is_environment_start c) → IsTrue (is_environment_byte c)
start_is_byte c h =
    or_case _ _ (λ a. or_true_left _ _ (alphabetic_is c a)) (λ e. or_true_right _ _ e) h

plain_some : (bs : List ℕ) → IsTrue (is_environment_start (first bs)) → IsTrue (has_some (take (prefix_len is_environment_byte bs) bs))
plain_some [] h = cc
plain_some (b ∷ bs) h = some_prefix is_environment_byte (b ∷ bs) (some_first is_environment_byte b bs (start_is_byte b h))

plain_environment_good : (bs : List ℕ) → Good (plain_environment bs)
plain_environment_good bs =
    if_good (is_environment_start (first bs)) _ None
    (λ e. form_good (Is (kinds.Environment (take (prefix_len is_environment_byte bs) bs))) _
    (both (has_some (take (prefix_len is_environment_byte bs) bs)) _ (plain_some bs e)
    (all_imply is_environment_byte is_quoted_environment_byte environment_is_quoted (take (prefix_len is_environment_byte bs) bs) (all_prefix is_environment_byte bs))))
    (λ e. refl)

quoted_environment_good : (bs : List ℕ) → Good (quoted_environment bs)
quoted_environment_good bs =
    let n = prefix_len is_quoted_environment_byte (drop 1 bs) in
    if_good (slice_index bs (1 + n) == byte "\\") (form LeftOut (6 + n)) _ (λ e. form_good LeftOut (6 + n) refl)
    (λ e. if_good (nat_lt 0 n && slice_index bs (1 + n) == byte "\"") (form (Is (kinds.Environment (take n (drop 1 bs)))) (6 + n)) None
    (λ g. form_good (Is (kinds.Environment (take n (drop 1 bs)))) (6 + n)
    (both (has_some (take n (drop 1 bs))) _ (some_prefix is_quoted_environment_byte (drop 1 bs) (ltb-true 0 n (left_of (nat_lt 0 n) _ g))) (all_prefix is_quoted_environment_byte (drop 1 bs))))
    (λ g. refl))

pub environment_good : (bs : List ℕ) → Good (environment bs)
environment_good bs =
    when (begins "env:" bs) _
    (if_good (first (drop 4 bs) == byte "\"") (quoted_environment (drop 4 bs)) (plain_environment (drop 4 bs)) (λ e. quoted_environment_good (drop 4 bs)) (λ e. plain_environment_good (drop 4 bs)))

-- ---- digests

hex_length : (k : ℕ) (ds : List ℕ) → length ds ≡ k + k → length (hex_bytes ds) ≡ k
hex_length zero [] e = refl
hex_length zero (d ∷ ds) e = absurd (omega arith)
hex_length (suc k) [] e = absurd (omega arith)
hex_length (suc k) (d ∷ []) e = absurd (omega arith)
hex_length (suc k) (d ∷ c ∷ ds) e = ap suc (hex_length k ds (omega arith))

take_low : (n : ℕ) (xs : List ℕ) → length (take n xs) ≤ n
take_low zero xs = omega arith
take_low (suc n) [] = omega arith
take_low (suc n) (x ∷ xs) = let h = take_low n xs in omega arith

hex_low : (ds : List ℕ) → IsTrue (list_all is_ascii_hexdigit ds) → IsTrue (list_all (λ b. nat_lt b 256) (hex_bytes ds))
hex_low [] h = refl
hex_low (d ∷ []) h = refl
hex_low (d ∷ c ∷ ds) h =
    let h' = right_of (is_ascii_hexdigit d) (list_all is_ascii_hexdigit (c ∷ ds)) h in
    let a = hex_digit_low d (left_of (is_ascii_hexdigit d) _ h) in
    let b = hex_digit_low c (left_of (is_ascii_hexdigit c) _ h') in
    both (nat_lt (digit_value d * 16 + digit_value c) 256) _ (lt-ltb (digit_value d * 16 + digit_value c) 256 (omega arith)) (hex_low ds (right_of (is_ascii_hexdigit c) (list_all is_ascii_hexdigit ds) h'))

digest_all : (bs : List ℕ) → IsTrue (digest_digits bs == 64) → IsTrue (digest_fits (digest_of (take 64 bs)))
digest_all bs h =
    let e : prefix_len is_ascii_hexdigit (take 64 bs) ≡ 64 = eqb-true (digest_digits bs) 64 h in
    let l = prefix_len-le-length is_ascii_hexdigit (take 64 bs) in
    let m = take_low 64 bs in
    let n : length (take 64 bs) ≡ 64 = omega arith in
    both (length (hex_bytes (take 64 bs)) == 32) _ (eq-eqb (length (hex_bytes (take 64 bs))) 32 (hex_length 32 (take 64 bs) n)) (hex_low (take 64 bs) (whole_prefix is_ascii_hexdigit (take 64 bs) (e ∙ sym n)))

pub digest_good : (bs : List ℕ) → Good (digest bs)
digest_good bs =
    when (begins "sha256:" bs) _
    (if_good (digest_digits (drop 7 bs) == 0) None _ (λ e. refl)
    (λ e. if_good (digest_digits (drop 7 bs) == 64) _ (form (Faulty 0) (7 + digest_digits (drop 7 bs))) (λ g. digest_all (drop 7 bs) g) (λ g. form_good (Faulty 0) (7 + digest_digits (drop 7 bs)) refl)))
