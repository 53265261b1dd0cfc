-- Printed texts are UTF-8.
use Rattle.std.proofs.Common.{◌≡◌, ℕ, zero, suc, ◌^◌, ◌/◌, ◌%◌, ◌<◌, ◌≤◌, ◌≢◌, Bool, true, false, ◌||◌, ◌&&◌, ◌==◌, if◌then◌else◌, nat_lt, List, [], ◌∷◌, ◌++◌, map, codes, Option, Some, None, inl, inr, ℤ, pos, negsuc, decimal, append-nil, refl, sym, ap, subst, ◌∙◌, lit<, arith}
use Rattle.std.specs.Prelude.{nat_le, flat_map}
use lib.Utf8.{scalar, scalars, encode, encodes}
use Rattle.std.proofs.Math.Nat.{lt_trans}
use Rattle.std.proofs.lemmas.Bool.{and_parts, and_from, cases_lt, cases_eq, ltb-true}
use Rattle.std.proofs.lemmas.Bool.Decides.{nat_tests}
use Rattle.std.proofs.lemmas.Fmt.{IsAscii-decimal_wide}
use Rattle.std.proofs.lemmas.Str.{IsUtf8-nil, IsUtf8-from_ascii, IsUtf8-encode, IsUtf8-append, encode_ascii}
use Rattle.std.specs.Char.{is_ascii_alphanumeric, is_ascii_digit, is_ascii_hexdigit}
use Rattle.std.specs.Fmt.{digit_glyph}
use Rattle.std.specs.List.{list_all}
use Rattle.std.specs.Str.{IsUtf8}
use Rattle.dh_syntax.specs.declared.expressions.Alt.{Alt}
use Rattle.dh_syntax.specs.declared.expressions.Op.{Op}
use Rattle.dh_syntax.specs.declared.expressions.Op.TheVariants as ops
use Rattle.dh_syntax.specs.declared.locations.Digest.{Digest}
use Rattle.dh_syntax.specs.declared.locations.Loc.{Loc}
use Rattle.dh_syntax.specs.declared.locations.Loc.TheVariants as locs
use Rattle.dh_syntax.specs.declared.locations.Mode.{Mode}
use Rattle.dh_syntax.specs.declared.locations.Mode.TheVariants as modes
use Rattle.dh_syntax.specs.declared.locations.Url.{Url}
use Rattle.dh_syntax.specs.declared.operators.BinOp.{BinOp}
use Rattle.dh_syntax.specs.declared.operators.BinOp.TheVariants as binary
use Rattle.dh_syntax.specs.Expressions.Arity.{has_some, alt_labels}
use Rattle.dh_syntax.specs.Text.Characters.{first, is_name_start, is_name_byte, is_quoted_label_byte, is_quoted_path_byte, is_quoted_environment_byte, is_query_byte}
use Rattle.dh_syntax.specs.Expressions.Levels.{level_of, left_level}
use Rattle.dh_syntax.specs.Text.Literals.{escape, escape_byte, hex_digit}
use Rattle.dh_syntax.specs.Imports.Locations.{is_path_character, is_kept_in_url, is_plain_variable, local_component, local_text, slashed, quoted, query_text, url_text, loc_text}
use Rattle.dh_syntax.specs.Expressions.Numbers.{bytes_eq}
use Rattle.dh_syntax.specs.Text.Numerals.{write_natural, write_integer}
use Rattle.dh_syntax.specs.Expressions.Operators.{builtin_name}
use Rattle.dh_syntax.specs.Text.Printed.{Layout, Part, plain, under, part, layout, layouts, text_of, at, annotated, bracketed, node, texts, part_text, label, is_plain_label, variable, truth, digest_text, mode_text, arrow, forall, lambda, op_mark, quantified, function_type, operation, braced, fields, alternatives, interpolated, separated}
use Rattle.dh_syntax.specs.Expressions.Spellable.{is_label, is_component, is_environment, is_encoded, is_segment, is_host, after_letter, after_hyphen, after_dot, query_spellable, url_spellable, location_spellable, op_spellable, binder_spellable, names_spellable, row_spellable}
use Rattle.dh_syntax.specs.Expressions.Tree.{Row, Leaf, Node, end, kid, Name, Var, Term}
use Rattle.dh_syntax.specs.Limits.{integer_fits, most_index}
use Rattle.dh_literals.proofs.EscapesWritten.{escape-append, plain_character, control_byte}
use Rattle.dh_layout.proofs.Texts.Values.{HasValues, HaveValues, OpHasValues, ArePieces, IsDigest}
use Rattle.dh_layout.proofs.Reading.Walks.{lefts}
use Rattle.dh_layout.proofs.Reading.Hosts.{either}
use Rattle.dh_layout.proofs.Trees.Nodes.{builtin_word}

-- ---- ASCII

abbrev low : ℕ → Bool
low b = nat_lt b 128

low_scalar : (b : ℕ) → b < 128 → scalar b ≡ true
low_scalar b h = grind (arith, nat_tests)

low_one : (b : ℕ) → b < 128 → IsUtf8 (b ∷ [])
low_one b h = subst IsUtf8 (encode_ascii b h) (IsUtf8-encode b (low_scalar b h))

low_all : (bs : List ℕ) → list_all low bs ≡ true → IsUtf8 bs
low_all [] h = IsUtf8-nil
low_all (b ∷ bs) h =
    let parts = and_parts (low b) (list_all low bs) h in
    IsUtf8-append (b ∷ []) bs (low_one b (ltb-true b 128 parts.0)) (low_all bs parts.1)

within : (p : ℕ → Bool) (bs : List ℕ) → ((b : ℕ) → p b ≡ true → low b ≡ true) → list_all p bs ≡ true → list_all low bs ≡ true
within p [] below h = refl
within p (b ∷ bs) below h =
    let parts = and_parts (p b) (list_all p bs) h in
    and_from (low b) (list_all low bs) (below b parts.0) (within p bs below parts.1)

abbrev AllUtf8 : List (List ℕ) → Type 0
AllUtf8 [] = Unit {0}
AllUtf8 (x ∷ xs) = IsUtf8 x × AllUtf8 xs

-- texts in a row, grouped to the left
row : (a : List ℕ) (xs : List (List ℕ)) → IsUtf8 a → AllUtf8 xs → IsUtf8 (lefts a xs)
row a [] u us = u
row a (x ∷ xs) u us = row (a ++ x) xs (IsUtf8-append a x u us.0) us.1

-- a text that is written out
lit : {bs : List ℕ} → list_all low bs ≡ true → IsUtf8 bs
lit {bs} h = low_all bs h

-- ---- names

name_low : (b : ℕ) → is_name_byte b ≡ true → low b ≡ true
name_low b h = grind (arith, nat_tests)

label_low : (b : ℕ) → is_quoted_label_byte b ≡ true → low b ≡ true
label_low b h = grind (arith, nat_tests)

label_utf8 : (x : Name) → is_label x ≡ true → IsUtf8 (label x)
label_utf8 x h = by (is_plain_label x)
  where
    own : IsUtf8 x
    own = low_all x (within is_quoted_label_byte x label_low h)

    by : (q : Bool) → IsUtf8 (if q then x else codes "`" ++ x ++ codes "`")
    by true = own
    by false = row (codes "`") (x ∷ codes "`" ∷ []) (lit refl) (own, (lit refl, tt))

natural_utf8 : (n : ℕ) → n < 2 ^ 128 → IsUtf8 (decimal n)
natural_utf8 n h = IsUtf8-from_ascii (decimal n) (IsAscii-decimal_wide n (lt_trans h (lit< tt)))

integer_utf8 : (z : ℤ) → integer_fits z ≡ true → IsUtf8 (write_integer z)
integer_utf8 (pos n) h = IsUtf8-append (43 ∷ []) (decimal n) (lit refl) (natural_utf8 n (lt_trans (ltb-true n (2 ^ 127) h) (lit< tt)))
integer_utf8 (negsuc n) h = IsUtf8-append (45 ∷ []) (decimal (suc n)) (lit refl) (natural_utf8 (suc n) wide)
  where
    wide : suc n < 2 ^ 128
    wide = let l = ltb-true n (2 ^ 127) h in omega (arith, l)

variable_utf8 : (v : Var) → is_label v.name ≡ true → v.index ≤ 0x7FFF_FFFF → IsUtf8 (variable v)
variable_utf8 v h i = by (v.index == 0)
  where
    small : v.index < 2 ^ 128
    small = omega (arith, i)

    by : (q : Bool) → IsUtf8 (if q then label v.name else label v.name ++ codes "@" ++ write_natural v.index)
    by true = label_utf8 v.name h
    by false = row (label v.name) (codes "@" ∷ write_natural v.index ∷ []) (label_utf8 v.name h) (lit refl, (natural_utf8 v.index small, tt))

-- ---- texts

escape_one : (c b : ℕ) → b < 128 → IsUtf8 (escape (b ∷ [])) → (c ≢ b → IsUtf8 (escape (encode c))) → IsUtf8 (escape (encode c))
escape_one c b ascii here other = elim (cases_eq c b) [
  | inl e ↦ subst (λ t. IsUtf8 (escape t)) (sym (ap encode e ∙ encode_ascii b ascii)) here
  | inr n ↦ other n
]

hex_low : (d : ℕ) → d < 16 → low (hex_digit d) ≡ true
hex_low d h = grind (arith, nat_tests)

number_low : (b : ℕ) → b < 32 → list_all low (codes "\\u00" ++ (hex_digit (b / 16) ∷ hex_digit (b % 16) ∷ [])) ≡ true
number_low b h =
    let high : b / 16 < 16 = omega arith in
    let back : b % 16 < 16 = omega arith in
    and_from (low (hex_digit (b / 16))) _ (hex_low (b / 16) high) (and_from (low (hex_digit (b % 16))) true (hex_low (b % 16) back) refl)

control_utf8 : (b : ℕ) → b < 32 → b ≢ 8 → b ≢ 12 → b ≢ 10 → b ≢ 13 → b ≢ 9 → IsUtf8 (escape (b ∷ []))
control_utf8 b h n8 n12 n10 n13 n9 =
    subst IsUtf8 (sym (append-nil (escape_byte b) ∙ control_byte b h n8 n12 n10 n13 n9)) (low_all _ (number_low b h))

character_utf8 : (c : ℕ) → scalar c ≡ true → IsUtf8 (escape (encode c))
character_utf8 c s =
    escape_one c 34 (lit< tt) (lit refl) (λ quote.
    escape_one c 92 (lit< tt) (lit refl) (λ backslash.
    escape_one c 36 (lit< tt) (lit refl) (λ dollar.
    escape_one c 8 (lit< tt) (lit refl) (λ n8.
    escape_one c 12 (lit< tt) (lit refl) (λ n12.
    escape_one c 10 (lit< tt) (lit refl) (λ n10.
    escape_one c 13 (lit< tt) (lit refl) (λ n13.
    escape_one c 9 (lit< tt) (lit refl) (λ n9.
    elim (cases_lt c 32) [
      | inl below ↦ subst (λ t. IsUtf8 (escape t)) (sym (encode_ascii c (omega arith))) (control_utf8 c below n8 n12 n10 n13 n9)
      | inr above ↦ subst IsUtf8 (sym (plain_character c s above quote backslash dollar)) (IsUtf8-encode c s)
    ]))))))))

characters_utf8 : (cs : List ℕ) → scalars cs ≡ true → IsUtf8 (escape (encodes cs))
characters_utf8 [] s = IsUtf8-nil
characters_utf8 (c ∷ cs) s =
    let parts = and_parts (scalar c) (scalars cs) s in
    subst IsUtf8 (sym (escape-append (encode c) (encodes cs))) (IsUtf8-append (escape (encode c)) (escape (encodes cs)) (character_utf8 c parts.0) (characters_utf8 cs parts.1))

escape_utf8 : (q : List ℕ) → IsUtf8 q → IsUtf8 (escape q)
escape_utf8 q u = subst (λ t. IsUtf8 (escape t)) u.1.1 (characters_utf8 u.0 u.1.0)

interpolated_utf8 : (qs ts : List (List ℕ)) → ArePieces qs → AllUtf8 ts → IsUtf8 (interpolated qs ts)
interpolated_utf8 [] ts v us = IsUtf8-nil
interpolated_utf8 (q ∷ qs) [] v us = IsUtf8-append (escape q) (interpolated qs []) (escape_utf8 q v.0.0) (interpolated_utf8 qs [] v.1 tt)
interpolated_utf8 (q ∷ qs) (t ∷ ts) v us =
    row (escape q) (codes "${" ∷ t ∷ codes "}" ∷ interpolated qs ts ∷ []) (escape_utf8 q v.0.0) (lit refl, (us.0, (lit refl, (interpolated_utf8 qs ts v.1 us.1, tt))))

-- ---- locations

path_low : (b : ℕ) → is_path_character b ≡ true → low b ≡ true
path_low b h = grind (arith, nat_tests)

quoted_path_low : (b : ℕ) → is_quoted_path_byte b ≡ true → low b ≡ true
quoted_path_low b h = grind (arith, nat_tests)

environment_low : (b : ℕ) → is_quoted_environment_byte b ≡ true → low b ≡ true
environment_low b h = grind (arith, nat_tests)

segment_low : (b : ℕ) → is_kept_in_url b ≡ true → low b ≡ true
segment_low b h = grind (arith, nat_tests)

query_low : (b : ℕ) → is_query_byte b ≡ true → low b ≡ true
query_low b h = grind (arith, nat_tests)

hexdigit_low : (b : ℕ) → is_ascii_hexdigit b ≡ true → low b ≡ true
hexdigit_low b h = grind (arith, nat_tests)

digit_low : (b : ℕ) → is_ascii_digit b ≡ true → low b ≡ true
digit_low b h = grind (arith, nat_tests)

letter_low : (b : ℕ) → is_ascii_alphanumeric b ≡ true → low b ≡ true
letter_low b h = grind (arith, nat_tests)

same_low : (b k : ℕ) → (b == k) ≡ true → k < 128 → low b ≡ true
same_low b k h l = grind (arith, nat_tests)

encoded_low : (test : ℕ → Bool) (skip : ℕ) (bs : List ℕ) → ((b : ℕ) → test b ≡ true → low b ≡ true) → is_encoded test skip bs ≡ true → list_all low bs ≡ true
encoded_low test skip [] below h = refl
encoded_low test zero (b ∷ bs) below h =
    either (b == 37 && is_encoded test 2 bs) (test b && is_encoded test 0 bs) (list_all low (b ∷ bs) ≡ true) h
    (λ q. let parts = and_parts (b == 37) (is_encoded test 2 bs) q in and_from (low b) (list_all low bs) (same_low b 37 parts.0 (lit< tt)) (encoded_low test 2 bs below parts.1))
    (λ q. let parts = and_parts (test b) (is_encoded test 0 bs) q in and_from (low b) (list_all low bs) (below b parts.0) (encoded_low test 0 bs below parts.1))
encoded_low test (suc n) (b ∷ bs) below h =
    let parts = and_parts (is_ascii_hexdigit b) (is_encoded test n bs) h in
    and_from (low b) (list_all low bs) (hexdigit_low b parts.0) (encoded_low test n bs below parts.1)

mutual
  in_letter : (bs : List ℕ) → after_letter bs ≡ true → list_all low bs ≡ true
  in_letter [] h = refl
  in_letter (b ∷ bs) h =
      let P = list_all low (b ∷ bs) ≡ true in
      let a1 = is_ascii_alphanumeric b && after_letter bs in
      let a2 = b == 45 && after_hyphen bs in
      let a3 = b == 46 && after_dot bs in
      let a4 = b == 58 && list_all is_ascii_digit bs in
      either (a1 || a2 || a3) a4 P h
      (λ q. either (a1 || a2) a3 P q
      (λ q. either a1 a2 P q
      (λ q. let parts = and_parts (is_ascii_alphanumeric b) (after_letter bs) q in and_from (low b) (list_all low bs) (letter_low b parts.0) (in_letter bs parts.1))
      (λ q. let parts = and_parts (b == 45) (after_hyphen bs) q in and_from (low b) (list_all low bs) (same_low b 45 parts.0 (lit< tt)) (in_hyphen bs parts.1)))
      (λ q. let parts = and_parts (b == 46) (after_dot bs) q in and_from (low b) (list_all low bs) (same_low b 46 parts.0 (lit< tt)) (in_dot bs parts.1)))
      (λ q. let parts = and_parts (b == 58) (list_all is_ascii_digit bs) q in and_from (low b) (list_all low bs) (same_low b 58 parts.0 (lit< tt)) (within is_ascii_digit bs digit_low parts.1))

  in_hyphen : (bs : List ℕ) → after_hyphen bs ≡ true → list_all low bs ≡ true
  in_hyphen [] h = refl
  in_hyphen (b ∷ bs) h =
      let P = list_all low (b ∷ bs) ≡ true in
      either (is_ascii_alphanumeric b && after_letter bs) (b == 45 && after_hyphen bs) P h
      (λ q. let parts = and_parts (is_ascii_alphanumeric b) (after_letter bs) q in and_from (low b) (list_all low bs) (letter_low b parts.0) (in_letter bs parts.1))
      (λ q. let parts = and_parts (b == 45) (after_hyphen bs) q in and_from (low b) (list_all low bs) (same_low b 45 parts.0 (lit< tt)) (in_hyphen bs parts.1))

  in_dot : (bs : List ℕ) → after_dot bs ≡ true → list_all low bs ≡ true
  in_dot [] h = refl
  in_dot (b ∷ bs) h =
      let P = list_all low (b ∷ bs) ≡ true in
      either (is_ascii_alphanumeric b && after_letter bs) (b == 58 && list_all is_ascii_digit bs) P h
      (λ q. let parts = and_parts (is_ascii_alphanumeric b) (after_letter bs) q in and_from (low b) (list_all low bs) (letter_low b parts.0) (in_letter bs parts.1))
      (λ q. let parts = and_parts (b == 58) (list_all is_ascii_digit bs) q in and_from (low b) (list_all low bs) (same_low b 58 parts.0 (lit< tt)) (within is_ascii_digit bs digit_low parts.1))

host_low : (h : List ℕ) → is_host h ≡ true → list_all low h ≡ true
host_low [] e = refl
host_low (b ∷ bs) e = let parts = and_parts (is_ascii_alphanumeric b) (after_letter bs) e in and_from (low b) (list_all low bs) (letter_low b parts.0) (in_letter bs parts.1)

quoted_utf8 : (x : List ℕ) → IsUtf8 x → IsUtf8 (quoted x)
quoted_utf8 x u = row (34 ∷ []) (x ∷ (34 ∷ []) ∷ []) (lit refl) (u, (lit refl, tt))

component_utf8 : (c : List ℕ) → is_component c ≡ true → IsUtf8 (local_component c)
component_utf8 c h = by (has_some c && list_all is_path_character c)
  where
    own : IsUtf8 c
    own = low_all c (within is_quoted_path_byte c quoted_path_low (and_parts (has_some c) (list_all is_quoted_path_byte c) h).1)

    by : (q : Bool) → IsUtf8 (if q then c else quoted c)
    by true = own
    by false = quoted_utf8 c own

components_utf8 : (cs : List (List ℕ)) → list_all is_component cs ≡ true → IsUtf8 (local_text cs)
components_utf8 [] h = IsUtf8-nil
components_utf8 (c ∷ cs) h =
    let parts = and_parts (is_component c) (list_all is_component cs) h in
    IsUtf8-append (47 ∷ local_component c) (local_text cs) (IsUtf8-append (47 ∷ []) (local_component c) (lit refl) (component_utf8 c parts.0)) (components_utf8 cs parts.1)

segments_utf8 : (cs : List (List ℕ)) → list_all is_segment cs ≡ true → IsUtf8 (slashed cs)
segments_utf8 [] h = IsUtf8-nil
segments_utf8 (c ∷ cs) h =
    let parts = and_parts (is_segment c) (list_all is_segment cs) h in
    IsUtf8-append (47 ∷ c) (slashed cs) (IsUtf8-append (47 ∷ []) c (lit refl) (low_all c (encoded_low is_kept_in_url 0 c segment_low parts.0))) (segments_utf8 cs parts.1)

query_utf8 : (o : Option (List ℕ)) → query_spellable o ≡ true → IsUtf8 (query_text o)
query_utf8 None h = IsUtf8-nil
query_utf8 (Some q) h = IsUtf8-append (63 ∷ []) q (lit refl) (low_all q (encoded_low is_query_byte 0 q query_low h))

url_utf8 : (u : Url) → url_spellable u ≡ true → IsUtf8 (url_text u)
url_utf8 u h =
    let parts = and_parts (is_host u.host && list_all is_segment u.comps) (query_spellable u.query) h in
    let parts' = and_parts (is_host u.host) (list_all is_segment u.comps) parts.0 in
    row u.host (slashed u.comps ∷ query_text u.query ∷ []) (low_all u.host (host_low u.host parts'.0)) (segments_utf8 u.comps parts'.1, (query_utf8 u.query parts.1, tt))

environment_utf8 : (x : List ℕ) → is_environment x ≡ true → IsUtf8 (loc_text (locs.Env x))
environment_utf8 x h = IsUtf8-append (codes "env:") (if is_plain_variable x then x else quoted x) (lit refl) (by (is_plain_variable x))
  where
    own : IsUtf8 x
    own = low_all x (within is_quoted_environment_byte x environment_low (and_parts (has_some x) (list_all is_quoted_environment_byte x) h).1)

    by : (q : Bool) → IsUtf8 (if q then x else quoted x)
    by true = own
    by false = quoted_utf8 x own

location_utf8 : (l : Loc) → location_spellable l ≡ true → IsUtf8 (loc_text l)
location_utf8 (locs.Abs cs) h = components_utf8 cs h
location_utf8 (locs.Here cs) h = IsUtf8-append (codes ".") (local_text cs) (lit refl) (components_utf8 cs h)
location_utf8 (locs.Parent cs) h = IsUtf8-append (codes "..") (local_text cs) (lit refl) (components_utf8 cs h)
location_utf8 (locs.Home cs) h = IsUtf8-append (codes "~") (local_text cs) (lit refl) (components_utf8 cs h)
location_utf8 (locs.Http u) h = IsUtf8-append (codes "http://") (url_text u) (lit refl) (url_utf8 u h)
location_utf8 (locs.Https u) h = IsUtf8-append (codes "https://") (url_text u) (lit refl) (url_utf8 u h)
location_utf8 (locs.Env x) h = environment_utf8 x h
location_utf8 locs.Missing h = lit refl

glyph_low : (d : ℕ) → d < 16 → low (digit_glyph false d) ≡ true
glyph_low d h = grind (arith, nat_tests)

hex_bytes_low : (bs : List ℕ) → list_all (λ b. nat_lt b 256) bs ≡ true → list_all low (flat_map (λ (b : ℕ). digit_glyph false (b / 16) ∷ digit_glyph false (b % 16) ∷ []) bs) ≡ true
hex_bytes_low [] h = refl
hex_bytes_low (b ∷ bs) h =
    let parts = and_parts (nat_lt b 256) (list_all (λ b. nat_lt b 256) bs) h in
    let small : b < 256 = ltb-true b 256 parts.0 in
    let high : b / 16 < 16 = omega (arith, small) in
    let back : b % 16 < 16 = omega arith in
    and_from (low (digit_glyph false (b / 16))) _ (glyph_low (b / 16) high) (and_from (low (digit_glyph false (b % 16))) _ (glyph_low (b % 16) back) (hex_bytes_low bs parts.1))

digest_utf8 : (o : Option Digest) → IsDigest o → IsUtf8 (digest_text o)
digest_utf8 None h = IsUtf8-nil
digest_utf8 (Some d) h = IsUtf8-append (codes " sha256:") _ (lit refl) (low_all _ (hex_bytes_low d.0 h.1))

mode_utf8 : (m : Mode) → IsUtf8 (mode_text m)
mode_utf8 modes.Code = IsUtf8-nil
mode_utf8 modes.Text = lit refl
mode_utf8 modes.Location = lit refl

-- ---- marks

arrow_utf8 : IsUtf8 arrow
unfolding encode
arrow_utf8 = IsUtf8-encode 0x2192 refl

forall_utf8 : IsUtf8 forall
unfolding encode
forall_utf8 = IsUtf8-encode 0x2200 refl

lambda_utf8 : IsUtf8 lambda
unfolding encode
lambda_utf8 = IsUtf8-encode 0x3BB refl

op_mark_utf8 : (o : BinOp) → IsUtf8 (op_mark o)
unfolding encode
op_mark_utf8 binary.Equivalent = IsUtf8-encode 0x2261 refl
op_mark_utf8 binary.Fallback = lit refl
op_mark_utf8 binary.Or = lit refl
op_mark_utf8 binary.Plus = lit refl
op_mark_utf8 binary.TextAppend = lit refl
op_mark_utf8 binary.ListAppend = lit refl
op_mark_utf8 binary.And = lit refl
op_mark_utf8 binary.Combine = IsUtf8-encode 0x2227 refl
op_mark_utf8 binary.Prefer = IsUtf8-encode 0x2AFD refl
op_mark_utf8 binary.CombineTypes = IsUtf8-encode 0x2A53 refl
op_mark_utf8 binary.Times = lit refl
op_mark_utf8 binary.Equal = lit refl
op_mark_utf8 binary.NotEqual = lit refl
op_mark_utf8 binary.Complete = lit refl

-- ---- parts

at_utf8 : (m : ℕ) (e : Layout) → IsUtf8 e.text → IsUtf8 (at m e)
at_utf8 m e u = by (nat_lt e.level m)
  where
    by : (q : Bool) → IsUtf8 (if q then bracketed e.text else e.text)
    by true = row (codes "(") (e.text ∷ codes ")" ∷ []) (lit refl) (u, (lit refl, tt))
    by false = u

annotated_utf8 : (e : Layout) → IsUtf8 e.text → IsUtf8 (annotated e)
annotated_utf8 e u = by e.bare
  where
    by : (q : Bool) → IsUtf8 (if q then bracketed e.text else at 1 e)
    by true = row (codes "(") (e.text ∷ codes ")" ∷ []) (lit refl) (u, (lit refl, tt))
    by false = at_utf8 1 e u

abbrev PartUtf8 : Part → Type 0
PartUtf8 (plain e) = IsUtf8 e.text
PartUtf8 (under x e) = (is_label x ≡ true) × IsUtf8 e.text

abbrev PartsUtf8 : List Part → Type 0
PartsUtf8 [] = Unit {0}
PartsUtf8 (p ∷ ps) = PartUtf8 p × PartsUtf8 ps

part_utf8 : (p : Part) → PartUtf8 p → IsUtf8 (part_text p)
part_utf8 (plain e) u = at_utf8 0 e u
part_utf8 (under x e) u = at_utf8 0 e u.1

texts_utf8 : (ps : List Part) → PartsUtf8 ps → AllUtf8 (texts ps)
texts_utf8 [] u = tt
texts_utf8 (p ∷ ps) u = (part_utf8 p u.0, texts_utf8 ps u.1)

separated_utf8 : (s : List ℕ) (ts : List (List ℕ)) → IsUtf8 s → AllUtf8 ts → IsUtf8 (separated s ts)
separated_utf8 s [] us u = IsUtf8-nil
separated_utf8 s (t ∷ []) us u = u.0
separated_utf8 s (t ∷ k ∷ ts) us u = row t (s ∷ separated s (k ∷ ts) ∷ []) u.0 (us, (separated_utf8 s (k ∷ ts) us u.1, tt))

labels_utf8 : (xs : List Name) → list_all is_label xs ≡ true → AllUtf8 (map label xs)
labels_utf8 [] h = tt
labels_utf8 (x ∷ xs) h = let parts = and_parts (is_label x) (list_all is_label xs) h in (label_utf8 x parts.0, labels_utf8 xs parts.1)

fields_utf8 : (m : List ℕ) (xs : List Name) (ts : List (List ℕ)) → IsUtf8 m → list_all is_label xs ≡ true → AllUtf8 ts → AllUtf8 (fields m xs ts)
fields_utf8 m [] ts um h u = tt
fields_utf8 m (x ∷ xs) [] um h u = tt
fields_utf8 m (x ∷ xs) (t ∷ ts) um h u =
    let parts = and_parts (is_label x) (list_all is_label xs) h in
    (row (label x) (m ∷ t ∷ []) (label_utf8 x parts.0) (um, (u.0, tt)), fields_utf8 m xs ts um parts.1 u.1)

alternatives_utf8 : (as' : List Alt) (ts : List (List ℕ)) → list_all is_label (alt_labels as') ≡ true → AllUtf8 ts → AllUtf8 (alternatives as' ts)
alternatives_utf8 [] ts h u = tt
alternatives_utf8 (a ∷ as') ts h u =
    let parts = and_parts (is_label a.label) (list_all is_label (alt_labels as')) h in
    by a.typed ts u (label_utf8 a.label parts.0) (λ ts u. alternatives_utf8 as' ts parts.1 u)
  where
    by : (t : Bool) (ts : List (List ℕ)) → AllUtf8 ts → IsUtf8 (label a.label) → ((ts : List (List ℕ)) → AllUtf8 ts → AllUtf8 (alternatives as' ts)) → AllUtf8 (alternatives (record { label = a.label; typed = t } ∷ as') ts)
    by false ts u l more = (l, more ts u)
    by true [] u l more = tt
    by true (t ∷ ts) u l more = (row (label a.label) (codes " : " ∷ t ∷ []) l (lit refl, (u.0, tt)), more ts u.1)

braced_utf8 : (ts : List (List ℕ)) → AllUtf8 ts → IsUtf8 (braced ts)
braced_utf8 ts u = row (codes "{ ") (separated (codes ", ") ts ∷ codes " }" ∷ []) (lit refl) (separated_utf8 (codes ", ") ts (lit refl) u, (lit refl, tt))

quantified_utf8 : (m : List ℕ) (x : Name) (a b : Layout) → IsUtf8 m → is_label x ≡ true → IsUtf8 a.text → IsUtf8 b.text → IsUtf8 (quantified m x a b).text
quantified_utf8 m x a b um h ua ub =
    row m (codes "(" ∷ label x ∷ codes " : " ∷ at 0 a ∷ codes ") " ∷ arrow ∷ codes " " ∷ at 0 b ∷ []) um
    (lit refl, (label_utf8 x h, (lit refl, (at_utf8 0 a ua, (lit refl, (arrow_utf8, (lit refl, (at_utf8 0 b ub, tt))))))))

function_utf8 : (x : Name) (a b : Layout) → is_label x ≡ true → IsUtf8 a.text → IsUtf8 b.text → IsUtf8 (function_type x a b).text
function_utf8 x a b h ua ub = by (bytes_eq x (codes "_"))
  where
    by : (q : Bool) → IsUtf8 (if q then record { level = 0; text = at 1 a ++ codes " " ++ arrow ++ codes " " ++ at 0 b; bare = false } else quantified forall x a b).text
    by true = row (at 1 a) (codes " " ∷ arrow ∷ codes " " ∷ at 0 b ∷ []) (at_utf8 1 a ua) (lit refl, (arrow_utf8, (lit refl, (at_utf8 0 b ub, tt))))
    by false = quantified_utf8 forall x a b forall_utf8 h ua ub

operation_utf8 : (o : BinOp) (l r : Layout) → IsUtf8 l.text → IsUtf8 r.text → IsUtf8 (operation o l r).text
operation_utf8 binary.Complete l r ul ur = row (at 16 l) (codes "::" ∷ at 16 r ∷ []) (at_utf8 16 l ul) (lit refl, (at_utf8 16 r ur, tt))
operation_utf8 o l r ul ur =
    row (at (left_level o) l) (codes " " ∷ op_mark o ∷ codes " " ∷ at (suc (level_of o)) r ∷ []) (at_utf8 (left_level o) l ul) (lit refl, (op_mark_utf8 o, (lit refl, (at_utf8 (suc (level_of o)) r ur, tt))))

builtin_utf8 : (bs : List ℕ) → (is_name_start (first bs) && list_all is_name_byte bs) ≡ true → IsUtf8 bs
builtin_utf8 bs h = low_all bs (within is_name_byte bs name_low (and_parts (is_name_start (first bs)) (list_all is_name_byte bs) h).1)

truth_utf8 : (b : Bool) → IsUtf8 (truth b)
truth_utf8 true = lit refl
truth_utf8 false = lit refl

-- a node of parts that are UTF-8
node_utf8 : (op : Op) (ps : List Part) → op_spellable op ≡ true → OpHasValues op → PartsUtf8 ps → IsUtf8 (node op ps).text
node_utf8 (ops.Builtin b) ps s v u = builtin_utf8 (builtin_name b) (builtin_word b).0
node_utf8 (ops.Bool b) ps s v u = truth_utf8 b
node_utf8 (ops.Nat n) ps s v u = natural_utf8 n v
node_utf8 (ops.Int z) ps s v u = integer_utf8 z v
node_utf8 (ops.Text qs) ps s v u = row (codes "\"") (interpolated qs (texts ps) ∷ codes "\"" ∷ []) (lit refl) (interpolated_utf8 qs (texts ps) v (texts_utf8 ps u), (lit refl, tt))
node_utf8 (ops.Import i) ps s v u = row (loc_text i.loc) (digest_text i.digest ∷ mode_text i.mode ∷ []) (location_utf8 i.loc s) (digest_utf8 i.digest v, (mode_utf8 i.mode, tt))
node_utf8 ops.Lam (plain a ∷ under x b ∷ []) s v u = quantified_utf8 lambda x a b lambda_utf8 u.1.0.0 u.0 u.1.0.1
node_utf8 ops.Pi (plain a ∷ under x b ∷ []) s v u = function_utf8 x a b u.1.0.0 u.0 u.1.0.1
node_utf8 (ops.Let false) (plain a ∷ under x b ∷ []) s v u =
    row (codes "let ") (label x ∷ codes " = " ∷ at 0 a ∷ codes " in " ∷ at 0 b ∷ []) (lit refl) (label_utf8 x u.1.0.0, (lit refl, (at_utf8 0 a u.0, (lit refl, (at_utf8 0 b u.1.0.1, tt)))))
node_utf8 (ops.Let true) (plain t ∷ plain a ∷ under x b ∷ []) s v u =
    row (codes "let ") (label x ∷ codes " : " ∷ at 0 t ∷ codes " = " ∷ at 0 a ∷ codes " in " ∷ at 0 b ∷ []) (lit refl) (label_utf8 x u.1.1.0.0, (lit refl, (at_utf8 0 t u.0, (lit refl, (at_utf8 0 a u.1.0, (lit refl, (at_utf8 0 b u.1.1.0.1, tt)))))))
node_utf8 ops.App (plain f ∷ plain a ∷ []) s v u = row (at 14 f) (codes " " ∷ at 15 a ∷ []) (at_utf8 14 f u.0) (lit refl, (at_utf8 15 a u.1.0, tt))
node_utf8 ops.If (plain p ∷ plain t ∷ plain e ∷ []) s v u =
    row (codes "if ") (at 0 p ∷ codes " then " ∷ at 0 t ∷ codes " else " ∷ at 0 e ∷ []) (lit refl) (at_utf8 0 p u.0, (lit refl, (at_utf8 0 t u.1.0, (lit refl, (at_utf8 0 e u.1.1.0, tt)))))
node_utf8 (ops.Bin o) (plain l ∷ plain r ∷ []) s v u = operation_utf8 o l r u.0 u.1.0
node_utf8 ops.EmptyList (plain t ∷ []) s v u = row (codes "[] : ") (at 0 t ∷ []) (lit refl) (at_utf8 0 t u.0, tt)
node_utf8 ops.List ps s v u = row (codes "[ ") (separated (codes ", ") (texts ps) ∷ codes " ]" ∷ []) (lit refl) (separated_utf8 (codes ", ") (texts ps) (lit refl) (texts_utf8 ps u), (lit refl, tt))
node_utf8 ops.Some (plain t ∷ []) s v u = row (codes "Some ") (at 15 t ∷ []) (lit refl) (at_utf8 15 t u.0, tt)
node_utf8 (ops.Merge false) (plain t ∷ plain k ∷ []) s v u = row (codes "merge ") (at 15 t ∷ codes " " ∷ at 15 k ∷ []) (lit refl) (at_utf8 15 t u.0, (lit refl, (at_utf8 15 k u.1.0, tt)))
node_utf8 (ops.Merge true) (plain t ∷ plain k ∷ plain r ∷ []) s v u =
    row (codes "merge ") (at 15 t ∷ codes " " ∷ at 15 k ∷ codes " : " ∷ at 0 r ∷ []) (lit refl) (at_utf8 15 t u.0, (lit refl, (at_utf8 15 k u.1.0, (lit refl, (at_utf8 0 r u.1.1.0, tt)))))
node_utf8 (ops.RecordType []) ps s v u = lit refl
node_utf8 (ops.RecordType (x ∷ xs)) ps s v u = braced_utf8 (fields (codes " : ") (x ∷ xs) (texts ps)) (fields_utf8 (codes " : ") (x ∷ xs) (texts ps) (lit refl) s (texts_utf8 ps u))
node_utf8 (ops.Record []) ps s v u = lit refl
node_utf8 (ops.Record (x ∷ xs)) ps s v u = braced_utf8 (fields (codes " = ") (x ∷ xs) (texts ps)) (fields_utf8 (codes " = ") (x ∷ xs) (texts ps) (lit refl) s (texts_utf8 ps u))
node_utf8 (ops.Field x) (plain t ∷ []) s v u = row (at 16 t) (codes "." ∷ label x ∷ []) (at_utf8 16 t u.0) (lit refl, (label_utf8 x s, tt))
node_utf8 (ops.Project []) (plain t ∷ []) s v u = row (at 16 t) (codes "." ∷ codes "{}" ∷ []) (at_utf8 16 t u.0) (lit refl, (lit refl, tt))
node_utf8 (ops.Project (x ∷ xs)) (plain t ∷ []) s v u = row (at 16 t) (codes "." ∷ braced (map label (x ∷ xs)) ∷ []) (at_utf8 16 t u.0) (lit refl, (braced_utf8 (map label (x ∷ xs)) (labels_utf8 (x ∷ xs) s), tt))
node_utf8 ops.ProjectType (plain t ∷ plain r ∷ []) s v u = row (at 16 t) (codes ".(" ∷ at 0 r ∷ codes ")" ∷ []) (at_utf8 16 t u.0) (lit refl, (at_utf8 0 r u.1.0, (lit refl, tt)))
node_utf8 (ops.Union []) ps s v u = lit refl
node_utf8 (ops.Union (a ∷ as')) ps s v u =
    row (codes "< ") (separated (codes " | ") (alternatives (a ∷ as') (texts ps)) ∷ codes " >" ∷ []) (lit refl)
    (separated_utf8 (codes " | ") (alternatives (a ∷ as') (texts ps)) (lit refl) (alternatives_utf8 (a ∷ as') (texts ps) s (texts_utf8 ps u)), (lit refl, tt))
node_utf8 ops.Assert (plain t ∷ []) s v u = row (codes "assert : ") (at 0 t ∷ []) (lit refl) (at_utf8 0 t u.0, tt)
node_utf8 ops.Annot (plain t ∷ plain r ∷ []) s v u = row (annotated t) (codes " : " ∷ at 0 r ∷ []) (annotated_utf8 t u.0) (lit refl, (at_utf8 0 r u.1.0, tt))
node_utf8 (ops.ToMap false) (plain t ∷ []) s v u = row (codes "toMap ") (at 15 t ∷ []) (lit refl) (at_utf8 15 t u.0, tt)
node_utf8 (ops.ToMap true) (plain t ∷ plain r ∷ []) s v u = row (codes "toMap ") (at 15 t ∷ codes " : " ∷ at 0 r ∷ []) (lit refl) (at_utf8 15 t u.0, (lit refl, (at_utf8 0 r u.1.0, tt)))
node_utf8 (ops.With path) (plain e ∷ plain k ∷ []) s v u =
    row (at 15 e) (codes " with " ∷ separated (codes ".") (map label path) ∷ codes " = " ∷ at 1 k ∷ []) (at_utf8 15 e u.0)
    (lit refl, (separated_utf8 (codes ".") (map label path) (lit refl) (labels_utf8 path s), (lit refl, (at_utf8 1 k u.1.0, tt))))
node_utf8 op ps s v u = IsUtf8-nil

bound_utf8 : (b : Option Name) (e : Layout) → binder_spellable b ≡ true → IsUtf8 e.text → PartUtf8 (part b e)
bound_utf8 None e h u = u
bound_utf8 (Some x) e h u = (h, u)

mutual
  -- a printed text is UTF-8
  pub text_utf8 : (e : Term) → names_spellable e ≡ true → HasValues e → IsUtf8 (text_of e)
  text_utf8 (Leaf x) s v =
      let parts = and_parts (is_label x.name) (nat_le x.index most_index) s in
      variable_utf8 x parts.0 (grind (arith, nat_tests))
  text_utf8 (Node op r) s v =
      let parts = and_parts (op_spellable op) (row_spellable r) s in
      node_utf8 op (layouts r) parts.0 v.0 (parts_utf8 r parts.1 v.1)

  parts_utf8 : (r : Row Var Name) → row_spellable r ≡ true → HaveValues r → PartsUtf8 (layouts r)
  parts_utf8 end s v = tt
  parts_utf8 (kid b e r) s v =
      let parts = and_parts _ (row_spellable r) s in
      let parts' = and_parts (binder_spellable b) (names_spellable e) parts.0 in
      (bound_utf8 b (layout e) parts'.0 (text_utf8 e parts'.1 v.0), parts_utf8 r parts.1 v.1)
