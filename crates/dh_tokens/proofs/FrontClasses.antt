-- The forms that a first byte of some class cannot begin.
use Rattle.std.proofs.Common.{◌≡◌, ℕ, suc, ◌+◌, Bool, true, false, not, ◌&&◌, cond, if◌then◌else◌, ◌==◌, eqb, nat_eq, nat_lt, List, [], ◌∷◌, ◌++◌, take, drop, map, codes, get_or, Option, None, refl, sym, ap, ◌∙◌}
use Rattle.std.proofs.lemmas.Bool.{and_parts, and_left, both_ways, ne_eqb, not-true, or_from}
use Rattle.std.specs.Char.{is_ascii_digit, is_ascii_hexdigit}
use Rattle.std.specs.List.{list_all, prefix_len, starts_with}
use Rattle.dh_syntax.specs.declared.locations.Loc.TheVariants as locs
use Rattle.dh_syntax.specs.Text.Characters.{first, begins, is_name_byte, is_name_start, is_sign, is_bit}
use Rattle.dh_syntax.specs.Text.LexForms.{White, LeftOut, Form, form, longest}
use Rattle.dh_syntax.specs.Text.LexGaps.{white_space, line_comment, block_comment}
use Rattle.dh_syntax.specs.Text.LexLocations.{after_env, after_scheme, after_sha256, by_component, components, digest, environment, path, path_component, path_form, path_from, url}
use Rattle.dh_syntax.specs.Text.LexMarks.{Spelled, mark, mark_form, brackets, separators, binders, operators, operators_twice}
use Rattle.dh_syntax.specs.Text.LexNames.{name, named, name_len, quoted_name, minus_infinity}
use Rattle.dh_syntax.specs.Text.LexNumbers.{natural_found, integer_found, natural, integer, fractional, double, signed_double, date, time, signed_time, binary, bytes_literal, is_shaped}
use Rattle.dh_syntax.specs.Text.LexTexts.{double_quoted_opening, multi_line_opening}
use Rattle.dh_syntax.specs.Text.Numerals.{natural_len, integer_len, read_natural, read_integer}
use Rattle.dh_tokens.specs.Inside.Fronts.{is_symbol}

-- a byte that fails a test is none that passes it
outside : (p : ℕ → Bool) (b c : ℕ) → p b ≡ false → p c ≡ true → eqb b c ≡ false
outside p b c fails passes = ne_eqb b c (λ e. both_ways (p c) (sym (ap p e) ∙ fails) passes)

outside' : (p : ℕ → Bool) (b c : ℕ) → p b ≡ false → p c ≡ true → eqb c b ≡ false
outside' p b c fails passes = ne_eqb c b (λ e. both_ways (p c) (ap p e ∙ fails) passes)

-- a form whose test fails is not there
unless : (test : Bool) (f g : Option Form) → test ≡ false → (if test then f else g) ≡ g
unless test f g e = ap (λ (b : Bool). if b then f else g) e

-- text that begins with another byte
other_start : (p : ℕ → Bool) (b c : ℕ) (bs cs : List ℕ) → p b ≡ false → p c ≡ true → starts_with nat_eq (b ∷ bs) (c ∷ cs) ≡ false
other_start p b c bs cs fails passes = and_left (eqb c b) (starts_with nat_eq bs cs) (outside' p b c fails passes)

-- names, URLs, environment variables and digests begin with a letter or `_`

pub name-none : (b : ℕ) (bs : List ℕ) → is_name_start b ≡ false → name (b ∷ bs) ≡ None
name-none b bs e =
    let n_is : name_len (b ∷ bs) ≡ 0 = ap (λ (t : Bool). if t then prefix_len is_name_byte (b ∷ bs) else 0) e in
    ap (λ n. form (named (take n (b ∷ bs))) n) n_is

pub url-none : (b : ℕ) (bs : List ℕ) → is_name_start b ≡ false → url (b ∷ bs) ≡ None
url-none b bs e =
    unless (begins "http://" (b ∷ bs)) (after_scheme locs.Http 7 (drop 7 (b ∷ bs))) _ (other_start is_name_start b 104 bs (codes "ttp://") e refl)
    ∙ unless (begins "https://" (b ∷ bs)) (after_scheme locs.Https 8 (drop 8 (b ∷ bs))) None (other_start is_name_start b 104 bs (codes "ttps://") e refl)

pub environment-none : (b : ℕ) (bs : List ℕ) → is_name_start b ≡ false → environment (b ∷ bs) ≡ None
environment-none b bs e = unless (begins "env:" (b ∷ bs)) (after_env (drop 4 (b ∷ bs))) None (other_start is_name_start b 101 bs (codes "nv:") e refl)

pub digest-none : (b : ℕ) (bs : List ℕ) → is_name_start b ≡ false → digest (b ∷ bs) ≡ None
digest-none b bs e = unless (begins "sha256:" (b ∷ bs)) (after_sha256 (drop 7 (b ∷ bs))) None (other_start is_name_start b 115 bs (codes "ha256:") e refl)

-- numbers without a sign begin with a digit

pub natural_len-none : (b : ℕ) (bs : List ℕ) → is_ascii_digit b ≡ false → natural_len (b ∷ bs) ≡ 0
natural_len-none b bs e =
    let hex = begins "0x" (b ∷ bs) in
    let hex_len = 2 + prefix_len is_ascii_hexdigit (drop 1 bs) in
    let zero' : eqb b 48 ≡ false = outside is_ascii_digit b 48 e refl in
    let no_hex : (hex && is_ascii_hexdigit (get_or bs 1 0)) ≡ false = and_left hex (is_ascii_hexdigit (get_or bs 1 0)) (other_start is_ascii_digit b 48 bs (codes "x") e refl) in
    ap (λ (t : Bool). if t then hex_len else if eqb b 48 then 1 else prefix_len is_ascii_digit (b ∷ bs)) no_hex
    ∙ ap (λ (t : Bool). if t then 1 else prefix_len is_ascii_digit (b ∷ bs)) zero'
    ∙ ap (λ (t : Bool). cond t (1 + prefix_len is_ascii_digit bs) 0) e

pub natural-none : (b : ℕ) (bs : List ℕ) → is_ascii_digit b ≡ false → natural (b ∷ bs) ≡ None
natural-none b bs e = ap (λ n. form (natural_found (read_natural (take n (b ∷ bs)))) n) (natural_len-none b bs e)

pub double-none : (b : ℕ) (bs : List ℕ) → is_ascii_digit b ≡ false → double (b ∷ bs) ≡ None
double-none b bs e = ap (λ n. fractional n (b ∷ bs)) (natural_len-none b bs e)

not_shaped : (b : ℕ) (bs cs : List ℕ) → is_ascii_digit b ≡ false → is_shaped (48 ∷ cs) (b ∷ bs) ≡ false
not_shaped b bs cs e = and_left (is_ascii_digit b) (is_shaped cs bs) e

pub date-none : (b : ℕ) (bs : List ℕ) → is_ascii_digit b ≡ false → date (b ∷ bs) ≡ None
date-none b bs e = unless (is_shaped (codes "0000-00-00") (b ∷ bs)) (form LeftOut 10) None (not_shaped b bs (codes "000-00-00") e)

pub time-none : (b : ℕ) (bs : List ℕ) → is_ascii_digit b ≡ false → time (b ∷ bs) ≡ None
time-none b bs e = unless (is_shaped (codes "00:00") (b ∷ bs)) (form LeftOut 5) None (not_shaped b bs (codes "0:00") e)

pub binary-none : (b : ℕ) (bs : List ℕ) → is_ascii_digit b ≡ false → binary (b ∷ bs) ≡ None
binary-none b bs e =
    unless (begins "0b" (b ∷ bs) && is_bit (get_or bs 1 0)) (form LeftOut 3) None (and_left (begins "0b" (b ∷ bs)) (is_bit (get_or bs 1 0)) (other_start is_ascii_digit b 48 bs (codes "b") e refl))

pub bytes_literal-none : (b : ℕ) (bs : List ℕ) → is_ascii_digit b ≡ false → bytes_literal (b ∷ bs) ≡ None
bytes_literal-none b bs e = unless (begins "0x\"" (b ∷ bs)) (form LeftOut 3) None (other_start is_ascii_digit b 48 bs (codes "x\"") e refl)

-- gaps, quoted names, openings of texts, paths and numbers with a sign begin with a symbol

pub white_space-none : (b : ℕ) (bs : List ℕ) → is_symbol b ≡ false → white_space (b ∷ bs) ≡ None
white_space-none b bs e =
    let space = outside is_symbol b 32 e refl in
    let tab' = outside is_symbol b 9 e refl in
    let feed = outside is_symbol b 10 e refl in
    let return' = outside is_symbol b 13 e refl in
    let by : Bool → Bool → Bool → Option Form = λ t f r. form White (if t then 1 else if f then 1 else if r then 2 else 0) in
    let returns = eqb b 13 && eqb (first bs) 10 in
    ap (λ t. by t (eqb b 10) returns) (or_from (eqb b 32) (eqb b 9) space tab') ∙ ap (λ f. by false f returns) feed ∙ ap (by false false) (and_left (eqb b 13) (eqb (first bs) 10) return')

pub line_comment-none : (b : ℕ) (bs : List ℕ) → is_symbol b ≡ false → line_comment (b ∷ bs) ≡ None
line_comment-none b bs e = unless (begins "--" (b ∷ bs)) _ None (other_start is_symbol b 45 bs (codes "-") e refl)

pub block_comment-none : (b : ℕ) (bs : List ℕ) → is_symbol b ≡ false → block_comment (b ∷ bs) ≡ None
block_comment-none b bs e = unless (begins "{-" (b ∷ bs)) _ None (other_start is_symbol b 123 bs (codes "-") e refl)

pub quoted_name-none : (b : ℕ) (bs : List ℕ) → is_symbol b ≡ false → quoted_name (b ∷ bs) ≡ None
quoted_name-none b bs e = unless (eqb b 96 && _) _ None (and_left (eqb b 96) _ (outside is_symbol b 96 e refl))

not_sign : (b : ℕ) → is_symbol b ≡ false → is_sign b ≡ false
not_sign b e = or_from (eqb b 43) (eqb b 45) (outside is_symbol b 43 e refl) (outside is_symbol b 45 e refl)

integer_len-none : (b : ℕ) (bs : List ℕ) → is_symbol b ≡ false → integer_len (b ∷ bs) ≡ 0
integer_len-none b bs e = ap (λ (t : Bool). if t && nat_lt 0 (natural_len bs) then suc (natural_len bs) else 0) (not_sign b e)

pub integer-none : (b : ℕ) (bs : List ℕ) → is_symbol b ≡ false → integer (b ∷ bs) ≡ None
integer-none b bs e = ap (λ n. form (integer_found (read_integer (take n (b ∷ bs)))) n) (integer_len-none b bs e)

pub signed_double-none : (b : ℕ) (bs : List ℕ) → is_symbol b ≡ false → signed_double (b ∷ bs) ≡ None
signed_double-none b bs e = ap (λ n. fractional n (b ∷ bs)) (integer_len-none b bs e)

pub signed_time-none : (b : ℕ) (bs : List ℕ) → is_symbol b ≡ false → signed_time (b ∷ bs) ≡ None
signed_time-none b bs e = ap (λ (t : Bool). if t && is_shaped (codes "00:00") bs then form LeftOut 6 else None) (not_sign b e)

pub double_quoted_opening-none : (b : ℕ) (bs : List ℕ) → is_symbol b ≡ false → double_quoted_opening (b ∷ bs) ≡ None
double_quoted_opening-none b bs e = unless (begins "\"" (b ∷ bs)) _ None (other_start is_symbol b 34 bs [] e refl)

pub multi_line_opening-none : (b : ℕ) (bs : List ℕ) → is_symbol b ≡ false → multi_line_opening (b ∷ bs) ≡ None
multi_line_opening-none b bs e = unless (begins "''" (b ∷ bs) && _) _ None (and_left (begins "''" (b ∷ bs)) _ (other_start is_symbol b 39 bs (codes "'") e refl))

pub minus_infinity-none : (b : ℕ) (bs : List ℕ) → is_symbol b ≡ false → minus_infinity (b ∷ bs) ≡ None
minus_infinity-none b bs e =
    unless (begins "-Infinity" (b ∷ bs) && name_len bs == 8) (form LeftOut 9) None (and_left (begins "-Infinity" (b ∷ bs)) (name_len bs == 8) (other_start is_symbol b 45 bs (codes "Infinity") e refl))

components-none : (b : ℕ) (bs : List ℕ) → is_symbol b ≡ false → path_form locs.Abs 0 (components path_component 0 (b ∷ bs)) ≡ None
components-none b bs e =
    ap (λ (t : Bool). path_form locs.Abs 0 (by_component (if t then path_component bs else None) (λ n. components path_component n bs))) (outside is_symbol b 47 e refl)

pub path-none : (b : ℕ) (bs : List ℕ) → is_symbol b ≡ false → path (b ∷ bs) ≡ None
path-none b bs e =
    let forms : Option Form → Option Form → Option Form → Option Form → Option Form = λ h p m a. longest (h ∷ p ∷ m ∷ a ∷ []) in
    let here = path_from "." locs.Here (b ∷ bs) in
    let parent = path_from ".." locs.Parent (b ∷ bs) in
    let home = path_from "~" locs.Home (b ∷ bs) in
    let absolute = path_from "" locs.Abs (b ∷ bs) in
    ap (λ f. forms f parent home absolute) (unless (begins "." (b ∷ bs)) _ None (other_start is_symbol b 46 bs [] e refl))
    ∙ ap (λ f. forms None f home absolute) (unless (begins ".." (b ∷ bs)) _ None (other_start is_symbol b 46 bs (codes ".") e refl))
    ∙ ap (λ f. forms None None f absolute) (unless (begins "~" (b ∷ bs)) _ None (other_start is_symbol b 126 bs [] e refl))
    ∙ ap (forms None None None) (components-none b bs e)

-- marks begin with neither a letter nor a digit

-- the bytes of a mark, which begin outside of a class
abbrev begins_outside : (ℕ → Bool) → List ℕ → Bool
begins_outside p [] = false
begins_outside p (c ∷ cs) = not (p c)

other_bytes : (p : ℕ → Bool) (b : ℕ) (bs cs : List ℕ) → p b ≡ true → begins_outside p cs ≡ true → starts_with nat_eq (b ∷ bs) cs ≡ false
other_bytes p b bs [] h e = absurd (both_ways false refl e)
other_bytes p b bs (c ∷ cs) h e = and_left (eqb c b) (starts_with nat_eq bs cs) (ne_eqb c b (λ same. both_ways (p c) (not-true (p c) e) (ap p same ∙ h)))

mark_form-none : (p : ℕ → Bool) (b : ℕ) (bs : List ℕ) (s : Spelled) → p b ≡ true → begins_outside p s.bytes ≡ true → mark_form (b ∷ bs) s ≡ None
mark_form-none p b bs s h e = unless (starts_with nat_eq (b ∷ bs) s.bytes) _ None (other_bytes p b bs s.bytes h e)

marks-none : (p : ℕ → Bool) (b : ℕ) (bs : List ℕ) (table : List Spelled) → p b ≡ true → list_all (λ (s : Spelled). begins_outside p s.bytes) table ≡ true → longest (map (mark_form (b ∷ bs)) table) ≡ None
marks-none p b bs [] h all = refl
marks-none p b bs (s ∷ table) h all =
    let parts = and_parts (begins_outside p s.bytes) (list_all (λ (t : Spelled). begins_outside p t.bytes) table) all in
    ap (λ f. longest (f ∷ map (mark_form (b ∷ bs)) table)) (mark_form-none p b bs s h parts.0) ∙ marks-none p b bs table h parts.1

pub mark-none_at_name : (b : ℕ) (bs : List ℕ) → is_name_start b ≡ true → mark (b ∷ bs) ≡ None
mark-none_at_name b bs h = marks-none is_name_start b bs (brackets ++ separators ++ binders ++ operators ++ operators_twice) h refl

pub mark-none_at_digit : (b : ℕ) (bs : List ℕ) → is_ascii_digit b ≡ true → mark (b ∷ bs) ≡ None
mark-none_at_digit b bs h = marks-none is_ascii_digit b bs (brackets ++ separators ++ binders ++ operators ++ operators_twice) h refl
