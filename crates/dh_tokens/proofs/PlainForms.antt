-- The forms that are neither a fault nor the opening of a text.
use Rattle.std.proofs.Common.{◌≡◌, ℕ, ℤ, ◌+◌, Bool, true, false, if◌then◌else◌, ◌==◌, nat_eq, List, [], ◌∷◌, ◌++◌, length, take, drop, map, Option, Some, None, IfSome, refl, rules}
use Rattle.std.proofs.lemmas.Bool.{and_parts, both_ways}
use Rattle.std.specs.List.{list_all, starts_with}
use Rattle.dh_syntax.specs.declared.locations.Loc.{Loc}
use Rattle.dh_syntax.specs.declared.locations.Loc.TheVariants as locs
use Rattle.dh_syntax.specs.declared.locations.Url.{Url}
use Rattle.dh_syntax.specs.declared.tokens.TokenKind.{TokenKind}
use Rattle.dh_syntax.specs.declared.tokens.TokenKind.TheVariants as kinds
use Rattle.dh_syntax.specs.Text.Characters.{first, begins}
use Rattle.dh_syntax.specs.Text.LexForms.{Found, White, SkippedLine, Is, LeftOut, TooWide, Faulty, Unclosed, Form, form}
use Rattle.dh_syntax.specs.Text.LexGaps.{white_space}
use Rattle.dh_syntax.specs.Text.LexLocations.{Components, after_env, after_scheme, components, environment, path, path_component, path_form, path_from, plain_environment, quoted_environment, url}
use Rattle.dh_syntax.specs.Text.LexMarks.{Spelled, mark, mark_form, brackets, separators, binders, operators, operators_twice}
use Rattle.dh_syntax.specs.Text.LexNames.{Reserved, keyword_names, built_in_names, names_left_out, name, name_len, named, named_in, quoted_name, minus_infinity}
use Rattle.dh_syntax.specs.Text.LexNumbers.{natural_found, integer_found, natural, integer, fractional, double, signed_double, date, time, signed_time, binary, bytes_literal}
use Rattle.dh_syntax.specs.Text.Numerals.{natural_len, integer_len, read_natural, read_integer}
use Rattle.dh_tokens.specs.Inside.Forms.{HasFaultWithin}
use Rattle.dh_tokens.proofs.FormProperties.{Each, form-has, when-has, if-has, longest-has}

-- whether the characters of no text follow a token
abbrev pub is_plain_kind : TokenKind → Bool
is_plain_kind (kinds.TextOpen f) = false
is_plain_kind kinds.InterpolationClose = false
is_plain_kind kind = true

-- whether a form is no fault and the characters of no text follow it
abbrev pub is_plain : Found → Bool
is_plain (Faulty n) = false
is_plain (Is kind) = is_plain_kind kind
is_plain found = true

abbrev pub IsPlain : Form → Type 0
IsPlain f = is_plain f.found ≡ true

pub HasFaultWithin-plain : (found : Found) (n : ℕ) → is_plain found ≡ true → HasFaultWithin found n
HasFaultWithin-plain White n h = tt
HasFaultWithin-plain SkippedLine n h = tt
HasFaultWithin-plain (Is kind) n h = tt
HasFaultWithin-plain LeftOut n h = tt
HasFaultWithin-plain TooWide n h = tt
HasFaultWithin-plain (Faulty k) n h = absurd (both_ways false refl h)
HasFaultWithin-plain Unclosed n h = tt

form-plain : (found : Found) (n : ℕ) → is_plain found ≡ true → IfSome (form found n) IsPlain
form-plain found n h = form-has IsPlain found n (λ some. h)

when-plain : (test : Bool) (f : Option Form) → IfSome f IsPlain → IfSome (if test then f else None) IsPlain
when-plain test f h = when-has IsPlain test f (λ yes'. h)

if-plain : (test : Bool) (f g : Option Form) → IfSome f IsPlain → IfSome g IsPlain → IfSome (if test then f else g) IsPlain
if-plain test f g h k = if-has IsPlain test f g (λ yes'. h) (λ no'. k)

pub white_space-plain : (bs : List ℕ) → IfSome (white_space bs) IsPlain
white_space-plain bs = form-plain White _ refl

if_found-plain : (test : Bool) (f g : Found) → is_plain f ≡ true → is_plain g ≡ true → is_plain (if test then f else g) ≡ true
if_found-plain true f g h k = h
if_found-plain false f g h k = k

named_in-plain : (rs : List Reserved) (name : List ℕ) → list_all (λ (r : Reserved). is_plain r.meaning) rs ≡ true → is_plain (named_in rs name) ≡ true
named_in-plain [] name all = refl
named_in-plain (r ∷ rs) name all =
    let parts = and_parts (is_plain r.meaning) (list_all (λ (r : Reserved). is_plain r.meaning) rs) all in
    if_found-plain _ r.meaning (named_in rs name) parts.0 (named_in-plain rs name parts.1)

named-plain : (name : List ℕ) → is_plain (named name) ≡ true
named-plain name = named_in-plain (keyword_names ++ built_in_names ++ names_left_out) name refl

pub name-plain : (bs : List ℕ) → IfSome (name bs) IsPlain
name-plain bs = form-plain (named (take (name_len bs) bs)) (name_len bs) (named-plain (take (name_len bs) bs))

pub quoted_name-plain : (bs : List ℕ) → IfSome (quoted_name bs) IsPlain
quoted_name-plain bs = search (when-plain, form-plain, rules)

pub minus_infinity-plain : (bs : List ℕ) → IfSome (minus_infinity bs) IsPlain
minus_infinity-plain bs = search (when-plain, rules)

natural_found-plain : (n : Option ℕ) → is_plain (natural_found n) ≡ true
natural_found-plain None = refl
natural_found-plain (Some n) = refl

integer_found-plain : (n : Option ℤ) → is_plain (integer_found n) ≡ true
integer_found-plain None = refl
integer_found-plain (Some n) = refl

pub natural-plain : (bs : List ℕ) → IfSome (natural bs) IsPlain
natural-plain bs = form-plain (natural_found (read_natural (take (natural_len bs) bs))) (natural_len bs) (natural_found-plain (read_natural (take (natural_len bs) bs)))

pub integer-plain : (bs : List ℕ) → IfSome (integer bs) IsPlain
integer-plain bs = form-plain (integer_found (read_integer (take (integer_len bs) bs))) (integer_len bs) (integer_found-plain (read_integer (take (integer_len bs) bs)))

fractional-plain : (n : ℕ) (bs : List ℕ) → IfSome (fractional n bs) IsPlain
fractional-plain n bs = when-plain _ _ (form-plain LeftOut (2 + n) refl)

pub double-plain : (bs : List ℕ) → IfSome (double bs) IsPlain
double-plain bs = fractional-plain (natural_len bs) bs

pub signed_double-plain : (bs : List ℕ) → IfSome (signed_double bs) IsPlain
signed_double-plain bs = fractional-plain (integer_len bs) bs

pub date-plain : (bs : List ℕ) → IfSome (date bs) IsPlain
date-plain bs = search (when-plain, rules)

pub time-plain : (bs : List ℕ) → IfSome (time bs) IsPlain
time-plain bs = search (when-plain, rules)

pub signed_time-plain : (bs : List ℕ) → IfSome (signed_time bs) IsPlain
signed_time-plain bs = search (when-plain, rules)

pub binary-plain : (bs : List ℕ) → IfSome (binary bs) IsPlain
binary-plain bs = search (when-plain, rules)

pub bytes_literal-plain : (bs : List ℕ) → IfSome (bytes_literal bs) IsPlain
bytes_literal-plain bs = search (when-plain, rules)

path_from-plain : (test : Bool) (kind : List (List ℕ) → Loc) (before : ℕ) (cs : Components) → IfSome (if test then path_form kind before cs else None) IsPlain
path_from-plain test kind before cs = search (when-plain, form-plain, rules)

pub path-plain : (bs : List ℕ) → IfSome (path bs) IsPlain
path-plain bs =
    let cs : ℕ → Components = λ n. components path_component 0 (drop n bs) in
    longest-has IsPlain (path_from "." locs.Here bs ∷ path_from ".." locs.Parent bs ∷ path_from "~" locs.Home bs ∷ path_from "" locs.Abs bs ∷ [])
    (path_from-plain (begins "." bs) locs.Here 1 (cs 1), (path_from-plain (begins ".." bs) locs.Parent 2 (cs 2), (path_from-plain (begins "~" bs) locs.Home 1 (cs 1), (path_from-plain (begins "" bs) locs.Abs 0 (cs 0), tt))))

after_scheme-plain : (kind : Url → Loc) (before : ℕ) (bs : List ℕ) → IfSome (after_scheme kind before bs) IsPlain
after_scheme-plain kind before bs = search (if-plain, form-plain, rules)

pub url-plain : (bs : List ℕ) → IfSome (url bs) IsPlain
url-plain bs =
    if-plain (begins "http://" bs) (after_scheme locs.Http 7 (drop 7 bs)) (if begins "https://" bs then after_scheme locs.Https 8 (drop 8 bs) else None)
    (after_scheme-plain locs.Http 7 (drop 7 bs)) (when-plain (begins "https://" bs) (after_scheme locs.Https 8 (drop 8 bs)) (after_scheme-plain locs.Https 8 (drop 8 bs)))

plain_environment-plain : (bs : List ℕ) → IfSome (plain_environment bs) IsPlain
plain_environment-plain bs = search (when-plain, form-plain, rules)

quoted_environment-plain : (bs : List ℕ) → IfSome (quoted_environment bs) IsPlain
quoted_environment-plain bs = search (if-plain, when-plain, form-plain, rules)

after_env-plain : (bs : List ℕ) → IfSome (after_env bs) IsPlain
after_env-plain bs = if-plain (first bs == 34) (quoted_environment bs) (plain_environment bs) (quoted_environment-plain bs) (plain_environment-plain bs)

pub environment-plain : (bs : List ℕ) → IfSome (environment bs) IsPlain
environment-plain bs = when-plain (begins "env:" bs) (after_env (drop 4 bs)) (after_env-plain (drop 4 bs))

marks-plain : (bs : List ℕ) (table : List Spelled) → Each IsPlain (map (mark_form bs) table)
marks-plain bs [] = tt
marks-plain bs (s ∷ table) =
    let found = Is (kinds.Mark s.mark) in
    (when-plain (starts_with nat_eq bs s.bytes) (form found (length s.bytes)) (form-plain found (length s.bytes) refl), marks-plain bs table)

pub mark-plain : (bs : List ℕ) → IfSome (mark bs) IsPlain
mark-plain bs = let table = brackets ++ separators ++ binders ++ operators ++ operators_twice in longest-has IsPlain (map (mark_form bs) table) (marks-plain bs table)
