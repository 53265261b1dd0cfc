-- Locations of imports and digests: "import-type" and "hash" of `dhall.abnf`.
use Rattle.std.specs.Prelude.{ℕ, zero, suc, ◌+◌, ◌*◌, ◌-◌, Bool, ◌&&◌, List, [], ◌∷◌, Option, Some, None, nat_lt, ◌==◌, if◌then◌else◌, length, take, drop, slice_index, codes}
use Rattle.std.specs.Char.{digit_value, is_ascii_alphanumeric, is_ascii_digit, is_ascii_hexdigit}
use Rattle.std.specs.List.{prefix_len, suffix_len}
use Rattle.std.specs.Str.{byte}
use Prim.Native.String.{String}
use Rattle.dh_syntax.specs.declared.locations.Digest.{Digest}
use Rattle.dh_syntax.specs.declared.locations.Loc.{Loc}
use Rattle.dh_syntax.specs.declared.locations.Loc.TheVariants as locs
use Rattle.dh_syntax.specs.declared.locations.Url.{Url}
use Rattle.dh_syntax.specs.declared.tokens.TokenKind.TheVariants as kinds
use Rattle.dh_syntax.specs.Text.Characters.{first, begins, is_quoted_path_byte, is_host_byte, is_segment_byte, is_query_byte, is_environment_start, is_environment_byte, is_quoted_environment_byte}
use Rattle.dh_syntax.specs.Text.LexForms.{Is, LeftOut, Faulty, Form, form, longest}
use Rattle.dh_syntax.specs.Imports.Locations.{is_path_character}

-- a component: the text between two slashes, and how many bytes it takes
pub record Component : Type 0 where
  pub text : List ℕ
  pub len : ℕ

-- components, and how many bytes they take with the slash before each
pub record Components : Type 0 where
  pub texts : List (List ℕ)
  pub total : ℕ

-- no component
abbrev pub no_components : Components
no_components = record { texts = []; total = 0 }

-- components with one more byte before them
abbrev pub a_byte_more : Components → Components
a_byte_more cs = record cs { total = suc cs.total }

-- components with one more component before them, of whose slash this is the byte
abbrev pub a_component_more : List ℕ → Components → Components
a_component_more text cs = record { texts = text ∷ cs.texts; total = suc cs.total }

-- components by the first one, and by what follows so many bytes after its slash
abbrev pub by_component : Option Component → (ℕ → Components) → Components
by_component None rest = no_components
by_component (Some c) rest = a_component_more c.text (rest c.len)

-- `/` and a component, any number of times, from so many bytes on
abbrev pub components : (List ℕ → Option Component) → ℕ → List ℕ → Components
components component skip [] = no_components
components component (suc skip) (b ∷ bs) = a_byte_more (components component skip bs)
components component zero (b ∷ bs) = by_component (if b == byte "/" then component bs else None) (λ n. components component n bs)

-- unquoted-path-component
abbrev pub plain_component : List ℕ → Option Component
plain_component bs =
    let n = prefix_len is_path_character bs in
    if nat_lt 0 n then Some (record { text = take n bs; len = n }) else None

-- quoted-path-component between quotes
abbrev pub quoted_component : List ℕ → Option Component
quoted_component bs =
    let n = prefix_len is_quoted_path_byte (drop 1 bs) in
    if nat_lt 0 n && slice_index bs (1 + n) == byte "\"" then Some (record { text = take n (drop 1 bs); len = 2 + n }) else None

-- path-component, after its slash
abbrev pub path_component : List ℕ → Option Component
path_component bs = if first bs == byte "\"" then quoted_component bs else plain_component bs

-- a path with so many bytes before its components, of which there is at least one
abbrev pub path_form : (List (List ℕ) → Loc) → ℕ → Components → Option Form
path_form kind before cs = if nat_lt 0 cs.total then form (Is (kinds.Path (kind cs.texts))) (before + cs.total) else None

-- a path with these bytes before its first slash
abbrev pub path_from : String → (List (List ℕ) → Loc) → List ℕ → Option Form
path_from before kind bs =
    let n = length (codes before) in
    if begins before bs then path_form kind n (components path_component 0 (drop n bs)) else None

-- local: here-path, parent-path, home-path, absolute-path
abbrev pub path : List ℕ → Option Form
path bs =
    longest (path_from "." locs.Here bs
    ∷ path_from ".." locs.Parent bs
    ∷ path_from "~" locs.Home bs
    ∷ path_from "" locs.Abs bs
    ∷ [])

-- how many bytes the domainlabel at the front takes, 0 where there is none: letters, digits and `-`, the first and the
-- last a letter or digit
abbrev pub label_len : List ℕ → ℕ
label_len bs =
    let run = take (prefix_len is_host_byte bs) bs in
    if is_ascii_alphanumeric (first bs) then length run - suffix_len (λ b. b == byte "-") run else 0

-- how many bytes `.` and what follows it take: by the length of the domainlabel that follows, and by what follows so many
-- bytes after the `.`
abbrev pub after_dot : ℕ → (ℕ → ℕ) → ℕ
after_dot zero rest = 1
after_dot (suc n) rest = suc (rest (suc n))

-- `.` and a domainlabel, any number of times, and possibly one more `.`: how many bytes, from so many bytes on
abbrev pub more_labels : ℕ → List ℕ → ℕ
more_labels skip [] = 0
more_labels (suc skip) (b ∷ bs) = suc (more_labels skip bs)
more_labels zero (b ∷ bs) = if b == byte "." then after_dot (label_len bs) (λ n. more_labels n bs) else 0

-- how many bytes the domain at the front takes, 0 where there is none
abbrev pub domain_len : List ℕ → ℕ
domain_len bs = if nat_lt 0 (label_len bs) then label_len bs + more_labels 0 (drop (label_len bs) bs) else 0

-- `:` and port
abbrev pub port_len : List ℕ → ℕ
port_len bs = if first bs == byte ":" then 1 + prefix_len is_ascii_digit (drop 1 bs) else 0

-- how many bytes the host with its port takes, 0 where there is none
abbrev pub host_len : List ℕ → ℕ
host_len bs = if nat_lt 0 (domain_len bs) then domain_len bs + port_len (drop (domain_len bs) bs) else 0

-- pct-encoded
abbrev pub begins_percent : List ℕ → Bool
begins_percent bs = first bs == byte "%" && is_ascii_hexdigit (slice_index bs 1) && is_ascii_hexdigit (slice_index bs 2)

-- how many bytes the character of a URL at the front takes, 0 where there is none
abbrev pub url_char_len : (ℕ → Bool) → List ℕ → ℕ
url_char_len plain bs = if plain (first bs) then 1 else if begins_percent bs then 3 else 0

-- how many bytes such characters take, by the length of the first one and by what follows so many bytes after its first one
abbrev pub by_url_char : ℕ → (ℕ → ℕ) → ℕ
by_url_char zero rest = 0
by_url_char (suc n) rest = suc (rest n)

-- how many bytes such characters take, from so many bytes on
abbrev pub url_chars_len : (ℕ → Bool) → ℕ → List ℕ → ℕ
url_chars_len plain skip [] = 0
url_chars_len plain (suc skip) (b ∷ bs) = suc (url_chars_len plain skip bs)
url_chars_len plain zero (b ∷ bs) = by_url_char (url_char_len plain (b ∷ bs)) (λ n. url_chars_len plain n bs)

-- segment
abbrev pub segment : List ℕ → Option Component
segment bs =
    let n = url_chars_len is_segment_byte 0 bs in
    Some (record { text = take n bs; len = n })

-- a URL without a path has one empty component
abbrev pub one_or_more : List (List ℕ) → List (List ℕ)
one_or_more [] = [] ∷ []
one_or_more (c ∷ cs) = c ∷ cs

-- `?` and query
abbrev pub query_of : List ℕ → Option (List ℕ)
query_of bs = if first bs == byte "?" then Some (take (url_chars_len is_query_byte 0 (drop 1 bs)) (drop 1 bs)) else None

-- how many bytes `?` and a query take
abbrev pub query_len : Option (List ℕ) → ℕ
query_len None = 0
query_len (Some q) = 1 + length q

-- the form of a URL from its host on, where so many bytes are its scheme and so many its host
abbrev pub url_form : (Url → Loc) → ℕ → ℕ → List ℕ → Option Form
url_form kind before n bs =
    let cs = components segment 0 (drop n bs) in
    let query = query_of (drop (n + cs.total) bs) in
    let found = Is (kinds.Url (kind (record { host = take n bs; comps = one_or_more cs.texts; query = query }))) in
    form found (before + n + cs.total + query_len query)

-- a URL after its scheme: left out where the host begins with `[` or is followed by `@`
abbrev pub after_scheme : (Url → Loc) → ℕ → List ℕ → Option Form
after_scheme kind before bs =
    let n = host_len bs in
    if first bs == byte "[" then form LeftOut (1 + before)
    else if n == 0 then None
    else if slice_index bs n == byte "@" then form LeftOut (1 + before + n)
    else url_form kind before n bs

-- http-raw
abbrev pub url : List ℕ → Option Form
url bs =
    if begins "http://" bs then after_scheme locs.Http 7 (drop 7 bs)
    else if begins "https://" bs then after_scheme locs.Https 8 (drop 8 bs)
    else None

-- bash-environment-variable, after `env:`
abbrev pub plain_environment : List ℕ → Option Form
plain_environment bs =
    let n = prefix_len is_environment_byte bs in
    if is_environment_start (first bs) then form (Is (kinds.Environment (take n bs))) (4 + n) else None

-- posix-environment-variable between quotes, after `env:`: left out where it has a backslash
abbrev pub quoted_environment : List ℕ → Option Form
quoted_environment bs =
    let n = prefix_len is_quoted_environment_byte (drop 1 bs) in
    if slice_index bs (1 + n) == byte "\\" then form LeftOut (6 + n)
    else if nat_lt 0 n && slice_index bs (1 + n) == byte "\"" then form (Is (kinds.Environment (take n (drop 1 bs)))) (6 + n)
    else None

-- env, after `env:`
abbrev pub after_env : List ℕ → Option Form
after_env bs = if first bs == byte "\"" then quoted_environment bs else plain_environment bs

-- env
abbrev pub environment : List ℕ → Option Form
environment bs = if begins "env:" bs then after_env (drop 4 bs) else None

-- the bytes that pairs of hexadecimal digits write
abbrev pub hex_bytes : List ℕ → List ℕ
hex_bytes [] = []
hex_bytes (a ∷ []) = []
hex_bytes (a ∷ b ∷ ds) = (digit_value a * 16 + digit_value b) ∷ hex_bytes ds

-- the digest of 64 hexadecimal digits
abbrev pub digest_of : List ℕ → Digest
digest_of digits = record { 0 = hex_bytes digits }

-- how many hexadecimal digits stand at the front, at most 64
abbrev pub digest_digits : List ℕ → ℕ
digest_digits bs = prefix_len is_ascii_hexdigit (take 64 bs)

-- hash, after `sha256:`: a fault at its start where there are digits, but too few
abbrev pub after_sha256 : List ℕ → Option Form
after_sha256 bs =
    let n = digest_digits bs in
    if n == 0 then None
    else if n == 64 then form (Is (kinds.Digest (digest_of (take 64 bs)))) 71
    else form (Faulty 0) (7 + n)

-- hash
abbrev pub digest : List ℕ → Option Form
digest bs = if begins "sha256:" bs then after_sha256 (drop 7 bs) else None
