-- Where imports are found: canonical locations, chaining, the two tests on an import, and the text of a location
-- (the standard's "Import resolution"; `dhall.abnf`, "import-type").
use Rattle.std.specs.Prelude.{ℕ, ◌/◌, ◌%◌, ◌==◌, Bool, true, false, not, ◌&&◌, ◌||◌, if◌then◌else◌, List, [], ◌∷◌, ◌++◌, Option, Some, None, map, flat_map, codes}
use Rattle.std.specs.Char.{is_ascii_alphanumeric, is_ascii_digit}
use Rattle.std.specs.Fmt.{digit_glyph}
use Rattle.std.specs.Int.{is_in_range}
use Rattle.std.specs.List.{list_all, list_any}
use Rattle.dh_syntax.specs.declared.locations.Loc.{Loc}
use Rattle.dh_syntax.specs.declared.locations.Loc.TheVariants as locs
use Rattle.dh_syntax.specs.declared.locations.Mode.{Mode}
use Rattle.dh_syntax.specs.declared.locations.Mode.TheVariants as mode
use Rattle.dh_syntax.specs.declared.locations.Url.{Url}
use Rattle.dh_syntax.specs.Expressions.Arity.{has_some}
use Rattle.dh_syntax.specs.Expressions.Numbers.{bytes_eq}

-- the components of a path, the file last
abbrev pub Comps : Type 0
Comps = List (List ℕ)

-- ---- canonical locations

-- the components of a path without the file
abbrev pub folder : Comps → Comps
folder [] = []
folder (file ∷ []) = []
folder (c ∷ d ∷ cs) = c ∷ folder (d ∷ cs)

-- the last component of a path, alone
abbrev pub file : Comps → Comps
file [] = []
file (c ∷ []) = c ∷ []
file (c ∷ d ∷ cs) = file (d ∷ cs)

-- whether a component is `.`
abbrev pub is_dot : List ℕ → Bool
is_dot c = bytes_eq c (codes ".")

-- whether a component is `..`
abbrev pub is_up : List ℕ → Bool
is_up c = bytes_eq c (codes "..")

-- a component before a canonical folder: `.` is dropped, and so is a name with the `..` after it
abbrev pub before_folder : List ℕ → Comps → Comps
before_folder c [] = if is_dot c then [] else c ∷ []
before_folder c (d ∷ ds) = if is_dot c then d ∷ ds else (if is_up d && not (is_up c) then ds else c ∷ d ∷ ds)

-- A `..` with no name before it stays, also below a root.
abbrev pub canon_folder : Comps → Comps
canon_folder [] = []
canon_folder (c ∷ cs) = before_folder c (canon_folder cs)

-- the file is left as it is
abbrev pub canon_path : Comps → Comps
canon_path cs = canon_folder (folder cs) ++ file cs

-- the relative location with this path: `../` says the first `..` of its folder
abbrev pub relative : Comps → Loc
relative [] = locs.Here []
relative (c ∷ []) = locs.Here (c ∷ [])
relative (c ∷ d ∷ cs) = if is_up c then locs.Parent (d ∷ cs) else locs.Here (c ∷ d ∷ cs)

-- a URL with its path made canonical
abbrev pub canon_url : Url → Url
canon_url u = record { host = u.host; comps = canon_path u.comps; query = u.query }

-- the canonical form of a location
abbrev pub canon : Loc → Loc
canon (locs.Abs cs) = locs.Abs (canon_path cs)
canon (locs.Here cs) = relative (canon_path cs)
canon (locs.Parent cs) = locs.Parent (canon_path cs)
canon (locs.Home cs) = locs.Home (canon_path cs)
canon (locs.Http u) = locs.Http (canon_url u)
canon (locs.Https u) = locs.Https (canon_url u)
canon (locs.Env x) = locs.Env x
canon locs.Missing = locs.Missing

-- ---- chaining

-- the bytes that a component of a URL keeps
abbrev pub is_kept_in_url : ℕ → Bool
is_kept_in_url b = is_ascii_alphanumeric b || list_any (λ c. c == b) (codes "-._~!$&'*+;=:@")

-- `%` and two upper-case hexadecimal digits
abbrev pub percent_escape : ℕ → List ℕ
percent_escape b = 37 ∷ digit_glyph true (b / 16) ∷ digit_glyph true (b % 16) ∷ []

-- a component of a path as a component of a URL
abbrev pub url_component : List ℕ → List ℕ
url_component c = flat_map (λ b. if is_kept_in_url b then b ∷ [] else percent_escape b) c

-- the path that leads from the folder of the first path along the second one
abbrev pub joined : Comps → Comps → Comps
joined ps cs = canon_path (folder ps ++ cs)

-- only the child's components are escaped, and its location has no query
abbrev pub joined_url : Url → Comps → Url
joined_url u cs = record { host = u.host; comps = joined u.comps (map url_component cs); query = None }

-- a relative child, which goes along this path, in a text at this parent
abbrev pub from_parent : Loc → Loc → Comps → Loc
from_parent (locs.Abs ps) child cs = locs.Abs (joined ps cs)
from_parent (locs.Here ps) child cs = relative (joined ps cs)
from_parent (locs.Parent ps) child cs = relative (joined (codes ".." ∷ ps) cs)
from_parent (locs.Home ps) child cs = locs.Home (joined ps cs)
from_parent (locs.Http u) child cs = locs.Http (joined_url u cs)
from_parent (locs.Https u) child cs = locs.Https (joined_url u cs)
from_parent (locs.Env x) child cs = canon child
from_parent locs.Missing child cs = canon child

-- The location of a child in a text at this parent. With no parent, the text is the input.
abbrev pub chain : Option Loc → Loc → Loc
chain (Some parent) (locs.Here cs) = from_parent parent (locs.Here cs) cs
chain (Some parent) (locs.Parent cs) = from_parent parent (locs.Parent cs) (codes ".." ∷ cs)
chain _ child = canon child

-- ---- the two tests on a child

-- whether a location is a URL
abbrev pub is_remote : Loc → Bool
is_remote (locs.Http u) = true
is_remote (locs.Https u) = true
is_remote _ = false

-- what is found on the machine that resolves
abbrev pub is_private : Loc → Bool
is_private (locs.Abs cs) = true
is_private (locs.Home cs) = true
is_private (locs.Env x) = true
is_private _ = false

-- whether an import asks for its location only
abbrev pub is_location : Mode → Bool
is_location mode.Location = true
is_location _ = false

-- A text from the web may not look at what is private, but may tell its location ("referential sanity").
abbrev pub sane : Option Loc → Loc → Mode → Bool
sane None child m = true
sane (Some parent) child m = not (is_remote parent && not (is_location m) && is_private child)

-- the scheme and the host of a URL
abbrev pub origin : Loc → Option (List ℕ)
origin (locs.Http u) = Some (codes "http://" ++ u.host)
origin (locs.Https u) = Some (codes "https://" ++ u.host)
origin _ = None

-- the allowed origin names this one, or all
abbrev pub allows : Option (List ℕ) → List ℕ → Bool
allows None o = false
allows (Some a) o = bytes_eq a (codes "*") || bytes_eq a o

-- whether two origins are the same or the first is allowed; true where there is no such pair
abbrev pub cors_between : Option (List ℕ) → Option (List ℕ) → Option (List ℕ) → Bool
cors_between (Some p) (Some c) allow = bytes_eq p c || allows allow p
cors_between _ _ allow = true

-- A child that was fetched from another origin than its parent's allows the parent's ("CORS").
abbrev pub cors : Option Loc → Loc → Option (List ℕ) → Bool
cors None child allow = true
cors (Some parent) child allow = cors_between (origin parent) (origin child) allow

-- ---- the text of a location

-- `dhall.abnf`, "path-character"
abbrev pub is_path_character : ℕ → Bool
is_path_character c =
    c == 0x21 || is_in_range 0x24 0x27 c || is_in_range 0x2A 0x2B c || is_in_range 0x2D 0x2E c || is_in_range 0x30 0x3B c
    || c == 0x3D || is_in_range 0x40 0x5A c || is_in_range 0x5E 0x7A c || c == 0x7C || c == 0x7E

-- a text between double quotes
abbrev pub quoted : List ℕ → List ℕ
quoted t = 34 ∷ t ++ 34 ∷ []

-- a component of a local path, between double quotes where it needs them
abbrev pub local_component : List ℕ → List ℕ
local_component c = if has_some c && list_all is_path_character c then c else quoted c

-- each component after a `/`
abbrev pub slashed : Comps → List ℕ
slashed cs = flat_map (λ c. 47 ∷ c) cs

-- the text of a local path: each component after a `/`
abbrev pub local_text : Comps → List ℕ
local_text cs = slashed (map local_component cs)

-- a query after its `?`, or nothing
abbrev pub query_text : Option (List ℕ) → List ℕ
query_text None = []
query_text (Some q) = 63 ∷ q

-- the text of a URL behind its scheme
abbrev pub url_text : Url → List ℕ
url_text u = u.host ++ slashed u.comps ++ query_text u.query

-- `dhall.abnf`, "bash-environment-variable"
abbrev pub is_plain_variable : List ℕ → Bool
is_plain_variable [] = false
is_plain_variable (c ∷ cs) = not (is_ascii_digit c) && list_all (λ d. is_ascii_alphanumeric d || d == 95) (c ∷ cs)

-- the text of a location, as an import would be written
abbrev pub loc_text : Loc → List ℕ
loc_text (locs.Abs cs) = local_text cs
loc_text (locs.Here cs) = codes "." ++ local_text cs
loc_text (locs.Parent cs) = codes ".." ++ local_text cs
loc_text (locs.Home cs) = codes "~" ++ local_text cs
loc_text (locs.Http u) = codes "http://" ++ url_text u
loc_text (locs.Https u) = codes "https://" ++ url_text u
loc_text (locs.Env x) = codes "env:" ++ (if is_plain_variable x then x else quoted x)
loc_text locs.Missing = codes "missing"
