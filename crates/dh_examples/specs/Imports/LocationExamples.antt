-- Worked examples of locations.
use Rattle.std.specs.Prelude.{◌≡◌, ℕ, true, false, List, [], ◌∷◌, map, Some, None, codes, refl}
use Rattle.dh_syntax.specs.declared.locations.Loc.TheVariants as locs
use Rattle.dh_syntax.specs.declared.locations.Mode.TheVariants as mode
use Rattle.dh_syntax.specs.declared.locations.Url.{Url}
use Rattle.dh_syntax.specs.Imports.Locations.{Comps, folder, file, canon, chain, sane, cors, loc_text, url_component}

-- the component `a`
abbrev a_ : List ℕ
a_ = codes "a"

-- the component `b`
abbrev b_ : List ℕ
b_ = codes "b"

-- the component `c`
abbrev c_ : List ℕ
c_ = codes "c"

-- the component `.`
abbrev dot : List ℕ
dot = codes "."

-- the component `..`
abbrev up : List ℕ
up = codes ".."

-- `https://h/` and this path
abbrev url : Comps → Url
url cs = record { host = codes "h"; comps = cs; query = None }

-- `https://h/` and this path, `?q`
abbrev asking : Comps → Url
asking cs = record { host = codes "h"; comps = cs; query = Some (codes "q") }

-- ---- the folder and the file

folder_of_file : folder (a_ ∷ []) ≡ []
folder_of_file = refl

folder_of_path : folder (a_ ∷ b_ ∷ c_ ∷ []) ≡ a_ ∷ b_ ∷ []
folder_of_path = refl

file_of_path : file (a_ ∷ b_ ∷ c_ ∷ []) ≡ c_ ∷ []
file_of_path = refl

-- ---- canonical locations

-- `/a/./b` is `/a/b`
drops_dot : canon (locs.Abs (a_ ∷ dot ∷ b_ ∷ [])) ≡ locs.Abs (a_ ∷ b_ ∷ [])
drops_dot = refl

-- `/a/../b` is `/b`
drops_name : canon (locs.Abs (a_ ∷ up ∷ b_ ∷ [])) ≡ locs.Abs (b_ ∷ [])
drops_name = refl

-- `/a/b/../../c` is `/c`
drops_names : canon (locs.Abs (a_ ∷ b_ ∷ up ∷ up ∷ c_ ∷ [])) ≡ locs.Abs (c_ ∷ [])
drops_names = refl

-- `/a/./../b` is `/b`
drops_around_dot : canon (locs.Abs (a_ ∷ dot ∷ up ∷ b_ ∷ [])) ≡ locs.Abs (b_ ∷ [])
drops_around_dot = refl

-- `/../a` stays
stays_at_root : canon (locs.Abs (up ∷ a_ ∷ [])) ≡ locs.Abs (up ∷ a_ ∷ [])
stays_at_root = refl

-- `/a/../../b` is `/../b`
goes_above_root : canon (locs.Abs (a_ ∷ up ∷ up ∷ b_ ∷ [])) ≡ locs.Abs (up ∷ b_ ∷ [])
goes_above_root = refl

-- `~/../a` stays
stays_at_home : canon (locs.Home (up ∷ a_ ∷ [])) ≡ locs.Home (up ∷ a_ ∷ [])
stays_at_home = refl

-- the files `.` and `..` stay
stays_as_file : canon (locs.Abs (a_ ∷ up ∷ [])) ≡ locs.Abs (a_ ∷ up ∷ [])
stays_as_file = refl

stays_as_dot_file : canon (locs.Home (a_ ∷ dot ∷ [])) ≡ locs.Home (a_ ∷ dot ∷ [])
stays_as_dot_file = refl

-- `./../a` is `../a`
becomes_parent : canon (locs.Here (up ∷ a_ ∷ [])) ≡ locs.Parent (a_ ∷ [])
becomes_parent = refl

-- `./a/../../../b` is `../../b`
becomes_grandparent : canon (locs.Here (a_ ∷ up ∷ up ∷ up ∷ b_ ∷ [])) ≡ locs.Parent (up ∷ b_ ∷ [])
becomes_grandparent = refl

-- `./..` stays: `..` is its file
stays_here : canon (locs.Here (up ∷ [])) ≡ locs.Here (up ∷ [])
stays_here = refl

-- `../a/../b` is `../b`
stays_in_parent : canon (locs.Parent (a_ ∷ up ∷ b_ ∷ [])) ≡ locs.Parent (b_ ∷ [])
stays_in_parent = refl

-- `../../a` stays
stays_in_grandparent : canon (locs.Parent (up ∷ a_ ∷ [])) ≡ locs.Parent (up ∷ a_ ∷ [])
stays_in_grandparent = refl

-- `http://h/a/../b?q` is `http://h/b?q`
keeps_query : canon (locs.Http (asking (a_ ∷ up ∷ b_ ∷ []))) ≡ locs.Http (asking (b_ ∷ []))
keeps_query = refl

variable_stays : canon (locs.Env a_) ≡ locs.Env a_
variable_stays = refl

missing_stays : canon locs.Missing ≡ locs.Missing
missing_stays = refl

-- ---- chaining

-- `./../a` in the input is `../a`
in_input : chain None (locs.Here (up ∷ a_ ∷ [])) ≡ locs.Parent (a_ ∷ [])
in_input = refl

-- `./a` in an environment variable
in_variable : chain (Some (locs.Env b_)) (locs.Here (a_ ∷ [])) ≡ locs.Here (a_ ∷ [])
in_variable = refl

-- `./a/../b` in an environment variable is `./b`, and `../a` stays
path_in_variable : chain (Some (locs.Env b_)) (locs.Here (a_ ∷ up ∷ b_ ∷ [])) ≡ locs.Here (b_ ∷ [])
path_in_variable = refl

parent_in_variable : chain (Some (locs.Env b_)) (locs.Parent (a_ ∷ [])) ≡ locs.Parent (a_ ∷ [])
parent_in_variable = refl

-- `./a/../b` in `missing`
path_in_missing : chain (Some locs.Missing) (locs.Here (a_ ∷ up ∷ b_ ∷ [])) ≡ locs.Here (b_ ∷ [])
path_in_missing = refl

parent_in_missing : chain (Some locs.Missing) (locs.Parent (a_ ∷ [])) ≡ locs.Parent (a_ ∷ [])
parent_in_missing = refl

-- `./c` in `./a/b` is `./a/c`
here_in_here : chain (Some (locs.Here (a_ ∷ b_ ∷ []))) (locs.Here (c_ ∷ [])) ≡ locs.Here (a_ ∷ c_ ∷ [])
here_in_here = refl

-- `../r` in `./p/q` is `./r`
parent_in_here : chain (Some (locs.Here (codes "p" ∷ codes "q" ∷ []))) (locs.Parent (codes "r" ∷ [])) ≡ locs.Here (codes "r" ∷ [])
parent_in_here = refl

-- `../r` in `./q` is `../r`
parent_in_top : chain (Some (locs.Here (codes "q" ∷ []))) (locs.Parent (codes "r" ∷ [])) ≡ locs.Parent (codes "r" ∷ [])
parent_in_top = refl

-- `./c` in `../a/b` is `../a/c`
here_in_parent : chain (Some (locs.Parent (a_ ∷ b_ ∷ []))) (locs.Here (c_ ∷ [])) ≡ locs.Parent (a_ ∷ c_ ∷ [])
here_in_parent = refl

-- `../c` in `../a` is `../../c`
parent_in_parent : chain (Some (locs.Parent (a_ ∷ []))) (locs.Parent (c_ ∷ [])) ≡ locs.Parent (up ∷ c_ ∷ [])
parent_in_parent = refl

-- `../c` in `/a/b` is `/c`
parent_in_absolute : chain (Some (locs.Abs (a_ ∷ b_ ∷ []))) (locs.Parent (c_ ∷ [])) ≡ locs.Abs (c_ ∷ [])
parent_in_absolute = refl

-- `../c` in `/b` is `/../c`
above_absolute : chain (Some (locs.Abs (b_ ∷ []))) (locs.Parent (c_ ∷ [])) ≡ locs.Abs (up ∷ c_ ∷ [])
above_absolute = refl

-- `./c` in `~/a/b` is `~/a/c`
here_in_home : chain (Some (locs.Home (a_ ∷ b_ ∷ []))) (locs.Here (c_ ∷ [])) ≡ locs.Home (a_ ∷ c_ ∷ [])
here_in_home = refl

-- `./"x y"` in `http://h/d/a` is `http://h/d/x%20y`
here_in_url : chain (Some (locs.Http (url (codes "d" ∷ a_ ∷ [])))) (locs.Here (codes "x y" ∷ [])) ≡ locs.Http (url (codes "d" ∷ codes "x%20y" ∷ []))
here_in_url = refl

-- the parent's components and a child that stands for itself are not escaped
escapes_child_only : chain (Some (locs.Https (url (codes "d%2f" ∷ a_ ∷ [])))) (locs.Here (codes "%2f" ∷ [])) ≡ locs.Https (url (codes "d%2f" ∷ codes "%252f" ∷ []))
escapes_child_only = refl

url_stands_for_itself : chain (Some (locs.Http (url (a_ ∷ [])))) (locs.Https (asking (codes "%2f" ∷ []))) ≡ locs.Https (asking (codes "%2f" ∷ []))
url_stands_for_itself = refl

-- `../c` in `http://h/a?q` is `http://h/../c`
parent_in_url : chain (Some (locs.Http (asking (a_ ∷ [])))) (locs.Parent (c_ ∷ [])) ≡ locs.Http (url (up ∷ c_ ∷ []))
parent_in_url = refl

absolute_in_here : chain (Some (locs.Here (a_ ∷ b_ ∷ []))) (locs.Abs (c_ ∷ dot ∷ b_ ∷ [])) ≡ locs.Abs (c_ ∷ b_ ∷ [])
absolute_in_here = refl

home_in_here : chain (Some (locs.Here (a_ ∷ b_ ∷ []))) (locs.Home (c_ ∷ [])) ≡ locs.Home (c_ ∷ [])
home_in_here = refl

variable_in_here : chain (Some (locs.Here (a_ ∷ b_ ∷ []))) (locs.Env c_) ≡ locs.Env c_
variable_in_here = refl

missing_in_here : chain (Some (locs.Here (a_ ∷ b_ ∷ []))) locs.Missing ≡ locs.Missing
missing_in_here = refl

-- ---- escaping

keeps_letters : url_component (codes "azAZ09") ≡ codes "azAZ09"
keeps_letters = refl

keeps_marks : url_component (codes "-._~!$&'*+;=:@") ≡ codes "-._~!$&'*+;=:@"
keeps_marks = refl

escapes_others : url_component (codes "%/,?#[<\\ ") ≡ codes "%25%2F%2C%3F%23%5B%3C%5C%20"
escapes_others = refl

escapes_in_upper_case : url_component (codes "|") ≡ codes "%7C"
escapes_in_upper_case = refl

-- ---- sanity

-- `env:X` in `http://h/a`
variable_in_web : sane (Some (locs.Http (url (a_ ∷ [])))) (locs.Env (codes "X")) mode.Code ≡ false
variable_in_web = refl

absolute_in_web : sane (Some (locs.Https (url (a_ ∷ [])))) (locs.Abs (b_ ∷ [])) mode.Text ≡ false
absolute_in_web = refl

home_in_web : sane (Some (locs.Http (url (a_ ∷ [])))) (locs.Home (b_ ∷ [])) mode.Code ≡ false
home_in_web = refl

-- `env:X as Location` in `http://h/a`
location_in_web : sane (Some (locs.Http (url (a_ ∷ [])))) (locs.Env (codes "X")) mode.Location ≡ true
location_in_web = refl

web_in_web : sane (Some (locs.Https (url (a_ ∷ [])))) (locs.Http (url (b_ ∷ []))) mode.Code ≡ true
web_in_web = refl

path_in_web : sane (Some (locs.Http (url (a_ ∷ [])))) (locs.Here (b_ ∷ [])) mode.Code ≡ true
path_in_web = refl

missing_in_web : sane (Some (locs.Http (url (a_ ∷ [])))) locs.Missing mode.Code ≡ true
missing_in_web = refl

variable_in_file : sane (Some (locs.Here (a_ ∷ []))) (locs.Env (codes "X")) mode.Code ≡ true
variable_in_file = refl

variable_in_input : sane None (locs.Env (codes "X")) mode.Code ≡ true
variable_in_input = refl

-- ---- cross-origin imports

-- the address of `b` at the host `k`
abbrev at_k : Url
at_k = record { host = codes "k"; comps = b_ ∷ []; query = None }

-- `http://k/b` in `http://h/d/a`
other_host : cors (Some (locs.Http (url (codes "d" ∷ a_ ∷ [])))) (locs.Http at_k) None ≡ false
other_host = refl

allowed_host : cors (Some (locs.Http (url (codes "d" ∷ a_ ∷ [])))) (locs.Http at_k) (Some (codes "http://h")) ≡ true
allowed_host = refl

all_allowed : cors (Some (locs.Http (url (a_ ∷ [])))) (locs.Http at_k) (Some (codes "*")) ≡ true
all_allowed = refl

other_allowed : cors (Some (locs.Http (url (a_ ∷ [])))) (locs.Http at_k) (Some (codes "http://k")) ≡ false
other_allowed = refl

other_scheme : cors (Some (locs.Http (url (a_ ∷ [])))) (locs.Https (url (b_ ∷ []))) None ≡ false
other_scheme = refl

allowed_by_other_scheme : cors (Some (locs.Https (url (a_ ∷ [])))) (locs.Https at_k) (Some (codes "http://h")) ≡ false
allowed_by_other_scheme = refl

same_origin : cors (Some (locs.Http (url (a_ ∷ [])))) (locs.Http (asking (b_ ∷ []))) None ≡ true
same_origin = refl

from_file : cors (Some (locs.Here (a_ ∷ []))) (locs.Http at_k) None ≡ true
from_file = refl

from_input : cors None (locs.Http at_k) None ≡ true
from_input = refl

to_variable : cors (Some (locs.Http (url (a_ ∷ [])))) (locs.Env b_) None ≡ true
to_variable = refl

-- ---- the text of a location

text_of_absolute : loc_text (locs.Abs (a_ ∷ b_ ∷ [])) ≡ codes "/a/b"
text_of_absolute = refl

text_of_here : loc_text (locs.Here (a_ ∷ b_ ∷ [])) ≡ codes "./a/b"
text_of_here = refl

text_of_parent : loc_text (locs.Parent (a_ ∷ [])) ≡ codes "../a"
text_of_parent = refl

text_of_home : loc_text (locs.Home (codes ".x" ∷ a_ ∷ [])) ≡ codes "~/.x/a"
text_of_home = refl

text_of_url : loc_text (locs.Https (record { host = codes "a.b"; comps = c_ ∷ []; query = None })) ≡ codes "https://a.b/c"
text_of_url = refl

text_of_query : loc_text (locs.Http (asking (a_ ∷ b_ ∷ []))) ≡ codes "http://h/a/b?q"
text_of_query = refl

text_of_host : loc_text (locs.Http (url ([] ∷ []))) ≡ codes "http://h/"
text_of_host = refl

text_of_variable : loc_text (locs.Env (codes "_x1")) ≡ codes "env:_x1"
text_of_variable = refl

quoted_variable : loc_text (locs.Env (codes "1 x")) ≡ codes "env:\"1 x\""
quoted_variable = refl

quoted_digit : loc_text (locs.Env (codes "1x")) ≡ codes "env:\"1x\""
quoted_digit = refl

text_of_missing : loc_text locs.Missing ≡ codes "missing"
text_of_missing = refl

path_characters : loc_text (locs.Here (codes "!$%&'*+-.09:;=@AZ^_`az|~" ∷ [])) ≡ codes "./!$%&'*+-.09:;=@AZ^_`az|~"
path_characters = refl

quoted_component : loc_text (locs.Here (codes "x y" ∷ a_ ∷ [])) ≡ codes "./\"x y\"/a"
quoted_component = refl

quoted_marks : loc_text (locs.Here (codes "a,b" ∷ codes "#" ∷ codes "(" ∷ codes "{" ∷ codes "\\" ∷ [])) ≡ codes "./\"a,b\"/\"#\"/\"(\"/\"{\"/\"\\\""
quoted_marks = refl

-- each beside a character of paths
marks_that_are_quoted :
    map (λ c. loc_text (locs.Abs (codes c ∷ []))) (" " ∷ "#" ∷ "(" ∷ ")" ∷ "," ∷ "<" ∷ ">" ∷ "?" ∷ "[" ∷ "\\" ∷ "]" ∷ "{" ∷ "}" ∷ [])
    ≡ map codes ("/\" \"" ∷ "/\"#\"" ∷ "/\"(\"" ∷ "/\")\"" ∷ "/\",\"" ∷ "/\"<\"" ∷ "/\">\"" ∷ "/\"?\"" ∷ "/\"[\"" ∷ "/\"\\\"" ∷ "/\"]\"" ∷ "/\"{\"" ∷ "/\"}\"" ∷ [])
marks_that_are_quoted = refl

-- a component of no characters is quoted too
quoted_nothing : loc_text (locs.Here ([] ∷ [])) ≡ codes "./\"\""
quoted_nothing = refl
