-- Tests of texts, a byte at a time.
use Rattle.std.specs.Prelude.{ℕ, zero, suc, ◌==◌, Bool, true, false, ◌&&◌, ◌||◌, if◌then◌else◌, List, [], ◌∷◌, Option, Some, None}
use Rattle.std.specs.Str.{byte}
use Rattle.dh_syntax.specs.Imports.Locations.{is_kept_in_url}
use Rattle.dh_syntax.specs.Text.Characters.{is_query_byte}
use Rattle.dh_syntax.specs.Expressions.Spellable.{is_encoded, is_host, after_letter, after_hyphen, after_dot}
use Rattle.std.specs.List.{list_all}
use Rattle.std.specs.Char.{is_ascii_digit}
use Rattle.dh_decode.specs.declared.spelling.HostPlace.{HostPlace}
use Rattle.dh_decode.specs.declared.spelling.HostPlace.TheVariants as places

-- whether the rest of a host may stand behind such a byte
abbrev pub host_from : HostPlace → List ℕ → Bool
host_from places.Start bs = is_host bs
host_from places.Letter bs = after_letter bs
host_from places.Hyphen bs = after_hyphen bs
host_from places.Dot bs = after_dot bs
host_from places.Port bs = list_all is_ascii_digit bs

-- whether a host may go on with these bytes, from the place if there is one
abbrev pub host_next : Option HostPlace → List ℕ → Bool
host_next (Some p) bs = host_from p bs
host_next None bs = false

-- the bytes that stand for themselves in the path of a URL, or in its query
abbrev pub url_class : Bool → ℕ → Bool
url_class in_query b = if in_query then is_query_byte b else is_kept_in_url b

-- whether the rest may stand where so many hexadecimal digits must come first
abbrev pub encoded_next : (ℕ → Bool) → Option ℕ → List ℕ → Bool
encoded_next test (Some n) bs = is_encoded test n bs
encoded_next test None bs = false
