-- The fields of a head by their names (RFC 9110, section 5), and what they say of the body (RFC 9112, section 6.3).
use Rattle.std.specs.Prelude.{ℕ, ◌&&◌, Bool, if◌then◌else◌, List, [], ◌∷◌, length, nat_lt, nat_le, Option, Some, None, codes}
use Rattle.std.specs.Char.{is_ascii_digit}
use Rattle.std.specs.List.{list_all}
use Rattle.std.specs.Str.{str_eq_ignore_ascii_case}
use Rattle.std.specs.Str.Parse.{digits_value}
use Rattle.dh_http.specs.declared.framings.Framing.{Framing}
use Rattle.dh_http.specs.declared.framings.Framing.TheVariants.{ToEnd, Stated, Chunked, Unclear}

-- a name, and the value without the white space around it
abbrev pub Named : Type 0
Named = List ℕ × List ℕ

-- the values of the fields of this name, in any case
abbrev pub values : List ℕ → List Named → List (List ℕ)
values name [] = []
values name (f ∷ fs) = if str_eq_ignore_ascii_case f.0 name then f.1 ∷ values name fs else values name fs

-- the one coding that is read (RFC 9112, section 7.1), in any case
abbrev pub is_chunked : List ℕ → Bool
is_chunked value = str_eq_ignore_ascii_case value (codes "chunked")

-- Digits (RFC 9110, section 8.6). That there are no more than 18 is a limit of this project, so that the number has room.
abbrev pub is_length : List ℕ → Bool
is_length value = nat_lt 0 (length value) && nat_le (length value) 18 && list_all is_ascii_digit value

-- how a body stands in the stream, by the values of `Transfer-Encoding` and of `Content-Length`
abbrev pub framed : List (List ℕ) → List (List ℕ) → Framing
framed [] [] = ToEnd
framed (coding ∷ []) [] = if is_chunked coding then Chunked else Unclear
framed [] (size ∷ []) = if is_length size then Stated (digits_value 10 size) else Unclear
framed _ _ = Unclear

-- how a body stands in the stream, by the fields of its head
abbrev pub framing : List Named → Framing
framing fields = framed (values (codes "transfer-encoding") fields) (values (codes "content-length") fields)

-- the value where there is just one
abbrev pub only : List (List ℕ) → Option (List ℕ)
only (value ∷ []) = Some value
only _ = None

-- The origin that may read the body, of which Dhall judges whether a text from another origin may be imported ("CORS"). Where the
-- field is there more than once it is not told, as it is no origin in the CORS check of the Fetch standard.
abbrev pub allowed : List Named → Option (List ℕ)
allowed fields = only (values (codes "access-control-allow-origin") fields)
