-- The classes of bytes and characters of the lexical grammar (`dhall.abnf`), but for those that `Locations` has. A byte
-- past ASCII is in none of them.
use Rattle.std.specs.Prelude.{ℕ, zero, suc, ◌+◌, ◌-◌, ◌*◌, ◌%◌, Bool, ◌&&◌, ◌||◌, not, List, [], ◌∷◌, nat_eq, nat_lt, nat_le, ◌==◌, if◌then◌else◌, slice_index, codes}
use Rattle.std.specs.Char.{is_ascii_alphabetic, is_ascii_alphanumeric}
use Rattle.std.specs.Int.{is_in_range}
use Rattle.std.specs.List.{starts_with}
use Rattle.std.specs.Str.{byte, continuation_len, lead_bits}
use Prim.Native.String.{String}
use Rattle.dh_syntax.specs.Imports.Locations.{is_kept_in_url}

-- the first byte, 0 where there is none
abbrev pub first : List ℕ → ℕ
first bs = slice_index bs 0

-- whether the bytes begin with this ASCII text
abbrev pub begins : String → List ℕ → Bool
begins text bs = starts_with nat_eq bs (codes text)

-- a sign of an integer
abbrev pub is_sign : ℕ → Bool
is_sign b = b == byte "+" || b == byte "-"

-- BIT
abbrev pub is_bit : ℕ → Bool
is_bit b = b == byte "0" || b == byte "1"

-- simple-label-first-char
abbrev pub is_name_start : ℕ → Bool
is_name_start b = is_ascii_alphabetic b || b == byte "_"

-- simple-label-next-char
abbrev pub is_name_byte : ℕ → Bool
is_name_byte b = is_ascii_alphanumeric b || b == byte "-" || b == byte "/" || b == byte "_"

-- printable ASCII
abbrev pub is_printable : ℕ → Bool
is_printable b = is_in_range 0x20 0x7E b

-- quoted-label-char
abbrev pub is_quoted_label_byte : ℕ → Bool
is_quoted_label_byte b = is_printable b && not (b == byte "`")

-- quoted-path-character, in ASCII
abbrev pub is_quoted_path_byte : ℕ → Bool
is_quoted_path_byte b = is_printable b && not (b == byte "\"") && not (b == byte "/")

-- a byte of a domainlabel
abbrev pub is_host_byte : ℕ → Bool
is_host_byte b = is_ascii_alphanumeric b || b == byte "-"

-- pchar, but for pct-encoded
abbrev pub is_segment_byte : ℕ → Bool
is_segment_byte b = is_kept_in_url b

-- a byte of query, but for pct-encoded
abbrev pub is_query_byte : ℕ → Bool
is_query_byte b = is_segment_byte b || b == byte "/" || b == byte "?"

-- the first byte of bash-environment-variable
abbrev pub is_environment_start : ℕ → Bool
is_environment_start b = is_ascii_alphabetic b || b == byte "_"

-- a later byte of bash-environment-variable
abbrev pub is_environment_byte : ℕ → Bool
is_environment_byte b = is_ascii_alphanumeric b || b == byte "_"

-- posix-environment-variable-character, but for the escapes
abbrev pub is_quoted_environment_byte : ℕ → Bool
is_quoted_environment_byte b = is_printable b && not (b == byte "\"") && not (b == byte "\\") && not (b == byte "=")

-- a control character below the space
abbrev pub is_control : ℕ → Bool
is_control b = nat_lt b 0x20

-- the control characters that the grammar takes
abbrev pub tab : ℕ
tab = 0x09

-- the byte of a line feed
abbrev pub line_feed : ℕ
line_feed = 0x0A

-- the byte of a carriage return
abbrev pub carriage_return : ℕ
carriage_return = 0x0D

-- how many bytes the end-of-line at the front takes, 0 where there is none
abbrev pub line_end_len : List ℕ → ℕ
line_end_len [] = 0
line_end_len (b ∷ bs) = if b == line_feed then 1 else if b == carriage_return && first bs == line_feed then 2 else 0

-- the character whose bytes so far have the value c, where so many more follow (UTF-8, RFC 3629 §3)
abbrev pub code_after : ℕ → ℕ → List ℕ → ℕ
code_after zero c bs = c
code_after (suc n) c [] = c
code_after (suc n) c (b ∷ bs) = code_after n (c * 64 + (b - 128)) bs

-- the character at the front, 0 where there is none
abbrev pub code_at : List ℕ → ℕ
code_at [] = 0
code_at (b ∷ bs) = code_after (continuation_len b) (lead_bits b) bs

-- how many bytes the character at the front takes
abbrev pub char_len : List ℕ → ℕ
char_len bs = suc (continuation_len (first bs))

-- a Unicode scalar value
abbrev pub is_scalar : ℕ → Bool
is_scalar c = nat_lt c 0xD800 || is_in_range 0xE000 0x10_FFFF c

-- a code point whose last four hexadecimal digits are FFFE or FFFF, which valid-non-ascii leaves out
abbrev pub is_noncharacter : ℕ → Bool
is_noncharacter c = nat_le 0xFFFE (c % 0x1_0000)
