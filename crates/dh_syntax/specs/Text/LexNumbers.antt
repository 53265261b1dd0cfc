-- Numbers: "natural-literal" and "integer-literal" of `dhall.abnf`, and the literals that are left out.
use Rattle.std.specs.Prelude.{ℕ, ◌+◌, ℤ, Bool, true, false, ◌&&◌, ◌||◌, List, [], ◌∷◌, Option, Some, None, nat_lt, ◌==◌, if◌then◌else◌, take, drop, slice_index, codes}
use Rattle.std.specs.Char.{is_ascii_digit}
use Rattle.std.specs.Str.{byte}
use Rattle.dh_syntax.specs.declared.tokens.TokenKind.TheVariants as kinds
use Rattle.dh_syntax.specs.Text.Characters.{first, begins, is_bit, is_sign}
use Rattle.dh_syntax.specs.Text.LexForms.{Found, Is, LeftOut, TooWide, Form, form}
use Rattle.dh_syntax.specs.Text.Numerals.{natural_len, integer_len, read_natural, read_integer}

-- what a natural is, by its number where it is not too wide
abbrev pub natural_found : Option ℕ → Found
natural_found None = TooWide
natural_found (Some n) = Is (kinds.Natural n)

-- what an integer is, by its number where it is not too wide
abbrev pub integer_found : Option ℤ → Found
integer_found None = TooWide
integer_found (Some z) = Is (kinds.Integer z)

-- natural-literal
abbrev pub natural : List ℕ → Option Form
natural bs = form (natural_found (read_natural (take (natural_len bs) bs))) (natural_len bs)

-- integer-literal
abbrev pub integer : List ℕ → Option Form
integer bs = form (integer_found (read_integer (take (integer_len bs) bs))) (integer_len bs)

-- `.` and a digit
abbrev pub begins_fraction : List ℕ → Bool
begins_fraction bs = first bs == byte "." && is_ascii_digit (slice_index bs 1)

-- `e` or `E`, possibly a sign, and a digit ("exponent")
abbrev pub begins_exponent : List ℕ → Bool
begins_exponent bs =
    (first bs == byte "e" || first bs == byte "E")
    && (is_ascii_digit (slice_index bs 1) || (is_sign (slice_index bs 1) && is_ascii_digit (slice_index bs 2)))

-- a number of so many bytes that a fraction or an exponent follows
abbrev pub fractional : ℕ → List ℕ → Option Form
fractional n bs =
    if nat_lt 0 n && (begins_fraction (drop n bs) || begins_exponent (drop n bs)) then form LeftOut (2 + n) else None

-- double-literal, by its first bytes
abbrev pub double : List ℕ → Option Form
double bs = fractional (natural_len bs) bs

-- double-literal with its sign
abbrev pub signed_double : List ℕ → Option Form
signed_double bs = fractional (integer_len bs) bs

-- whether the bytes begin with this shape, in which 0 stands for any digit
abbrev pub is_shaped : List ℕ → List ℕ → Bool
is_shaped [] bs = true
is_shaped (c ∷ cs) [] = false
is_shaped (c ∷ cs) (b ∷ bs) = (if c == byte "0" then is_ascii_digit b else b == c) && is_shaped cs bs

-- the front of full-date
abbrev pub date : List ℕ → Option Form
date bs = if is_shaped (codes "0000-00-00") bs then form LeftOut 10 else None

-- the front of partial-time
abbrev pub time : List ℕ → Option Form
time bs = if is_shaped (codes "00:00") bs then form LeftOut 5 else None

-- time-numoffset, by its first bytes
abbrev pub signed_time : List ℕ → Option Form
signed_time bs = if is_sign (first bs) && is_shaped (codes "00:00") (drop 1 bs) then form LeftOut 6 else None

-- `0b` and BIT
abbrev pub binary : List ℕ → Option Form
binary bs = if begins "0b" bs && is_bit (slice_index bs 2) then form LeftOut 3 else None

-- the front of bytes-literal
abbrev pub bytes_literal : List ℕ → Option Form
bytes_literal bs = if begins "0x\"" bs then form LeftOut 3 else None
