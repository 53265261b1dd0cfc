-- Numbers as they are written: "natural-literal" and "integer-literal" of `dhall.abnf`, and the one spelling that is
-- printed.
use Rattle.std.specs.Prelude.{ℕ, suc, ◌+◌, Bool, ◌&&◌, nat_lt, ◌==◌, if◌then◌else◌, List, ◌∷◌, length, drop, slice_index, Option, Some, None, ℤ, pos, negsuc, neg_ℤ, decimal}
use Rattle.std.specs.Char.{is_ascii_digit, is_ascii_hexdigit}
use Rattle.std.specs.List.{prefix_len}
use Rattle.std.specs.Str.{byte}
use Rattle.std.specs.Str.Parse.{digits_value}
use Rattle.dh_syntax.specs.Limits.{natural_fits, integer_fits}
use Rattle.dh_syntax.specs.Text.Characters.{first, begins, is_sign}

-- how many bytes the longest natural at the front takes, 0 where there is none: `0x` and hexadecimal digits, or `0`, or
-- a digit other than 0 and digits
abbrev pub natural_len : List ℕ → ℕ
natural_len bs =
    if begins "0x" bs && is_ascii_hexdigit (slice_index bs 2) then 2 + prefix_len is_ascii_hexdigit (drop 2 bs)
    else if first bs == byte "0" then 1
    else prefix_len is_ascii_digit bs

-- how many bytes the longest integer at the front takes, 0 where there is none: a sign directly before a natural
abbrev pub integer_len : List ℕ → ℕ
integer_len bs = if is_sign (first bs) && nat_lt 0 (natural_len (drop 1 bs)) then suc (natural_len (drop 1 bs)) else 0

-- the whole text is one natural
abbrev pub is_natural : List ℕ → Bool
is_natural bs = nat_lt 0 (length bs) && natural_len bs == length bs

-- the whole text is one integer
abbrev pub is_integer : List ℕ → Bool
is_integer bs = nat_lt 0 (length bs) && integer_len bs == length bs

-- the number that a natural writes, however great
abbrev pub natural_value : List ℕ → ℕ
natural_value bs = if begins "0x" bs then digits_value 16 (drop 2 bs) else digits_value 10 bs

-- the number that an integer writes
abbrev pub integer_value : List ℕ → ℤ
integer_value bs = if first bs == byte "-" then neg_ℤ (pos (natural_value (drop 1 bs))) else pos (natural_value (drop 1 bs))

-- the number that one natural writes, `None` where it is too wide
abbrev pub read_natural : List ℕ → Option ℕ
read_natural bs = if natural_fits (natural_value bs) then Some (natural_value bs) else None

-- the number that one integer writes, `None` where it is too wide
abbrev pub read_integer : List ℕ → Option ℤ
read_integer bs = if integer_fits (integer_value bs) then Some (integer_value bs) else None

-- a natural as it is printed, in decimal
abbrev pub write_natural : ℕ → List ℕ
write_natural n = decimal n

-- an integer as it is printed, in decimal and always with its sign
abbrev pub write_integer : ℤ → List ℕ
write_integer (pos n) = byte "+" ∷ decimal n
write_integer (negsuc n) = byte "-" ∷ decimal (suc n)
