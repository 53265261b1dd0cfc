-- The parts of CBOR that the binary form is made of (RFC 7049 §2.1), each in its shortest form.
use Rattle.std.specs.Prelude.{ℕ, ◌+◌, ◌*◌, ◌^◌, ◌==◌, nat_lt, if◌then◌else◌, Bool, true, false, List, [], ◌∷◌, ◌++◌, length}
use Rattle.std.specs.Int.{w16, w32, w64, w128, to_be_bytes}
use Rattle.std.specs.List.{concat}

-- a head: the major type in the three high bits, and the number in the five low ones or in the bytes after them
abbrev pub head : ℕ → ℕ → List ℕ
head major n =
    if nat_lt n 24 then (32 * major + n) ∷ []
    else (if nat_lt n (2 ^ 8) then (32 * major + 24) ∷ n ∷ []
    else (if nat_lt n (2 ^ 16) then (32 * major + 25) ∷ to_be_bytes w16 n
    else (if nat_lt n (2 ^ 32) then (32 * major + 26) ∷ to_be_bytes w32 n
    else (32 * major + 27) ∷ to_be_bytes w64 n)))

-- a string of bytes
abbrev pub bytes : List ℕ → List ℕ
bytes bs = head 2 (length bs) ++ bs

-- a string of text
abbrev pub text : List ℕ → List ℕ
text bs = head 3 (length bs) ++ bs

-- an array of these items
abbrev pub array : List (List ℕ) → List ℕ
array items = head 4 (length items) ++ concat items

-- a map of so many pairs, whose keys and values stand one after another
abbrev pub map_of : ℕ → List ℕ → List ℕ
map_of n pairs = head 5 n ++ pairs

-- the null of CBOR
abbrev pub null : List ℕ
null = 246 ∷ []

-- false and true in CBOR
abbrev pub truth : Bool → List ℕ
truth false = 244 ∷ []
truth true = 245 ∷ []

-- the bytes without the zeros at their front
abbrev pub without_zeros : List ℕ → List ℕ
without_zeros [] = []
without_zeros (b ∷ bs) = if b == 0 then without_zeros bs else b ∷ bs

-- the fewest bytes that say a number below 2^128, the high ones first
abbrev pub fewest_bytes : ℕ → List ℕ
fewest_bytes n = without_zeros (to_be_bytes w128 n)

-- a natural number, by tag 2 where it has more than 64 bits (RFC 7049 §2.4.2)
abbrev pub natural : ℕ → List ℕ
natural n = if nat_lt n (2 ^ 64) then head 0 n else 194 ∷ bytes (fewest_bytes n)

-- the number -1 - n, by tag 3 where n has more than 64 bits
abbrev pub below_zero : ℕ → List ℕ
below_zero n = if nat_lt n (2 ^ 64) then head 1 n else 195 ∷ bytes (fewest_bytes n)
