-- Texts as they are written: the escapes of "double-quote-escaped" in `dhall.abnf`, the indentation of a multi-line text
-- (the standard's "Multi-line literals"), and the one spelling that is printed.
use Rattle.std.specs.Prelude.{ℕ, ◌+◌, ◌/◌, ◌%◌, true, not, ◌&&◌, ◌||◌, nat_eq, nat_lt, ◌==◌, if◌then◌else◌, List, [], ◌∷◌, ◌++◌, map, length, take, drop, slice_index, take_while, Result, Ok, Err, encode_utf8}
use Rattle.std.specs.Char.{is_ascii_hexdigit}
use Rattle.std.specs.Fmt.{digit_glyph}
use Rattle.std.specs.List.{prefix_len, common_prefix_len, slice_split, join_with_byte, list_all}
use Rattle.std.specs.Str.{byte}
use Rattle.std.specs.Str.Parse.{digits_value}
use Rattle.dh_syntax.specs.Text.Characters.{first, tab, line_feed, is_control, is_scalar, is_noncharacter}
use Rattle.dh_syntax.specs.Text.Stretches.{Character, Reads, Faults, Stretch, UpTo, FaultAt, stretch, itself}

-- an escape of so many bytes that names a character by its number
abbrev pub numbered : ℕ → ℕ → Character
numbered c n = if is_scalar c && not (is_noncharacter c) then Reads (encode_utf8 c) n else Faults

-- unicode-escape, after `\u`: four hexadecimal digits, or one or more between braces
abbrev pub unicode_escape : List ℕ → Character
unicode_escape bs =
    let digits = take 4 bs in
    let count = prefix_len is_ascii_hexdigit (drop 1 bs) in
    if first bs == byte "{" && nat_lt 0 count && slice_index bs (1 + count) == byte "}" then numbered (digits_value 16 (take count (drop 1 bs))) (4 + count)
    else if length digits == 4 && list_all is_ascii_hexdigit digits then numbered (digits_value 16 digits) 6
    else Faults

-- double-quote-escaped, after its backslash
abbrev pub escaped : List ℕ → Character
escaped bs =
    let c = first bs in
    if c == byte "\"" || c == byte "$" || c == byte "\\" || c == byte "/" then Reads (c ∷ []) 2
    else if c == byte "b" then Reads (0x08 ∷ []) 2
    else if c == byte "f" then Reads (0x0C ∷ []) 2
    else if c == byte "n" then Reads (0x0A ∷ []) 2
    else if c == byte "r" then Reads (0x0D ∷ []) 2
    else if c == byte "t" then Reads (0x09 ∷ []) 2
    else if c == byte "u" then unicode_escape (drop 1 bs)
    else Faults

-- a character, or an escape where a backslash stands
abbrev pub escape_or_character : List ℕ → Character
escape_or_character bs = if first bs == byte "\\" then escaped (drop 1 bs) else itself bs

-- what a whole stretch stands for, or the place of its fault
abbrev pub text_of : Stretch → Result (List ℕ) ℕ
text_of (UpTo text n) = Ok text
text_of (FaultAt n) = Err n

-- the text that stands between double quotes, with its escapes read, or the place of the first backslash that begins no
-- escape
abbrev pub unescape : List ℕ → Result (List ℕ) ℕ
unescape bs = text_of (stretch escape_or_character 0 bs)

-- the lines of a piece of a multi-line text: the stretches between line feeds
abbrev pub lines_of : List ℕ → List (List ℕ)
lines_of piece = slice_split (λ b. b == line_feed) piece

-- the lines that count for the indentation, where the last one ends at an interpolation or at the closing quotes: that
-- one, and the others that are not of length zero
abbrev pub counted : List (List ℕ) → List (List ℕ)
counted [] = []
counted (l ∷ []) = l ∷ []
counted ([] ∷ m ∷ ls) = counted (m ∷ ls)
counted ((b ∷ bs) ∷ m ∷ ls) = (b ∷ bs) ∷ counted (m ∷ ls)

-- the lines that count and begin in a piece that stands after an interpolation, and in any number of them
abbrev pub counted_later : List (List ℕ) → List (List ℕ)
counted_later [] = []
counted_later (p ∷ ps) = counted (drop 1 (lines_of p)) ++ counted_later ps

-- the lines of a text that count, each up to the first interpolation in it
abbrev pub counted_lines : List (List ℕ) → List (List ℕ)
counted_lines [] = []
counted_lines (p ∷ ps) = counted (lines_of p) ++ counted_later ps

-- the spaces and tabs at the start of a line
abbrev pub indentation : List ℕ → List ℕ
indentation line = take_while (λ b. b == byte " " || b == tab) line

-- the longest common prefix of several texts
abbrev pub common : List (List ℕ) → List ℕ
common [] = []
common (x ∷ []) = x
common (x ∷ y ∷ xs) = take (common_prefix_len nat_eq x (common (y ∷ xs))) x

-- how many bytes all lines of the text are indented by
abbrev pub indented_by : List (List ℕ) → ℕ
indented_by pieces = length (common (map indentation (counted_lines pieces)))

-- lines without so many of their first bytes
abbrev pub cut : ℕ → List (List ℕ) → List (List ℕ)
cut n lines = map (drop n) lines

-- the same, but for the first line, which begins before the piece
abbrev pub cut_later : ℕ → List (List ℕ) → List (List ℕ)
cut_later n [] = []
cut_later n (l ∷ ls) = l ∷ cut n ls

-- the pieces of a text whose lines have so many bytes removed at their start
abbrev pub cut_pieces : ℕ → List (List ℕ) → List (List ℕ)
cut_pieces n [] = []
cut_pieces n (p ∷ ps) = join_with_byte line_feed (cut n (lines_of p)) ∷ map (λ q. join_with_byte line_feed (cut_later n (lines_of q))) ps

-- the pieces between the interpolations of a multi-line text, without the indentation that all of its lines share
abbrev pub unindent : List (List ℕ) → List (List ℕ)
unindent pieces = cut_pieces (indented_by pieces) pieces

-- a digit of `\u00XX`, in upper case
abbrev pub hex_digit : ℕ → ℕ
hex_digit d = digit_glyph true d

-- a byte of a text as it is printed between double quotes
abbrev pub escape_byte : ℕ → List ℕ
escape_byte b =
    if b == byte "\"" || b == byte "\\" || b == byte "$" then byte "\\" ∷ b ∷ []
    else if b == 0x08 then byte "\\" ∷ byte "b" ∷ []
    else if b == 0x0C then byte "\\" ∷ byte "f" ∷ []
    else if b == 0x0A then byte "\\" ∷ byte "n" ∷ []
    else if b == 0x0D then byte "\\" ∷ byte "r" ∷ []
    else if b == 0x09 then byte "\\" ∷ byte "t" ∷ []
    else if is_control b then byte "\\" ∷ byte "u" ∷ byte "0" ∷ byte "0" ∷ hex_digit (b / 16) ∷ hex_digit (b % 16) ∷ []
    else b ∷ []

-- a text as it is printed between double quotes
abbrev pub escape : List ℕ → List ℕ
escape [] = []
escape (b ∷ bs) = escape_byte b ++ escape bs
