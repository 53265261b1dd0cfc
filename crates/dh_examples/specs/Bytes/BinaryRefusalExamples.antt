-- Items that are no expression, row by row, and heads that cannot be read.
use Rattle.std.specs.Prelude.{◌≡◌, ℕ, false, List, [], ◌∷◌, ◌++◌, map, replicate, None, Ok, Err, refl}
use Rattle.std.specs.Char.{encode_utf8}
use Rattle.std.specs.Str.{is_utf8, chars}
use Prim.Native.String.{String}
use Rattle.dh_syntax.specs.Bytes.BinaryHeads.{HeadFault, cut, indefinite, float, foreign_tag, too_wide, octets, characters, simple, head_at}
use Rattle.dh_syntax.specs.Bytes.BinaryItems.{Item, single, tagged}
use Rattle.dh_syntax.specs.Bytes.BinaryRead.{expression}
use Rattle.dh_examples.specs.Bytes.ExampleBytes as item
use Rattle.dh_examples.specs.Bytes.ExampleBytes.{hex, u, minus, b, t, no, array}

AllRefused : List Item → Type 0
unfolding is_utf8 chars encode_utf8
AllRefused is = map (expression false) is ≡ map (λ i. None) is

-- `_`
abbrev e : Item
e = u 0

-- an array that begins with this number
abbrev row : ℕ → List Item → Item
row n is = array (u n ∷ is)

-- ---- rows with too few parts, too many, or others

applications : AllRefused (row 0 [] ∷ row 0 (e ∷ []) ∷ row 0 (no ∷ e ∷ []) ∷ row 0 (e ∷ no ∷ []) ∷ [])
unfolding AllRefused
applications = refl

quantifiers :
    AllRefused (row 1 (e ∷ []) ∷ row 1 (t "_" ∷ e ∷ e ∷ []) ∷ row 1 (t "`" ∷ e ∷ e ∷ []) ∷ row 1 (u 1 ∷ e ∷ e ∷ []) ∷ row 1 (t "x" ∷ e ∷ e ∷ e ∷ []) ∷ row 2 (e ∷ [])
    ∷ row 2 (t "_" ∷ e ∷ e ∷ []) ∷ row 2 (t "x" ∷ no ∷ e ∷ []) ∷ [])
unfolding AllRefused
quantifiers = refl

operators : AllRefused (row 3 (u 4 ∷ e ∷ []) ∷ row 3 (u 4 ∷ e ∷ e ∷ e ∷ []) ∷ row 3 (u 14 ∷ e ∷ e ∷ []) ∷ row 3 (t "x" ∷ e ∷ e ∷ []) ∷ row 3 [] ∷ [])
unfolding AllRefused
operators = refl

lists : AllRefused (row 4 [] ∷ row 4 (no ∷ []) ∷ row 4 (e ∷ e ∷ []) ∷ row 4 (no ∷ e ∷ no ∷ []) ∷ [])
unfolding AllRefused
lists = refl

somes : AllRefused (row 5 (no ∷ []) ∷ row 5 (e ∷ e ∷ []) ∷ row 5 (no ∷ e ∷ e ∷ []) ∷ row 5 (no ∷ no ∷ []) ∷ [])
unfolding AllRefused
somes = refl

merges : AllRefused (row 6 (e ∷ []) ∷ row 6 (e ∷ e ∷ e ∷ e ∷ []) ∷ row 6 (e ∷ e ∷ no ∷ []) ∷ row 27 [] ∷ row 27 (e ∷ e ∷ e ∷ []) ∷ row 27 (e ∷ no ∷ []) ∷ [])
unfolding AllRefused
merges = refl

records :
    AllRefused (row 7 [] ∷ row 7 (e ∷ []) ∷ row 7 (item.map (t "x" ∷ no ∷ []) ∷ []) ∷ row 7 (item.map [] ∷ item.map [] ∷ []) ∷ row 8 (item.map (t "x" ∷ no ∷ []) ∷ [])
    ∷ row 8 (item.map (u 1 ∷ e ∷ []) ∷ []) ∷ row 8 (item.map (t "`" ∷ e ∷ []) ∷ []) ∷ row 8 (item.map (t "x" ∷ e ∷ t "y" ∷ e ∷ t "x" ∷ e ∷ []) ∷ []) ∷ [])
unfolding AllRefused
records = refl

selections :
    AllRefused (row 9 (e ∷ []) ∷ row 9 (e ∷ e ∷ []) ∷ row 9 (e ∷ t "`" ∷ []) ∷ row 9 (e ∷ t "x" ∷ t "y" ∷ []) ∷ row 10 [] ∷ row 10 (no ∷ []) ∷ row 10 (e ∷ t "x" ∷ t "x" ∷ [])
    ∷ row 10 (e ∷ t "`" ∷ []) ∷ row 10 (e ∷ t "x" ∷ t "y" ∷ t "x" ∷ []) ∷ row 10 (e ∷ array [] ∷ []) ∷ row 10 (e ∷ array (e ∷ e ∷ []) ∷ []) ∷ row 10 (e ∷ array (no ∷ []) ∷ [])
    ∷ row 10 (e ∷ array (e ∷ []) ∷ t "x" ∷ []) ∷ row 10 (e ∷ e ∷ []) ∷ [])
unfolding AllRefused
selections = refl

unions :
    AllRefused (row 11 [] ∷ row 11 (array [] ∷ []) ∷ row 11 (item.map (t "x" ∷ no ∷ t "x" ∷ no ∷ []) ∷ []) ∷ row 11 (item.map (t "`" ∷ no ∷ []) ∷ [])
    ∷ row 11 (item.map (t "x" ∷ t "y" ∷ []) ∷ []) ∷ [])
unfolding AllRefused
unions = refl

conditions_and_types :
    AllRefused (row 14 (e ∷ e ∷ []) ∷ row 14 (e ∷ e ∷ e ∷ e ∷ []) ∷ row 19 [] ∷ row 19 (e ∷ e ∷ []) ∷ row 26 (e ∷ []) ∷ row 26 (e ∷ e ∷ e ∷ []) ∷ row 28 [] ∷ row 28 (e ∷ e ∷ [])
    ∷ row 28 (no ∷ []) ∷ [])
unfolding AllRefused
conditions_and_types = refl

texts :
    AllRefused (row 18 [] ∷ row 18 (e ∷ []) ∷ row 18 (t "a" ∷ e ∷ []) ∷ row 18 (t "a" ∷ t "b" ∷ t "c" ∷ []) ∷ row 18 (single (characters (0xFF ∷ [])) ∷ [])
    ∷ row 18 (single (characters (0xC3 ∷ [])) ∷ e ∷ t "" ∷ []) ∷ row 18 (b "61" ∷ []) ∷ [])
unfolding AllRefused
texts = refl

lets :
    AllRefused (row 25 (t "x" ∷ no ∷ e ∷ []) ∷ row 25 (t "x" ∷ no ∷ e ∷ t "y" ∷ no ∷ []) ∷ row 25 (t "x" ∷ no ∷ e ∷ t "y" ∷ no ∷ e ∷ []) ∷ row 25 (t "`" ∷ no ∷ e ∷ e ∷ [])
    ∷ row 25 (t "x" ∷ t "y" ∷ e ∷ e ∷ []) ∷ row 25 (t "x" ∷ no ∷ no ∷ e ∷ []) ∷ [])
unfolding AllRefused
lets = refl

updates :
    AllRefused (row 29 (e ∷ array (t "x" ∷ []) ∷ []) ∷ row 29 (e ∷ array [] ∷ e ∷ []) ∷ row 29 (e ∷ t "x" ∷ e ∷ []) ∷ row 29 (e ∷ array (t "x" ∷ u 0 ∷ []) ∷ e ∷ [])
    ∷ row 29 (e ∷ array (t "`" ∷ []) ∷ e ∷ []) ∷ row 29 (e ∷ array (t "x" ∷ []) ∷ e ∷ e ∷ []) ∷ [])
unfolding AllRefused
updates = refl

-- with no part, one, two and three
abbrev of_all_lengths : ℕ → List Item
of_all_lengths n = row n [] ∷ row n (e ∷ []) ∷ row n (e ∷ e ∷ []) ∷ row n (e ∷ e ∷ e ∷ []) ∷ row n (item.map [] ∷ []) ∷ row n (t "x" ∷ []) ∷ []

no_rows :
    AllRefused (of_all_lengths 12 ++ of_all_lengths 13 ++ of_all_lengths 17 ++ of_all_lengths 20 ++ of_all_lengths 21 ++ of_all_lengths 22 ++ of_all_lengths 23 ++ of_all_lengths 30
    ++ of_all_lengths 31 ++ of_all_lengths 256)
unfolding AllRefused
no_rows = refl

-- ---- variables, names, numbers

variables :
    AllRefused (array (t "x" ∷ []) ∷ array (t "_" ∷ u 0 ∷ []) ∷ array (t "`" ∷ u 0 ∷ []) ∷ array (t "x" ∷ t "y" ∷ []) ∷ array (t "x" ∷ u 0 ∷ u 0 ∷ []) ∷ array (t "x" ∷ u 2147483648 ∷ [])
    ∷ array (t "x" ∷ tagged 2 (b "00") ∷ []) ∷ u 2147483648 ∷ [])
unfolding AllRefused
variables = refl

others :
    AllRefused (t "x" ∷ t "True" ∷ t "Double" ∷ t "Natural/folds" ∷ b "42" ∷ minus 0 ∷ no ∷ single (simple 19) ∷ single (simple 23) ∷ item.map [] ∷ array [] ∷ tagged 2 (b "01")
    ∷ tagged 3 e ∷ array (array (u 0 ∷ []) ∷ e ∷ []) ∷ [])
unfolding AllRefused
others = refl

-- the mark of CBOR stands before the whole alone
marks_within : AllRefused (row 5 (no ∷ tagged 55799 e ∷ []) ∷ row 15 (tagged 55799 (u 1) ∷ []) ∷ array (tagged 55799 (u 15) ∷ u 1 ∷ []) ∷ [])
unfolding AllRefused
marks_within = refl

naturals :
    AllRefused (row 15 [] ∷ row 15 (u 1 ∷ u 1 ∷ []) ∷ row 15 (minus 0 ∷ []) ∷ row 15 (tagged 3 (b "01") ∷ []) ∷ row 15 (tagged 2 (u 1) ∷ [])
    ∷ row 15 (tagged 2 (single (octets (1 ∷ replicate 16 0))) ∷ []) ∷ row 15 (tagged 2 (single (octets (replicate 16 0 ++ 1 ∷ []))) ∷ []) ∷ [])
unfolding AllRefused
naturals = refl

integers :
    AllRefused (row 16 [] ∷ row 16 (u 1 ∷ u 1 ∷ []) ∷ row 16 (tagged 55799 (b "01") ∷ []) ∷ row 16 (tagged 3 (minus 1) ∷ []) ∷ row 16 (tagged 2 (single (octets (0x80 ∷ replicate 15 0))) ∷ [])
    ∷ row 16 (tagged 3 (single (octets (0x80 ∷ replicate 15 0))) ∷ []) ∷ row 16 (tagged 3 (single (octets (replicate 17 0))) ∷ []) ∷ [])
unfolding AllRefused
integers = refl

-- ---- imports

-- an import of code by what follows its mode
abbrev located : List Item → Item
located is = row 24 (no ∷ u 0 ∷ is)

-- an import with these bytes as its digest
abbrev digested : List ℕ → Item
digested bytes = row 24 (single (octets bytes) ∷ u 0 ∷ u 7 ∷ [])

digests : AllRefused (digested (0x13 ∷ 0x20 ∷ replicate 32 0) ∷ digested (0x12 ∷ 0x21 ∷ replicate 32 0) ∷ digested (0x12 ∷ 0x20 ∷ replicate 31 0) ∷ digested (0x12 ∷ 0x20 ∷ replicate 33 0) ∷ digested (0x12 ∷ []) ∷ digested [] ∷ [])
unfolding AllRefused
digests = refl

modes : AllRefused (row 24 (no ∷ u 3 ∷ u 7 ∷ []) ∷ row 24 (no ∷ no ∷ u 7 ∷ []) ∷ row 24 (u 0 ∷ u 0 ∷ u 7 ∷ []) ∷ row 24 (no ∷ u 0 ∷ []) ∷ [])
unfolding AllRefused
modes = refl

schemes : AllRefused (located (u 8 ∷ []) ∷ located (u 8 ∷ t "x" ∷ []) ∷ located (minus 0 ∷ []) ∷ located (u 7 ∷ t "x" ∷ []) ∷ [])
unfolding AllRefused
schemes = refl

paths :
    AllRefused (located (u 2 ∷ []) ∷ located (u 3 ∷ []) ∷ located (u 4 ∷ []) ∷ located (u 5 ∷ []) ∷ located (u 3 ∷ t "" ∷ []) ∷ located (u 3 ∷ t "a/b" ∷ []) ∷ located (u 3 ∷ t "a" ∷ t "\"" ∷ [])
    ∷ located (u 3 ∷ t "" ∷ t "a" ∷ []) ∷ located (u 3 ∷ t "a" ∷ no ∷ []) ∷ [])
unfolding AllRefused
paths = refl

variables_of_the_environment : AllRefused (located (u 6 ∷ []) ∷ located (u 6 ∷ t "" ∷ []) ∷ located (u 6 ∷ t "a=b" ∷ []) ∷ located (u 6 ∷ t "a" ∷ t "b" ∷ []) ∷ [])
unfolding AllRefused
variables_of_the_environment = refl

urls :
    AllRefused (located (u 0 ∷ no ∷ t "h" ∷ no ∷ []) ∷ located (u 0 ∷ t "x" ∷ t "h" ∷ t "a" ∷ no ∷ []) ∷ located (u 0 ∷ no ∷ t "-" ∷ t "a" ∷ no ∷ []) ∷ located (u 0 ∷ no ∷ t "h" ∷ t "a" ∷ [])
    ∷ located (u 1 ∷ no ∷ t "h" ∷ t "," ∷ no ∷ []) ∷ located (u 1 ∷ no ∷ t "h" ∷ t "," ∷ t "a" ∷ no ∷ []) ∷ located (u 1 ∷ no ∷ t "h" ∷ t "a" ∷ t "," ∷ no ∷ []) ∷ located (u 1 ∷ no ∷ t "h" ∷ t "a" ∷ t "#" ∷ [])
    ∷ located (u 0 ∷ t "h" ∷ t "a" ∷ no ∷ []) ∷ [])
unfolding AllRefused
urls = refl

-- ---- heads

-- none of these bytes, in hexadecimal digits, begins with a head that can be read, all for this fault
abbrev AllFail : List String → HeadFault → Type 0
AllFail texts f = map (λ s. head_at (hex s)) texts ≡ map (λ s. Err f) texts

heads_cut : AllFail ("" ∷ "18" ∷ "19 01" ∷ "1A 01 02 03" ∷ "1B 01 02 03 04 05 06 07" ∷ "D9 D9" ∷ "F8" ∷ "FB 01" ∷ []) cut
heads_cut = refl

heads_without_length : AllFail ("1F" ∷ "3F" ∷ "5F" ∷ "7F" ∷ "9F" ∷ "BF" ∷ "DF" ∷ "FF" ∷ []) indefinite
heads_without_length = refl

floats : AllFail ("F9 00 00" ∷ "FA 00 00 00 00" ∷ "FB 00 00 00 00 00 00 00 00" ∷ []) float
floats = refl

foreign_tags : AllFail ("C0" ∷ "C1" ∷ "C4" ∷ "D7" ∷ "D8 18" ∷ "D9 D9 F6" ∷ "D9 D9 F8" ∷ []) foreign_tag
foreign_tags = refl

heads_of_no_length : AllFail ("1C" ∷ "1D" ∷ "1E" ∷ "3C" ∷ "9E" ∷ "DD" ∷ "FC" ∷ "FE" ∷ []) too_wide
heads_of_no_length = refl

-- each major type, and each length
heads_read :
    map (λ s. head_at (hex s)) ("17 01" ∷ "38 18" ∷ "59 01 00 02" ∷ "7A 00 01 00 00" ∷ "9B 00 00 00 01 00 00 00 00 03" ∷ "A0" ∷ "C2" ∷ "C3" ∷ "D9 D9 F7" ∷ "F8 14" ∷ [])
    ≡ Ok (record { major = 0; value = 23; after = 1 ∷ [] }) ∷ Ok (record { major = 1; value = 24; after = [] }) ∷ Ok (record { major = 2; value = 256; after = 2 ∷ [] })
    ∷ Ok (record { major = 3; value = 65536; after = [] }) ∷ Ok (record { major = 4; value = 4294967296; after = 3 ∷ [] }) ∷ Ok (record { major = 5; value = 0; after = [] })
    ∷ Ok (record { major = 6; value = 2; after = [] }) ∷ Ok (record { major = 6; value = 3; after = [] }) ∷ Ok (record { major = 6; value = 55799; after = [] })
    ∷ Ok (record { major = 7; value = 20; after = [] }) ∷ []
heads_read = refl
