-- Short spellings for the bytes and items of the examples.
use Rattle.std.specs.Prelude.{ℕ, ◌+◌, ◌*◌, List, [], ◌∷◌, codes}
use Rattle.std.specs.Char.{digit_value}
use Rattle.dh_syntax.specs.Bytes.BinaryHeads.{unsigned, negative, octets, characters, simple}
use Rattle.dh_syntax.specs.Bytes.BinaryItems.{Item, single, array_of, map_of, Items, no_items, more_items, Pairs, no_pairs, more_pairs}
use Prim.Native.String.{String}

-- the bytes that these hexadecimal digits write, two for each and a space between
abbrev pub digits_bytes : List ℕ → List ℕ
digits_bytes [] = []
digits_bytes (a ∷ []) = []
digits_bytes (a ∷ b ∷ []) = (16 * digit_value a + digit_value b) ∷ []
digits_bytes (a ∷ b ∷ space ∷ ds) = (16 * digit_value a + digit_value b) ∷ digits_bytes ds

-- the bytes that are written in hexadecimal digits
abbrev pub hex : String → List ℕ
hex text = digits_bytes (codes text)

-- an unsigned number as an item
abbrev pub u : ℕ → Item
u n = single (unsigned n)

-- the number below zero that is this many less than -1, as an item
abbrev pub minus : ℕ → Item
minus n = single (negative n)

-- a byte string, written in hexadecimal digits, as an item
abbrev pub b : String → Item
b text = single (octets (hex text))

-- a text string as an item
abbrev pub t : String → Item
t text = single (characters (codes text))

-- the item `null`
abbrev pub no : Item
no = single (simple 22)

-- several items in a row
abbrev pub items : List Item → Items
items [] = no_items
items (i ∷ is) = more_items i (items is)

-- an array of these items
abbrev pub array : List Item → Item
array is = array_of (items is)

-- the pairs of these keys and values, which stand one after another
abbrev pub pairs : List Item → Pairs
pairs [] = no_pairs
pairs (k ∷ []) = no_pairs
pairs (k ∷ v ∷ is) = more_pairs k v (pairs is)

-- a map of these items, a key and its value by turns
abbrev pub map : List Item → Item
map is = map_of (pairs is)
