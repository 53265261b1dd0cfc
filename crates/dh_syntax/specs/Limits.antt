-- The limits of this profile, each stated here and nowhere else.
use Rattle.std.specs.Prelude.{ℕ, ◌^◌, nat_lt, ℤ, pos, negsuc, Bool}

-- the bytes of the text of an input or of an import, at most
abbrev pub most_bytes : ℕ
most_bytes = 1_048_576

-- the productions `expr` that stand open in a text, at most; the outermost one counts
abbrev pub most_open : ℕ
most_open = 500

-- the nesting of an expression, and of a normal form, at most
abbrev pub most_nesting : ℕ
most_nesting = 500

-- the index of a variable, at most
abbrev pub most_index : ℕ
most_index = 0x7FFF_FFFF

-- whether a natural is at most 2^128 - 1
abbrev pub natural_fits : ℕ → Bool
natural_fits n = nat_lt n (2 ^ 128)

-- whether an integer is at least -2^127 and at most 2^127 - 1
abbrev pub integer_fits : ℤ → Bool
integer_fits (pos n) = nat_lt n (2 ^ 127)
integer_fits (negsuc n) = nat_lt n (2 ^ 127)

-- the arrays and maps that stand open in the binary form, at most: an expression that nests 500 deep has fewer
abbrev pub most_open_items : ℕ
most_open_items = 1100

-- the literal bytes of a text that a rule makes, at most
abbrev pub most_text_bytes : ℕ
most_text_bytes = 16_777_216

-- the elements of a list that `#` makes, at most
abbrev pub most_elements : ℕ
most_elements = 1_048_576

-- the height of what a run reaches, at most, and its nesting
abbrev pub most_height : ℕ
most_height = 1_048_576

-- the nesting of what a run reaches, at most
abbrev pub most_reached : ℕ
most_reached = 1000

-- the height of what the plain run reaches, at most
abbrev pub most_plain_height : ℕ
most_plain_height = 1000

-- the units that an item has for its typing, and as many again for its normal form
abbrev pub whole_purse : ℕ
whole_purse = 16_777_216

-- the units of a typing aside; where they do not suffice, the typing may end there
abbrev pub purse_aside : ℕ
purse_aside = 16_777_216

-- the keys of one run, at most
abbrev pub most_keys : ℕ
most_keys = 4096

-- the bytes of an entry of the cache, at most
abbrev pub most_entry_bytes : ℕ
most_entry_bytes = 16_777_216

-- the workers that resolve imports, at most, and where the words ask for none
abbrev pub most_workers : ℕ
most_workers = 64

-- the workers that resolve imports where the words ask for none
abbrev pub default_workers : ℕ
default_workers = 4
