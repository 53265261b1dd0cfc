-- Scripts of edits and asks: `set LOC HEX`, `drop LOC` and `ask LOC`, a line each.
use Rattle.std.specs.Prelude.{ℕ, List, [], ◌∷◌, if◌then◌else◌, ◌≡◌, None, Ok, Bool, true, false, Option, Some, ◌+◌, ◌*◌, ◌||◌, ◌++◌, codes, ◌≤◌, length, suc}
use Rattle.std.specs.Char.{digit_value, is_ascii_hexdigit}
use Rattle.std.specs.Str.{is_utf8}
use Rattle.dh_syntax.specs.Expressions.Numbers.{eq}
use Rattle.dh_syntax.specs.declared.locations.Loc.{Loc}
use Rattle.dh_syntax.specs.Expressions.Tree.{Node, end}
use Rattle.dh_syntax.specs.Imports.Locations.{chain}
use Rattle.dh_syntax.specs.Text.Spelling.{ParsesTo}
use Rattle.dh_syntax.specs.Limits.{most_bytes}
use Rattle.dh_syntax.specs.declared.expressions.Op.TheVariants as ops
use Rattle.dh_syntax.specs.declared.locations.Loc.TheVariants as locs
use Rattle.dh_syntax.specs.declared.locations.Mode.TheVariants as modes

-- an order of a script: to set, to drop or to ask a location
pub data Order : Type 0 where
  -- the location has these bytes from here on
  Set : Loc → List ℕ → Order
  -- it has none
  Drop : Loc → Order
  Ask : Loc → Order

-- lines with one more byte before the first of them
abbrev pub with_byte : ℕ → List (List ℕ) → List (List ℕ)
with_byte b [] = (b ∷ []) ∷ []
with_byte b (l ∷ ls) = (b ∷ l) ∷ ls

-- the lines of a text without their line feeds, and the rest behind the last one, if there is any
abbrev pub lines_of : List ℕ → List (List ℕ)
lines_of [] = []
lines_of (b ∷ bs) = if eq b 10 then [] ∷ lines_of bs else with_byte b (lines_of bs)

-- the text spells an import of this location, as code and without a digest, that is not `missing`
pub record SpellsLoc (text : List ℕ) (l : Loc) : Type 0 where
  pub spelled : Loc
  pub spells : ParsesTo text (Ok (Node (ops.Import (record { loc = spelled; mode = modes.Code; digest = None })) end))
  pub somewhere : ¬ (spelled ≡ locs.Missing)
  -- it is made canonical
  pub canonical : l ≡ chain None spelled

-- the value of a hexadecimal digit
abbrev pub digit : Bool → ℕ → Option ℕ
digit true b = Some (digit_value b)
digit false b = None

-- the byte of two digits before these bytes
abbrev pub pair : Option ℕ → Option ℕ → Option (List ℕ) → Option (List ℕ)
pair (Some h) (Some l) (Some bytes) = Some ((16 * h + l) ∷ bytes)
pair _ _ _ = None

-- the bytes that pairs of hexadecimal digits write, if these are such
abbrev pub bytes_of : List ℕ → Option (List ℕ)
bytes_of [] = Some []
bytes_of (h ∷ []) = None
bytes_of (h ∷ l ∷ rest) = pair (digit (is_ascii_hexdigit h) h) (digit (is_ascii_hexdigit l) l) (bytes_of rest)

-- whether the bytes have a blank
abbrev pub has_blank : List ℕ → Bool
has_blank [] = false
has_blank (b ∷ bs) = eq b 32 || has_blank bs

-- the line gives this order
pub data IsOrder : List ℕ → Order → Type 0 where
  -- the bytes stand after the last blank
  sets : {line bytes : List ℕ} {l : Loc} (text hex : List ℕ) → line ≡ codes "set " ++ (text ++ (32 ∷ hex)) → has_blank hex ≡ false → bytes_of hex ≡ Some bytes
      → SpellsLoc text l → IsOrder line (Set l bytes)
  drops : {line : List ℕ} {l : Loc} (text : List ℕ) → line ≡ codes "drop " ++ text → SpellsLoc text l → IsOrder line (Drop l)
  asks : {line : List ℕ} {l : Loc} (text : List ℕ) → line ≡ codes "ask " ++ text → SpellsLoc text l → IsOrder line (Ask l)

-- line by line
pub data AreOrders : List (List ℕ) → List Order → Type 0 where
  none : AreOrders [] []
  one_more : {line : List ℕ} {lines : List (List ℕ)} {order : Order} {orders : List Order} → IsOrder line order → AreOrders lines orders
      → AreOrders (line ∷ lines) (order ∷ orders)

-- at most so many bytes of UTF-8, each line an order
pub record IsScript (bytes : List ℕ) (orders : List Order) : Type 0 where
  pub small : length bytes ≤ most_bytes
  pub utf8 : is_utf8 bytes ≡ true
  pub lines : AreOrders (lines_of bytes) orders

-- the first line that is none of these, by its number from 1
pub data IsFirstBad : List (List ℕ) → ℕ → Type 0 where
  here : {line : List ℕ} {lines : List (List ℕ)} → ((o : Order) → ¬ IsOrder line o) → IsFirstBad (line ∷ lines) 1
  later : {line : List ℕ} {lines : List (List ℕ)} {n : ℕ} (o : Order) → IsOrder line o → IsFirstBad lines n → IsFirstBad (line ∷ lines) (suc n)
