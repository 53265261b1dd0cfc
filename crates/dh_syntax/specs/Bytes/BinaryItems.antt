-- CBOR items as trees (RFC 7049 §2), and the heads that each is written with.
use Rattle.std.specs.Prelude.{ℕ, zero, suc, pred, ◌*◌, ◌&&◌, nat_le, Bool, true, List, [], ◌∷◌, ◌++◌, length}
use Rattle.dh_syntax.specs.Bytes.BinaryHeads.{Atom, Mark, atom, array, map, tag}

mutual
  pub data Item : Type 0 where
    single : Atom → Item
    array_of : Items → Item
    map_of : Pairs → Item
    tagged : ℕ → Item → Item

  -- the items of an array
  pub data Items : Type 0 where
    no_items : Items
    more_items : Item → Items → Items

  -- the keys and values of a map
  pub data Pairs : Type 0 where
    no_pairs : Pairs
    more_pairs : Item → Item → Pairs → Pairs

-- how many items an array has
abbrev pub item_count : Items → ℕ
item_count no_items = 0
item_count (more_items i is) = suc (item_count is)

-- how many pairs a map has
abbrev pub pair_count : Pairs → ℕ
pair_count no_pairs = 0
pair_count (more_pairs k v ps) = suc (pair_count ps)

-- the heads that an item, the items of an array and the pairs of a map are written with
abbrev mutual
  -- the heads of an item, in their order
  pub item_marks : Item → List Mark
  item_marks (single a) = atom a ∷ []
  item_marks (array_of is) = array (item_count is) ∷ items_marks is
  item_marks (map_of ps) = map (pair_count ps) ∷ pairs_marks ps
  item_marks (tagged t i) = tag t ∷ item_marks i

  pub items_marks : Items → List Mark
  items_marks no_items = []
  items_marks (more_items i is) = item_marks i ++ items_marks is

  pub pairs_marks : Pairs → List Mark
  pairs_marks no_pairs = []
  pairs_marks (more_pairs k v ps) = item_marks k ++ item_marks v ++ pairs_marks ps

-- ---- the arrays and maps that stand open

-- How many items each open array and map has still to come, the innermost first; the last number is that of whole items.
abbrev pub Open : Type 0
Open = List ℕ

-- what stands open after the last head of an item
abbrev pub closed : Open → Open
closed [] = []
closed (zero ∷ ns) = closed ns
closed (suc n ∷ ns) = suc n ∷ ns

-- one item fewer is still to come
abbrev pub begun_item : Open → Open
begun_item [] = []
begun_item (n ∷ ns) = pred n ∷ ns

-- an array or a map opens, and one without items is closed at once
abbrev pub opened : ℕ → Open → Open
opened n ns = closed (n ∷ begun_item ns)

-- what stands open after one more head
abbrev pub after_mark : Mark → Open → Open
after_mark (atom a) ns = closed (begun_item ns)
after_mark (array n) ns = opened n ns
after_mark (map n) ns = opened (2 * n) ns
after_mark (tag t) ns = ns

-- what stands open after these heads
abbrev pub after_marks : List Mark → Open → Open
after_marks [] ns = ns
after_marks (m ∷ ms) ns = after_marks ms (after_mark m ns)

-- how many arrays and maps stand open where a head opens one more, that one among them
abbrev pub open_at : Mark → Open → ℕ
open_at (array n) ns = length ns
open_at (map n) ns = length ns
open_at _ ns = 0

-- whether at most so many stand open at each of these heads
abbrev pub opens_at_most : ℕ → List Mark → Open → Bool
opens_at_most most [] ns = true
opens_at_most most (m ∷ ms) ns = nat_le (open_at m ns) most && opens_at_most most ms (after_mark m ns)

-- before the first head, one whole item is still to come
abbrev pub at_start : Open
at_start = 1 ∷ []
