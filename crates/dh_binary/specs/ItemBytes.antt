-- The bytes of an item, in shortest heads.
use Rattle.std.specs.Prelude.{ℕ, ◌^◌, nat_lt, Bool, true, ◌&&◌, List, [], ◌++◌, length}
use Rattle.dh_syntax.specs.Bytes.BinaryHeads.{Atom, unsigned, negative, octets, characters, simple, is_known_tag}
use Rattle.dh_syntax.specs.Bytes.BinaryItems.{Item, single, array_of, map_of, tagged, Items, no_items, more_items, Pairs, no_pairs, more_pairs, item_count, pair_count}
use Rattle.dh_syntax.specs.Bytes.Cbor.{head, bytes, text}

-- the bytes of an atom, in its shortest head
abbrev pub atom_bytes : Atom → List ℕ
atom_bytes (unsigned n) = head 0 n
atom_bytes (negative n) = head 1 n
atom_bytes (octets bs) = bytes bs
atom_bytes (characters bs) = text bs
atom_bytes (simple n) = head 7 n

abbrev mutual
  pub item_bytes : Item → List ℕ
  item_bytes (single a) = atom_bytes a
  item_bytes (array_of is) = head 4 (item_count is) ++ items_bytes is
  item_bytes (map_of ps) = head 5 (pair_count ps) ++ pairs_bytes ps
  item_bytes (tagged t i) = head 6 t ++ item_bytes i

  pub items_bytes : Items → List ℕ
  items_bytes no_items = []
  items_bytes (more_items i is) = item_bytes i ++ items_bytes is

  pub pairs_bytes : Pairs → List ℕ
  pairs_bytes no_pairs = []
  pairs_bytes (more_pairs k v ps) = item_bytes k ++ item_bytes v ++ pairs_bytes ps

-- whether a number fits a head
abbrev pub fits_head : ℕ → Bool
fits_head n = nat_lt n (2 ^ 64)

-- whether the number or the length of an atom fits its head
abbrev pub atom_sized : Atom → Bool
atom_sized (unsigned n) = fits_head n
atom_sized (negative n) = fits_head n
atom_sized (octets bs) = fits_head (length bs)
atom_sized (characters bs) = fits_head (length bs)
atom_sized (simple n) = nat_lt n 24

abbrev mutual
  -- whether each number and length of an item fits its head, and each tag is known
  pub sized : Item → Bool
  sized (single a) = atom_sized a
  sized (array_of is) = fits_head (item_count is) && all_sized is
  sized (map_of ps) = fits_head (pair_count ps) && pairs_sized ps
  sized (tagged t i) = nat_lt t 24 && is_known_tag t && sized i

  pub all_sized : Items → Bool
  all_sized no_items = true
  all_sized (more_items i is) = sized i && all_sized is

  pub pairs_sized : Pairs → Bool
  pairs_sized no_pairs = true
  pairs_sized (more_pairs k v ps) = sized k && sized v && pairs_sized ps
