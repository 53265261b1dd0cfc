-- Items whose numbers fit their heads, whatever the lengths of their strings and their counts.
use Rattle.std.specs.Prelude.{nat_lt, Bool, true, ◌&&◌}
use Rattle.dh_syntax.specs.Bytes.BinaryHeads.{Atom, unsigned, negative, octets, characters, simple, is_known_tag}
use Rattle.dh_syntax.specs.Bytes.BinaryItems.{Item, single, array_of, map_of, tagged, Items, no_items, more_items, Pairs, no_pairs, more_pairs}
use Rattle.dh_binary.specs.ItemBytes.{fits_head}

-- whether the number of an atom fits its head
abbrev pub atom_sound : Atom → Bool
atom_sound (unsigned n) = fits_head n
atom_sound (negative n) = fits_head n
atom_sound (octets bs) = true
atom_sound (characters bs) = true
atom_sound (simple n) = nat_lt n 24

abbrev mutual
  -- whether each number of an item fits its head, and each tag is known
  pub sound : Item → Bool
  sound (single a) = atom_sound a
  sound (array_of is) = all_sound is
  sound (map_of ps) = pairs_sound ps
  sound (tagged t i) = nat_lt t 24 && is_known_tag t && sound i

  pub all_sound : Items → Bool
  all_sound no_items = true
  all_sound (more_items i is) = sound i && all_sound is

  pub pairs_sound : Pairs → Bool
  pairs_sound no_pairs = true
  pairs_sound (more_pairs k v ps) = sound k && sound v && pairs_sound ps
