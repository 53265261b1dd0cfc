-- Items read by recursion, as the machine reads them.
use Rattle.std.specs.Prelude.{suc, ◌*◌, Bool, Option}
use Rattle.dh_syntax.specs.Bytes.BinaryItems.{Item, single, array_of, map_of, tagged, Items, no_items, more_items, Pairs, no_pairs, more_pairs, item_count, pair_count}
use Rattle.dh_syntax.specs.Bytes.BinaryLeaves.{◌>>=◌}
use Rattle.dh_binary.specs.Machine.{Making, Value, Want, Place, want, fill, result, atom_as, array_as, map_as, tag_as}

module _ {T : Type 0} (m : Making T) (beyond : Bool) where
  abbrev mutual
    pub read : Want → Item → Option (Value T)
    read w (single a) = atom_as m beyond w a
    read w (array_of is) = array_as m w (item_count is) >>= λ p. reads p is
    read w (map_of ps) = map_as m w >>= λ p. reads_pairs p ps
    read w (tagged t i) = tag_as m w t >>= λ v. read v i

    pub reads : Place T → Items → Option (Value T)
    reads p no_items = result m p
    reads p (more_items i is) = read (want p (item_count is)) i >>= λ v. reads (fill m p v) is

    pub reads_pairs : Place T → Pairs → Option (Value T)
    reads_pairs p no_pairs = result m p
    reads_pairs p (more_pairs k v ps) =
        read (want p (suc (2 * pair_count ps))) k >>= λ a. read (want (fill m p a) (2 * pair_count ps)) v >>= λ b. reads_pairs (fill m (fill m p a) b) ps
