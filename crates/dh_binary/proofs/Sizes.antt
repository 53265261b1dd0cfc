-- Where the bytes of an item can be counted in 64 bits, so can each string and each count in it.
use Rattle.std.specs.Prelude.{◌≡◌, ℕ, suc, ◌+◌, ◌^◌, ◌<◌, ◌≤◌, nat_lt, Bool, true, false, ◌&&◌, List, ◌++◌, length, refl}
use Rattle.std.proofs.Common.{◌∙◌, ap, arith}
use Rattle.std.proofs.lemmas.Bool.{lt-ltb}
use Rattle.std.proofs.lemmas.List.{length-append}
use Rattle.dh_syntax.specs.Bytes.BinaryHeads.{Atom, unsigned, negative, octets, characters, simple, is_known_tag}
use Rattle.dh_syntax.specs.Bytes.BinaryItems.{Item, single, array_of, map_of, tagged, Items, no_items, more_items, Pairs, no_pairs, more_pairs, item_count, pair_count}
use Rattle.dh_syntax.specs.Bytes.Cbor.{head}
use Rattle.dh_binary.specs.ItemBytes.{fits_head, atom_bytes, item_bytes, items_bytes, pairs_bytes, atom_sized, sized, all_sized, pairs_sized}
use Rattle.dh_binary.specs.Inside.Sound.{atom_sound, sound, all_sound, pairs_sound}
use Rattle.dh_binary.proofs.BackMore.{left_of, right_of}
use Rattle.dh_binary.proofs.Firsts.{head_is}

pub both : (a c : Bool) → a ≡ true → c ≡ true → (a && c) ≡ true
both true c h k = k
both false c h k = h

-- a head has a byte at least
head_long : (major n : ℕ) (bs : List ℕ) → suc (length bs) ≤ length (head major n ++ bs)
head_long major n bs =
    let h = head_is major n in
    let e : length (head major n ++ bs) ≡ suc (length h.rest + length bs) = ap (λ xs. length (xs ++ bs)) h.same ∙ ap suc (length-append h.rest bs) in
    omega arith

head_some : (major n : ℕ) → 1 ≤ length (head major n)
head_some major n = let h = head_is major n in let e : length (head major n) ≡ suc (length h.rest) = ap length h.same in omega arith

atom_long : (a : Atom) → 1 ≤ length (atom_bytes a)
atom_long (unsigned n) = head_some 0 n
atom_long (negative n) = head_some 1 n
atom_long (octets bs) = let h = head_long 2 (length bs) bs in omega arith
atom_long (characters bs) = let h = head_long 3 (length bs) bs in omega arith
atom_long (simple n) = head_some 7 n

item_long : (i : Item) → 1 ≤ length (item_bytes i)
item_long (single a) = atom_long a
item_long (array_of is) = let h = head_long 4 (item_count is) (items_bytes is) in omega arith
item_long (map_of ps) = let h = head_long 5 (pair_count ps) (pairs_bytes ps) in omega arith
item_long (tagged t i) = let h = head_long 6 t (item_bytes i) in omega arith

items_long : (is : Items) → item_count is ≤ length (items_bytes is)
items_long no_items = omega arith
items_long (more_items i is) =
    let h = items_long is in let g = item_long i in let e = length-append (item_bytes i) (items_bytes is) in omega arith

pairs_long : (ps : Pairs) → pair_count ps ≤ length (pairs_bytes ps)
pairs_long no_pairs = omega arith
pairs_long (more_pairs k v ps) =
    let h = pairs_long ps in
    let g = item_long k in
    let e = length-append (item_bytes k ++ item_bytes v) (pairs_bytes ps) in
    let f = length-append (item_bytes k) (item_bytes v) in
    omega arith

abbrev Small : List ℕ → Type 0
Small bs = length bs < 2 ^ 64

string_sized : (major : ℕ) (bs : List ℕ) → Small (head major (length bs) ++ bs) → fits_head (length bs) ≡ true
string_sized major bs h = let g = head_long major (length bs) bs in lt-ltb (length bs) (2 ^ 64) (omega arith)

atom_fits : (a : Atom) → atom_sound a ≡ true → Small (atom_bytes a) → atom_sized a ≡ true
atom_fits (unsigned n) s h = s
atom_fits (negative n) s h = s
atom_fits (octets bs) s h = string_sized 2 bs h
atom_fits (characters bs) s h = string_sized 3 bs h
atom_fits (simple n) s h = s

small_left : (xs ys : List ℕ) → Small (xs ++ ys) → Small xs
small_left xs ys h = let e = length-append xs ys in omega arith

small_right : (xs ys : List ℕ) → Small (xs ++ ys) → Small ys
small_right xs ys h = let e = length-append xs ys in omega arith

mutual
  pub item_fits : (i : Item) → sound i ≡ true → Small (item_bytes i) → sized i ≡ true
  item_fits (single a) s h = atom_fits a s h
  item_fits (array_of is) s h =
      let k = small_right (head 4 (item_count is)) (items_bytes is) h in
      let c = items_long is in
      both (fits_head (item_count is)) (all_sized is) (lt-ltb (item_count is) (2 ^ 64) (omega arith)) (items_fit is s k)
  item_fits (map_of ps) s h =
      let k = small_right (head 5 (pair_count ps)) (pairs_bytes ps) h in
      let c = pairs_long ps in
      both (fits_head (pair_count ps)) (pairs_sized ps) (lt-ltb (pair_count ps) (2 ^ 64) (omega arith)) (pairs_fit ps s k)
  item_fits (tagged t i) s h =
      both (nat_lt t 24 && is_known_tag t) (sized i) (left_of (nat_lt t 24 && is_known_tag t) (sound i) s) (item_fits i (right_of (nat_lt t 24 && is_known_tag t) (sound i) s) (small_right (head 6 t) (item_bytes i) h))

  items_fit : (is : Items) → all_sound is ≡ true → Small (items_bytes is) → all_sized is ≡ true
  items_fit no_items s h = refl
  items_fit (more_items i is) s h =
      both (sized i) (all_sized is) (item_fits i (left_of (sound i) (all_sound is) s) (small_left (item_bytes i) (items_bytes is) h)) (items_fit is (right_of (sound i) (all_sound is) s) (small_right (item_bytes i) (items_bytes is) h))

  pairs_fit : (ps : Pairs) → pairs_sound ps ≡ true → Small (pairs_bytes ps) → pairs_sized ps ≡ true
  pairs_fit no_pairs s h = refl
  pairs_fit (more_pairs k v ps) s h =
      let l = small_left (item_bytes k ++ item_bytes v) (pairs_bytes ps) h in
      let t = left_of (sound k && sound v) (pairs_sound ps) s in
      both (sized k && sized v) (pairs_sized ps)
      (both (sized k) (sized v) (item_fits k (left_of (sound k) (sound v) t) (small_left (item_bytes k) (item_bytes v) l)) (item_fits v (right_of (sound k) (sound v) t) (small_right (item_bytes k) (item_bytes v) l)))
      (pairs_fit ps (right_of (sound k && sound v) (pairs_sound ps) s) (small_right (item_bytes k ++ item_bytes v) (pairs_bytes ps) h))
