-- An item that is written is read.
use Rattle.std.specs.Prelude.{◌≡◌, ℕ, ◌^◌, ◌≤◌, nat_lt, Bool, true, false, ◌&&◌, not, if◌then◌else◌, List, [], ◌∷◌, ◌++◌, length, take, drop, Ok, Err, refl}
use Rattle.std.proofs.Common.{sym, ◌∙◌, ap, subst, arith}
use Rattle.std.proofs.lemmas.Bool.{ltb-true}
use Rattle.std.proofs.lemmas.List.{append_assoc, append-nil}
use Rattle.dh_syntax.specs.Bytes.BinaryHeads.{Atom, unsigned, negative, octets, characters, simple, Mark, atom, array, tag, Head, head_at, known, is_known_tag, HeadFault, cut, foreign_tag, Marked, marked, mark_at, mark_by, mark_of, string_at, Begun, begun, begun_by, before_begun}
use Rattle.dh_syntax.specs.Bytes.BinaryHeads as heads
use Rattle.dh_syntax.specs.Bytes.BinaryItems.{Item, single, array_of, map_of, tagged, Items, no_items, more_items, Pairs, no_pairs, more_pairs, item_count, pair_count, item_marks, items_marks, pairs_marks}
use Rattle.dh_syntax.specs.Bytes.BinaryRead.{Begins}
use Rattle.dh_syntax.specs.Bytes.Cbor.{head}
use Rattle.dh_binary.specs.ItemBytes.{fits_head, atom_bytes, item_bytes, items_bytes, pairs_bytes, atom_sized, sized, all_sized, pairs_sized}
use Rattle.dh_binary.proofs.HeadBytes.{read_head, head_read, short_read}

abbrev pub read_mark : Mark → List ℕ → Marked
read_mark k rest = record { mark = k; after = rest }

left_of : (a c : Bool) → (a && c) ≡ true → a ≡ true
left_of true c h = refl
left_of false c h = h

right_of : (a c : Bool) → (a && c) ≡ true → c ≡ true
right_of true c h = h
right_of false c h = cc

take_front : (xs ys : List ℕ) → take (length xs) (xs ++ ys) ≡ xs
take_front [] ys = refl
take_front (x ∷ xs) ys = ap (λ zs. x ∷ zs) (take_front xs ys)

drop_front : (xs ys : List ℕ) → drop (length xs) (xs ++ ys) ≡ ys
drop_front [] ys = refl
drop_front (x ∷ xs) ys = drop_front xs ys

front_short : (xs ys : List ℕ) → length xs ≤ length (xs ++ ys)
front_short [] ys = omega arith
front_short (x ∷ xs) ys = let h = front_short xs ys in omega arith

not_cut : (c : Bool) (kind : List ℕ → Atom) (xs ys : List ℕ) → c ≡ false → (if c then Err cut else marked (atom (kind (take (length xs) (xs ++ ys)))) (drop (length xs) (xs ++ ys))) ≡ Ok (read_mark (atom (kind xs)) ys)
not_cut true kind xs ys h = cc
not_cut false kind xs ys h = ap (λ zs. Ok (read_mark (atom (kind zs)) (drop (length xs) (xs ++ ys)))) (take_front xs ys) ∙ ap (λ zs. Ok (read_mark (atom (kind xs)) zs)) (drop_front xs ys)

string_read : (kind : List ℕ → Atom) (major : ℕ) (xs rest : List ℕ) → string_at kind (read_head major (length xs) (xs ++ rest)) ≡ Ok (read_mark (atom (kind xs)) rest)
string_read kind major xs rest = not_cut (nat_lt (length (xs ++ rest)) (length xs)) kind xs rest (by (nat_lt (length (xs ++ rest)) (length xs)) refl)
  where
    by : (c : Bool) → nat_lt (length (xs ++ rest)) (length xs) ≡ c → c ≡ false
    by true e = let f = ltb-true (length (xs ++ rest)) (length xs) e in let g = front_short xs rest in absurd (omega arith)
    by false e = refl

atom_read : (a : Atom) (rest : List ℕ) → atom_sized a ≡ true → mark_at (atom_bytes a ++ rest) ≡ Ok (read_mark (atom a) rest)
atom_read (unsigned n) rest h = ap mark_by (head_read 0 n rest (omega arith) (ltb-true n (2 ^ 64) h))
atom_read (negative n) rest h = ap mark_by (head_read 1 n rest (omega arith) (ltb-true n (2 ^ 64) h))
atom_read (octets bs) rest h = ap mark_at (append_assoc (head 2 (length bs)) bs rest) ∙ ap mark_by (head_read 2 (length bs) (bs ++ rest) (omega arith) (ltb-true (length bs) (2 ^ 64) h)) ∙ string_read octets 2 bs rest
atom_read (characters bs) rest h = ap mark_at (append_assoc (head 3 (length bs)) bs rest) ∙ ap mark_by (head_read 3 (length bs) (bs ++ rest) (omega arith) (ltb-true (length bs) (2 ^ 64) h)) ∙ string_read characters 3 bs rest
atom_read (simple n) rest h = ap mark_by (short_read 7 n rest (ltb-true n 24 h))

tag_known : (c : Bool) (t : ℕ) (rest : List ℕ) → c ≡ true → mark_by (if not c then Err foreign_tag else Ok (read_head 6 t rest)) ≡ Ok (read_mark (tag t) rest)
tag_known true t rest h = refl
tag_known false t rest h = cc

-- heads one after another
pub begun_mark : (bs : List ℕ) (k : Mark) (rest : List ℕ) (ms : List Mark) (after : List ℕ) → mark_at bs ≡ Ok (read_mark k rest) → Begins rest ms after → Begins bs (k ∷ ms) after
begun_mark bs k rest ms after h g = ap (λ r. begun_by r (λ x. begun (length ms) x)) h ∙ ap (before_begun k) g

mutual
  -- the heads of an item, and those that come after it
  pub item_read : (i : Item) (rest : List ℕ) (ms : List Mark) (after : List ℕ) → sized i ≡ true → Begins rest ms after → Begins (item_bytes i ++ rest) (item_marks i ++ ms) after
  item_read (single a) rest ms after h g = begun_mark (atom_bytes a ++ rest) (atom a) rest ms after (atom_read a rest h) g
  item_read (array_of is) rest ms after h g =
      begun_mark (item_bytes (array_of is) ++ rest) (array (item_count is)) (items_bytes is ++ rest) (items_marks is ++ ms) after
      (ap mark_at (append_assoc (head 4 (item_count is)) (items_bytes is) rest) ∙ ap mark_by (head_read 4 (item_count is) (items_bytes is ++ rest) (omega arith) (ltb-true (item_count is) (2 ^ 64) (left_of _ _ h))))
      (items_read is rest ms after (right_of (fits_head (item_count is)) _ h) g)
  item_read (map_of ps) rest ms after h g =
      begun_mark (item_bytes (map_of ps) ++ rest) (heads.map (pair_count ps)) (pairs_bytes ps ++ rest) (pairs_marks ps ++ ms) after
      (ap mark_at (append_assoc (head 5 (pair_count ps)) (pairs_bytes ps) rest) ∙ ap mark_by (head_read 5 (pair_count ps) (pairs_bytes ps ++ rest) (omega arith) (ltb-true (pair_count ps) (2 ^ 64) (left_of _ _ h))))
      (pairs_read ps rest ms after (right_of (fits_head (pair_count ps)) _ h) g)
  item_read (tagged t i) rest ms after h g =
      let x = left_of (nat_lt t 24 && is_known_tag t) (sized i) h in
      begun_mark (item_bytes (tagged t i) ++ rest) (tag t) (item_bytes i ++ rest) (item_marks i ++ ms) after
      (ap mark_at (append_assoc (head 6 t) (item_bytes i) rest) ∙ ap mark_by (short_read 6 t (item_bytes i ++ rest) (ltb-true t 24 (left_of (nat_lt t 24) (is_known_tag t) x))) ∙ tag_known (is_known_tag t) t (item_bytes i ++ rest) (right_of (nat_lt t 24) (is_known_tag t) x))
      (item_read i rest ms after (right_of (nat_lt t 24 && is_known_tag t) (sized i) h) g)

  items_read : (is : Items) (rest : List ℕ) (ms : List Mark) (after : List ℕ) → all_sized is ≡ true → Begins rest ms after → Begins (items_bytes is ++ rest) (items_marks is ++ ms) after
  items_read no_items rest ms after h g = g
  items_read (more_items i is) rest ms after h g =
      subst (λ ks. Begins (items_bytes (more_items i is) ++ rest) ks after) (sym (append_assoc (item_marks i) (items_marks is) ms))
      (subst (λ bs. Begins bs (item_marks i ++ (items_marks is ++ ms)) after) (sym (append_assoc (item_bytes i) (items_bytes is) rest))
      (item_read i (items_bytes is ++ rest) (items_marks is ++ ms) after (left_of (sized i) _ h) (items_read is rest ms after (right_of (sized i) _ h) g)))

  pairs_read : (ps : Pairs) (rest : List ℕ) (ms : List Mark) (after : List ℕ) → pairs_sized ps ≡ true → Begins rest ms after → Begins (pairs_bytes ps ++ rest) (pairs_marks ps ++ ms) after
  pairs_read no_pairs rest ms after h g = g
  pairs_read (more_pairs k v ps) rest ms after h g =
      let x = left_of (sized k && sized v) (pairs_sized ps) h in
      subst (λ ks. Begins (pairs_bytes (more_pairs k v ps) ++ rest) ks after) (sym (append_assoc (item_marks k ++ item_marks v) (pairs_marks ps) ms ∙ append_assoc (item_marks k) (item_marks v) (pairs_marks ps ++ ms)))
      (subst (λ bs. Begins bs (item_marks k ++ (item_marks v ++ (pairs_marks ps ++ ms))) after) (sym (append_assoc (item_bytes k ++ item_bytes v) (pairs_bytes ps) rest ∙ append_assoc (item_bytes k) (item_bytes v) (pairs_bytes ps ++ rest)))
      (item_read k (item_bytes v ++ (pairs_bytes ps ++ rest)) (item_marks v ++ (pairs_marks ps ++ ms)) after (left_of (sized k) (sized v) x)
      (item_read v (pairs_bytes ps ++ rest) (pairs_marks ps ++ ms) after (right_of (sized k) (sized v) x) (pairs_read ps rest ms after (right_of (sized k && sized v) (pairs_sized ps) h) g))))

-- The bytes of an item are its heads, and nothing else.
pub written_read : (i : Item) → sized i ≡ true → Begins (item_bytes i) (item_marks i) []
written_read i h = subst (λ bs. Begins bs (item_marks i) []) (append-nil (item_bytes i)) (subst (λ ms. Begins (item_bytes i ++ []) ms []) (append-nil (item_marks i)) (item_read i [] [] [] h refl))
