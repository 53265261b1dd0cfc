-- What stands open after an item, and how many arrays and maps open within it.
use Rattle.std.specs.Prelude.{◌≡◌, ℕ, suc, ◌+◌, ◌*◌, ◌≤◌, nat_le, Bool, true, false, ◌&&◌, List, [], ◌∷◌, ◌++◌, length, refl}
use Rattle.std.proofs.Common.{sym, ◌∙◌, ap, arith}
use Rattle.std.proofs.lemmas.Bool.{le-leb, leb-true}
use Rattle.std.proofs.lemmas.List.{append_assoc, append-nil}
use Rattle.dh_syntax.specs.Bytes.BinaryHeads.{Mark}
use Rattle.dh_syntax.specs.Bytes.BinaryItems.{Item, single, array_of, map_of, tagged, Items, no_items, more_items, Pairs, no_pairs, more_pairs, item_count, pair_count, item_marks, items_marks, pairs_marks, Open, closed, after_mark, after_marks, open_at, opens_at_most, at_start}
use Rattle.dh_syntax.proofs.BinaryDepth.{depth, depths, pairs_depth}

-- a test that is passed
passed : (b : Bool) (a : Bool) → b ≡ true → (b && a) ≡ a
passed true a h = refl
passed false a h = cc

twice_more : (n : ℕ) → 2 * suc n ≡ suc (suc (2 * n))
twice_more n = omega arith

mutual
  -- after an item, one item fewer is still to come
  pub after_item : (i : Item) (n : ℕ) (ns : Open) (more : List Mark) → after_marks (item_marks i ++ more) (suc n ∷ ns) ≡ after_marks more (closed (n ∷ ns))
  after_item (single a) n ns more = refl
  after_item (array_of is) n ns more = after_items is (n ∷ ns) more
  after_item (map_of ps) n ns more = after_pairs ps (n ∷ ns) more
  after_item (tagged t i) n ns more = after_item i n ns more

  after_items : (is : Items) (ns : Open) (more : List Mark) → after_marks (items_marks is ++ more) (closed (item_count is ∷ ns)) ≡ after_marks more (closed ns)
  after_items no_items ns more = refl
  after_items (more_items i is) ns more =
      ap (λ ms. after_marks ms (suc (item_count is) ∷ ns)) (append_assoc (item_marks i) (items_marks is) more)
      ∙ after_item i (item_count is) ns (items_marks is ++ more) ∙ after_items is ns more

  after_pairs : (ps : Pairs) (ns : Open) (more : List Mark) → after_marks (pairs_marks ps ++ more) (closed (2 * pair_count ps ∷ ns)) ≡ after_marks more (closed ns)
  after_pairs no_pairs ns more = refl
  after_pairs (more_pairs k v ps) ns more =
      ap (λ n. after_marks (pairs_marks (more_pairs k v ps) ++ more) (closed (n ∷ ns))) (twice_more (pair_count ps))
      ∙ ap (λ ms. after_marks ms (suc (suc (2 * pair_count ps)) ∷ ns)) (append_assoc (item_marks k ++ item_marks v) (pairs_marks ps) more ∙ append_assoc (item_marks k) (item_marks v) (pairs_marks ps ++ more))
      ∙ after_item k (suc (2 * pair_count ps)) ns (item_marks v ++ (pairs_marks ps ++ more))
      ∙ after_item v (2 * pair_count ps) ns (pairs_marks ps ++ more) ∙ after_pairs ps ns more

mutual
  -- an item opens at most as many arrays and maps as its depth
  pub opens_item : (most : ℕ) (i : Item) (n : ℕ) (ns : Open) (more : List Mark) → depth i + length ns ≤ most
      → opens_at_most most (item_marks i ++ more) (suc n ∷ ns) ≡ opens_at_most most more (closed (n ∷ ns))
  opens_item most (single a) n ns more h = passed (nat_le 0 most) _ (le-leb 0 most (omega arith))
  opens_item most (array_of is) n ns more h = passed (nat_le (suc (length ns)) most) _ (le-leb (suc (length ns)) most (omega arith)) ∙ opens_items most is (n ∷ ns) more (omega arith)
  opens_item most (map_of ps) n ns more h = passed (nat_le (suc (length ns)) most) _ (le-leb (suc (length ns)) most (omega arith)) ∙ opens_pairs most ps (n ∷ ns) more (omega arith)
  opens_item most (tagged t i) n ns more h = passed (nat_le 0 most) _ (le-leb 0 most (omega arith)) ∙ opens_item most i n ns more h

  opens_items : (most : ℕ) (is : Items) (ns : Open) (more : List Mark) → depths is + length ns ≤ most
      → opens_at_most most (items_marks is ++ more) (closed (item_count is ∷ ns)) ≡ opens_at_most most more (closed ns)
  opens_items most no_items ns more h = refl
  opens_items most (more_items i is) ns more h =
      ap (λ ms. opens_at_most most ms (suc (item_count is) ∷ ns)) (append_assoc (item_marks i) (items_marks is) more)
      ∙ opens_item most i (item_count is) ns (items_marks is ++ more) (omega arith) ∙ opens_items most is ns more (omega arith)

  opens_pairs : (most : ℕ) (ps : Pairs) (ns : Open) (more : List Mark) → pairs_depth ps + length ns ≤ most
      → opens_at_most most (pairs_marks ps ++ more) (closed (2 * pair_count ps ∷ ns)) ≡ opens_at_most most more (closed ns)
  opens_pairs most no_pairs ns more h = refl
  opens_pairs most (more_pairs k v ps) ns more h =
      ap (λ n. opens_at_most most (pairs_marks (more_pairs k v ps) ++ more) (closed (n ∷ ns))) (twice_more (pair_count ps))
      ∙ ap (λ ms. opens_at_most most ms (suc (suc (2 * pair_count ps)) ∷ ns)) (append_assoc (item_marks k ++ item_marks v) (pairs_marks ps) more ∙ append_assoc (item_marks k) (item_marks v) (pairs_marks ps ++ more))
      ∙ opens_item most k (suc (2 * pair_count ps)) ns (item_marks v ++ (pairs_marks ps ++ more)) (omega arith)
      ∙ opens_item most v (2 * pair_count ps) ns (pairs_marks ps ++ more) (omega arith) ∙ opens_pairs most ps ns more (omega arith)

-- Nothing is still to come after a whole item.
pub after-whole : (i : Item) → after_marks (item_marks i) at_start ≡ []
after-whole i = ap (λ ms. after_marks ms at_start) (sym (append-nil (item_marks i))) ∙ after_item i 0 [] []

pub opens-whole : (most : ℕ) (i : Item) → depth i ≤ most → opens_at_most most (item_marks i) at_start ≡ true
opens-whole most i h = ap (λ ms. opens_at_most most ms at_start) (sym (append-nil (item_marks i))) ∙ opens_item most i 0 [] [] (omega arith)

-- what the next head opens, where all heads open at most so many
pub opens-next : (most : ℕ) (ms : List Mark) (m : Mark) (more : List Mark) (ns : Open) → opens_at_most most (ms ++ m ∷ more) ns ≡ true → open_at m (after_marks ms ns) ≤ most
opens-next most [] m more ns h = leb-true (open_at m ns) most (both (nat_le (open_at m ns) most) _ h)
  where
    both : (b a : Bool) → (b && a) ≡ true → b ≡ true
    both true a g = refl
    both false a g = cc
opens-next most (k ∷ ms) m more ns h = opens-next most ms m more (after_mark k ns) (other (nat_le (open_at k ns) most) _ h)
  where
    other : (b a : Bool) → (b && a) ≡ true → a ≡ true
    other true a g = g
    other false a g = cc
