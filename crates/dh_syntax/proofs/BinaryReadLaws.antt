-- No bytes are two expressions: heads that are those of one item are those of no other, and bytes have one list of heads.
use Rattle.std.specs.Prelude.{◌≡◌, ℕ, zero, suc, Bool, false, List, [], ◌∷◌, ◌++◌, length, Some, Result, Ok, Err, refl}
use Rattle.std.proofs.Common.{sym, ◌∙◌, ap, subst}
use Rattle.std.proofs.lemmas.List.{append_assoc, append-nil}
use Rattle.dh_syntax.specs.Bytes.BinaryFaults.{CanGoOn}
use Rattle.dh_syntax.specs.Bytes.BinaryHeads.{HeadFault, Mark, Marked, Begun, begun, begun_by, before_begun, mark_at}
use Rattle.dh_syntax.specs.Bytes.BinaryItems.{Item, single, array_of, map_of, tagged, Items, no_items, more_items, Pairs, no_pairs, more_pairs, item_count, pair_count, item_marks, items_marks, pairs_marks}
use Rattle.dh_syntax.specs.Bytes.BinaryRead.{expression, Reads}
use Rattle.dh_syntax.specs.Expressions.Tree.{Term}
use Rattle.dh_syntax.proofs.BinaryHeadsOf.{first_atom, first_array, first_map, first_tag}

-- ---- heads of one item

-- two runs of heads, one after another in each of two lists
after_both : {A B : Type 0} (f : A → List Mark) (g : B → List Mark) (a c : A) (b d : B) (r s : List Mark)
    → ((x y : List Mark) → f a ++ x ≡ f c ++ y → (a ≡ c) × (x ≡ y)) → (g b ++ r ≡ g d ++ s → (b ≡ d) × (r ≡ s))
    → f a ++ g b ++ r ≡ f c ++ g d ++ s → (a ≡ c) × (b ≡ d) × (r ≡ s)
after_both f g a c b d r s first second h =
    let (p, h₁) = first (g b ++ r) (g d ++ s) (sym (append_assoc (f a) (g b) r) ∙ h ∙ append_assoc (f c) (g d) s) in
    let (q, h₂) = second h₁ in
    (p, q, h₂)

mutual
  pub same_item : (i j : Item) (r s : List Mark) → item_marks i ++ r ≡ item_marks j ++ s → (i ≡ j) × (r ≡ s)
  same_item (single a) j r s h = let (p, q) = first_atom a j s r (sym h) in (sym p, sym q)
  same_item (array_of is) j r s h =
      let (js, p, c, h₁) = first_array (item_count is) j s (items_marks is ++ r) (sym h) in
      let (q, t) = same_items is js r s (sym c) (sym h₁) in
      (ap array_of q ∙ sym p, t)
  same_item (map_of ps) j r s h =
      let (qs, p, c, h₁) = first_map (pair_count ps) j s (pairs_marks ps ++ r) (sym h) in
      let (q, t) = same_pairs ps qs r s (sym c) (sym h₁) in
      (ap map_of q ∙ sym p, t)
  same_item (tagged n i) j r s h =
      let (k, p, h₁) = first_tag n j s (item_marks i ++ r) (sym h) in
      let (q, t) = same_item i k r s (sym h₁) in
      (ap (tagged n) q ∙ sym p, t)

  pub same_items : (is js : Items) (r s : List Mark) → item_count is ≡ item_count js → items_marks is ++ r ≡ items_marks js ++ s → (is ≡ js) × (r ≡ s)
  same_items no_items no_items r s c h = (refl, h)
  same_items no_items (more_items j js) r s c h = cc
  same_items (more_items i is) no_items r s c h = cc
  same_items (more_items i is) (more_items j js) r s c h =
      let (p, q, t) = after_both item_marks items_marks i j is js r s (λ x y. same_item i j x y) (λ h₁. same_items is js r s (cc) h₁) h in
      (cc, t)

  pub same_pairs : (ps qs : Pairs) (r s : List Mark) → pair_count ps ≡ pair_count qs → pairs_marks ps ++ r ≡ pairs_marks qs ++ s → (ps ≡ qs) × (r ≡ s)
  same_pairs no_pairs no_pairs r s c h = (refl, h)
  same_pairs no_pairs (more_pairs k v qs) r s c h = cc
  same_pairs (more_pairs k v ps) no_pairs r s c h = cc
  same_pairs (more_pairs k v ps) (more_pairs l w qs) r s c h =
      let x : List Mark = pairs_marks ps ++ r in
      let y : List Mark = pairs_marks qs ++ s in
      let h₁ = sym (append_assoc (item_marks k ++ item_marks v) (pairs_marks ps) r) ∙ h ∙ append_assoc (item_marks l ++ item_marks w) (pairs_marks qs) s in
      let (p, q, h₂) = after_both item_marks item_marks k l v w x y (λ x y. same_item k l x y) (λ h₂. same_item v w x y h₂) h₁ in
      let (t, u) = same_pairs ps qs r s (cc) h₂ in
      (cc, u)

-- Items with the same heads are one.
pub item_marks-one_to_one : (i j : Item) → item_marks i ≡ item_marks j → i ≡ j
item_marks-one_to_one i j h = (same_item i j [] [] (append-nil (item_marks i) ∙ h ∙ sym (append-nil (item_marks j)))).0

-- ---- bytes

abbrev pub marks_in : Result Begun HeadFault → List Mark
marks_in (Ok b) = b.marks
marks_in (Err f) = []

abbrev pub after_in : Result Begun HeadFault → List ℕ
after_in (Ok b) = b.after
after_in (Err f) = []

-- these heads take all bytes
abbrev TakesAll : Result Begun HeadFault → List Mark → Type 0
TakesAll r ms = r ≡ Ok (record { marks = ms; after = [] })

both_before : (m : Mark) (p q : Result Begun HeadFault) (ms ns : List Mark) → TakesAll (before_begun m p) ms → TakesAll (before_begun m q) ns
    → ((xs ys : List Mark) → TakesAll p xs → TakesAll q ys → xs ≡ ys) → ms ≡ ns
both_before m (Ok a) (Ok b) ms ns h g same =
    let x : Begun → List ℕ → Result Begun HeadFault = λ c after. Ok (record { marks = c.marks; after = after }) in
    sym (ap marks_in h) ∙ ap (λ xs. m ∷ xs) (same a.marks b.marks (ap (x a) (ap after_in h)) (ap (x b) (ap after_in g))) ∙ ap marks_in g
both_before m (Ok a) (Err f) ms ns h g same = cc
both_before m (Err f) q ms ns h g same = cc

both_by : (r : Result Marked HeadFault) (p q : List ℕ → Result Begun HeadFault) (ms ns : List Mark) → TakesAll (begun_by r p) ms → TakesAll (begun_by r q) ns
    → ((after : List ℕ) (xs ys : List Mark) → TakesAll (p after) xs → TakesAll (q after) ys → xs ≡ ys) → ms ≡ ns
both_by (Ok m) p q ms ns h g same = both_before m.mark (p m.after) (q m.after) ms ns h g (same m.after)
both_by (Err f) p q ms ns h g same = cc

-- bytes whose heads take all of them have no other heads that do
whole_heads : (k l : ℕ) (bytes : List ℕ) (ms ns : List Mark) → TakesAll (begun k bytes) ms → TakesAll (begun l bytes) ns → ms ≡ ns
whole_heads zero zero bytes ms ns h g = sym (ap marks_in h) ∙ ap marks_in g
whole_heads zero (suc l) [] ms ns h g = cc
whole_heads zero (suc l) (b ∷ bs) ms ns h g = let e = ap after_in h in cc
whole_heads (suc k) zero [] ms ns h g = cc
whole_heads (suc k) zero (b ∷ bs) ms ns h g = let e = ap after_in g in cc
whole_heads (suc k) (suc l) bytes ms ns h g = both_by (mark_at bytes) (begun k) (begun l) ms ns h g (λ after xs ys. whole_heads k l after xs ys)

-- No bytes are two expressions.
pub reads-unique : (bytes : List ℕ) (e f : Term) → Reads bytes e → Reads bytes f → e ≡ f
reads-unique bytes e f (i, h, x, n) (j, g, y, m) =
    let p = whole_heads (length (item_marks i)) (length (item_marks j)) bytes (item_marks i) (item_marks j) h g in
    let q = item_marks-one_to_one i j p in
    let z : expression false i ≡ Some f = subst (λ k. expression false k ≡ Some f) (sym q) y in
    cc

-- ---- what can go on

-- Heads that can go on could go on before the last of them.
pub goes_on_before : (beyond : Bool) (ms ns : List Mark) → CanGoOn beyond (ms ++ ns) → CanGoOn beyond ms
goes_on_before beyond ms ns (more, i, e, h, x) = (ns ++ more, i, e, h ∙ append_assoc ms ns more, x)
