-- Which item begins with a head, and which array or map with several.
use Rattle.std.specs.Prelude.{◌≡◌, ℕ, suc, List, [], ◌∷◌, ◌++◌, refl}
use Rattle.std.proofs.Common.{sym, ◌∙◌, ap}
use Rattle.std.proofs.lemmas.List.{append_assoc, append-nil}
use Rattle.dh_syntax.specs.Bytes.BinaryHeads.{Atom, Mark, atom, array, map, tag}
use Rattle.dh_syntax.specs.Bytes.BinaryItems.{Item, single, array_of, map_of, tagged, Items, no_items, more_items, Pairs, no_pairs, more_pairs, item_count, pair_count, item_marks, items_marks, pairs_marks}

pub first_atom : (a : Atom) (i : Item) (r ms : List Mark) → item_marks i ++ r ≡ atom a ∷ ms → (i ≡ single a) × (r ≡ ms)
first_atom a (single c) r ms h = (cc, cc)
first_atom a (array_of is) r ms h = cc
first_atom a (map_of ps) r ms h = cc
first_atom a (tagged t i) r ms h = cc

pub first_array : (n : ℕ) (i : Item) (r ms : List Mark) → item_marks i ++ r ≡ array n ∷ ms → (is : Items) × (i ≡ array_of is) × (item_count is ≡ n) × (items_marks is ++ r ≡ ms)
first_array n (single c) r ms h = cc
first_array n (array_of is) r ms h = (is, refl, cc, cc)
first_array n (map_of ps) r ms h = cc
first_array n (tagged t i) r ms h = cc

pub first_map : (n : ℕ) (i : Item) (r ms : List Mark) → item_marks i ++ r ≡ map n ∷ ms → (ps : Pairs) × (i ≡ map_of ps) × (pair_count ps ≡ n) × (pairs_marks ps ++ r ≡ ms)
first_map n (single c) r ms h = cc
first_map n (array_of is) r ms h = cc
first_map n (map_of ps) r ms h = (ps, refl, cc, cc)
first_map n (tagged t i) r ms h = cc

pub first_tag : (n : ℕ) (i : Item) (r ms : List Mark) → item_marks i ++ r ≡ tag n ∷ ms → (j : Item) × (i ≡ tagged n j) × (item_marks j ++ r ≡ ms)
first_tag n (single c) r ms h = cc
first_tag n (array_of is) r ms h = cc
first_tag n (map_of ps) r ms h = cc
first_tag n (tagged t i) r ms h = (i, cc, cc)

-- the first item of an array that has one
pub first_item : (n : ℕ) (is : Items) (r ms : List Mark) → item_count is ≡ suc n → items_marks is ++ r ≡ ms
    → (i : Item) × (js : Items) × (is ≡ more_items i js) × (item_count js ≡ n) × (item_marks i ++ (items_marks js ++ r) ≡ ms)
first_item n no_items r ms c h = cc
first_item n (more_items i js) r ms c h = (i, js, refl, cc, (sym (append_assoc (item_marks i) (items_marks js) r) ∙ h))

pub no_item : (is : Items) → item_count is ≡ 0 → is ≡ no_items
no_item no_items c = refl
no_item (more_items i is) c = cc

-- the first pair of a map that has one
pub first_pair : (n : ℕ) (ps : Pairs) (r ms : List Mark) → pair_count ps ≡ suc n → pairs_marks ps ++ r ≡ ms
    → (k v : Item) × (qs : Pairs) × (ps ≡ more_pairs k v qs) × (pair_count qs ≡ n) × (item_marks k ++ (item_marks v ++ (pairs_marks qs ++ r)) ≡ ms)
first_pair n no_pairs r ms c h = cc
first_pair n (more_pairs k v qs) r ms c h =
    (k, v, qs, refl, cc, (sym (ap (λ xs. item_marks k ++ xs) (append_assoc (item_marks v) (pairs_marks qs) r)) ∙ sym (append_assoc (item_marks k) (item_marks v ++ pairs_marks qs) r) ∙ ap (λ xs. xs ++ r) (sym (append_assoc (item_marks k) (item_marks v) (pairs_marks qs))) ∙ h))

pub no_pair : (ps : Pairs) → pair_count ps ≡ 0 → ps ≡ no_pairs
no_pair no_pairs c = refl
no_pair (more_pairs k v ps) c = cc

-- a whole item by its first head
pub is_atom : (a : Atom) (i : Item) (ms : List Mark) → item_marks i ≡ atom a ∷ ms → i ≡ single a
is_atom a i ms h = (first_atom a i [] ms (append-nil (item_marks i) ∙ h)).0

pub is_tagged_atom : (n : ℕ) (a : Atom) (i : Item) (ms : List Mark) → item_marks i ≡ tag n ∷ atom a ∷ ms → i ≡ tagged n (single a)
is_tagged_atom n a i ms h =
    let (j, p, h₁) = first_tag n i [] (atom a ∷ ms) (append-nil (item_marks i) ∙ h) in
    let q = (first_atom a j [] ms h₁).0 in
    cc

pub is_tagged : (n : ℕ) (i : Item) (ms : List Mark) → item_marks i ≡ tag n ∷ ms → (j : Item) × (i ≡ tagged n j)
is_tagged n i ms h = let (j, p, h₁) = first_tag n i [] ms (append-nil (item_marks i) ∙ h) in (j, p)

pub is_map : (n : ℕ) (i : Item) (ms : List Mark) → item_marks i ≡ map n ∷ ms → (ps : Pairs) × (i ≡ map_of ps)
is_map n i ms h = let (ps, p, c, h₁) = first_map n i [] ms (append-nil (item_marks i) ∙ h) in (ps, p)

-- the only item of an array of one
pub only_item : (is : Items) (ms : List Mark) → item_count is ≡ 1 → items_marks is ++ [] ≡ ms → (i : Item) × (is ≡ more_items i no_items) × (item_marks i ≡ ms)
only_item no_items ms c h = cc
only_item (more_items i no_items) ms c h = (i, refl, sym (append-nil (item_marks i)) ∙ sym (append-nil (item_marks i ++ [])) ∙ h)
only_item (more_items i (more_items j js)) ms c h = cc

-- an array of two items, the first of them a single one
pub is_pair : (a : Atom) (i : Item) (ms : List Mark) → item_marks i ≡ array 2 ∷ atom a ∷ ms
    → (j : Item) × (i ≡ array_of (more_items (single a) (more_items j no_items))) × (item_marks j ≡ ms)
is_pair a i ms h =
    let (is, p, c, h₁) = first_array 2 i [] (atom a ∷ ms) (append-nil (item_marks i) ∙ h) in
    let (j, js, q, c₁, h₂) = first_item 1 is [] (atom a ∷ ms) c h₁ in
    let (r, h₃) = first_atom a j (items_marks js ++ []) ms h₂ in
    let (k, s, h₄) = only_item js ms c₁ h₃ in
    (k, cc, h₄)

-- an array of no item, and of one
pub is_empty_array : (i : Item) (ms : List Mark) → item_marks i ≡ array 0 ∷ ms → i ≡ array_of no_items
is_empty_array i ms h =
    let (is, p, c, h₁) = first_array 0 i [] ms (append-nil (item_marks i) ∙ h) in
    let q = no_item is c in
    cc

pub is_array_of_one : (i : Item) (ms : List Mark) → item_marks i ≡ array 1 ∷ ms → (j : Item) × (i ≡ array_of (more_items j no_items))
is_array_of_one i ms h =
    let (is, p, c, h₁) = first_array 1 i [] ms (append-nil (item_marks i) ∙ h) in
    let (j, q, h₂) = only_item is ms c h₁ in
    (j, cc)

-- a map of two pairs whose keys, and the first of whose values, are single items
pub is_map_of_two : (a v c : Atom) (i : Item) (ms : List Mark) → item_marks i ≡ map 2 ∷ atom a ∷ atom v ∷ atom c ∷ ms
    → (j : Item) × (i ≡ map_of (more_pairs (single a) (single v) (more_pairs (single c) j no_pairs)))
is_map_of_two a v c i ms h =
    let (ps, p, n, h₁) = first_map 2 i [] (atom a ∷ atom v ∷ atom c ∷ ms) (append-nil (item_marks i) ∙ h) in
    let (k₁, v₁, qs, q, n₁, h₂) = first_pair 1 ps [] (atom a ∷ atom v ∷ atom c ∷ ms) n h₁ in
    let (e₁, h₃) = first_atom a k₁ (item_marks v₁ ++ (pairs_marks qs ++ [])) (atom v ∷ atom c ∷ ms) h₂ in
    let (e₂, h₄) = first_atom v v₁ (pairs_marks qs ++ []) (atom c ∷ ms) h₃ in
    let (k₂, v₂, rs, s, n₂, h₅) = first_pair 0 qs [] (atom c ∷ ms) n₁ h₄ in
    let e₃ = (first_atom c k₂ (item_marks v₂ ++ (pairs_marks rs ++ [])) ms h₅).0 in
    let z = no_pair rs n₂ in
    (v₂, cc)
