-- The first byte of a head.
use Rattle.std.specs.Prelude.{◌≡◌, ℕ, suc, ◌+◌, ◌*◌, ◌^◌, ◌<◌, ◌≤◌, nat_lt, Bool, true, false, ◌&&◌, if◌then◌else◌, List, [], ◌∷◌, ◌++◌, length, codes, refl}
use Rattle.std.specs.Int.{w16, w32, w64, to_be_bytes}
use Rattle.std.proofs.Common.{sym, ◌∙◌, ap, arith}
use Rattle.std.proofs.lemmas.Bool.{ltb-true, ltb-false}
use Rattle.std.proofs.lemmas.List.{append-nil}
use Rattle.dh_syntax.specs.Bytes.BinaryHeads.{unsigned, negative, octets, characters, simple}
use Rattle.dh_syntax.specs.Bytes.BinaryItems.{Item, single, array_of, map_of, tagged, item_count, pair_count}
use Rattle.dh_syntax.specs.Bytes.Cbor.{head, text}
use Rattle.dh_syntax.specs.Expressions.Numbers.{eq, bytes_eq}
use Rattle.dh_syntax.proofs.Numbers.{eq-true}
use Rattle.dh_binary.specs.ItemBytes.{item_bytes, items_bytes, pairs_bytes}
use Rattle.dh_binary.specs.Written.{is_text}

pub record HeadIs (major n : ℕ) : Type 0 where
  pub low : ℕ
  pub rest : List ℕ
  pub same : head major n ≡ (32 * major + low) ∷ rest
  pub small : low ≤ 27
  pub exact : n < 24 → low ≡ n
  pub long : 24 ≤ n → 24 ≤ low

abbrev head_from : ℕ → ℕ → Bool → Bool → Bool → Bool → List ℕ
head_from major n c d e f = if c then (32 * major + n) ∷ [] else if d then (32 * major + 24) ∷ n ∷ [] else if e then (32 * major + 25) ∷ to_be_bytes w16 n else if f then (32 * major + 26) ∷ to_be_bytes w32 n else (32 * major + 27) ∷ to_be_bytes w64 n

pub head_is : (major n : ℕ) → HeadIs major n
head_is major n = by (nat_lt n 24) (nat_lt n (2 ^ 8)) (nat_lt n (2 ^ 16)) (nat_lt n (2 ^ 32)) refl refl
  where
    by : (c d e f : Bool) → nat_lt n 24 ≡ c → head major n ≡ head_from major n c d e f → HeadIs major n
    by true d e f p q = let h = ltb-true n 24 p in record { low = n; rest = []; same = q; small = omega arith; exact = λ k. refl; long = λ k. absurd (omega arith) }
    by false true e f p q = let h = ltb-false n 24 p in record { low = 24; rest = n ∷ []; same = q; small = omega arith; exact = λ k. absurd (omega arith); long = λ k. omega arith }
    by false false true f p q = let h = ltb-false n 24 p in record { low = 25; rest = to_be_bytes w16 n; same = q; small = omega arith; exact = λ k. absurd (omega arith); long = λ k. omega arith }
    by false false false true p q = let h = ltb-false n 24 p in record { low = 26; rest = to_be_bytes w32 n; same = q; small = omega arith; exact = λ k. absurd (omega arith); long = λ k. omega arith }
    by false false false false p q = let h = ltb-false n 24 p in record { low = 27; rest = to_be_bytes w64 n; same = q; small = omega arith; exact = λ k. absurd (omega arith); long = λ k. omega arith }

unequal : (a b : ℕ) → (a ≡ b → ⊥) → eq a b ≡ false
unequal a b h = by (eq a b) refl
  where
    by : (c : Bool) → eq a b ≡ c → c ≡ false
    by true e = absurd (h (eq-true a b e))
    by false e = refl

-- a head with another first byte begins no such text
differs : (major n : ℕ) (rest : List ℕ) (b : ℕ) (bs : List ℕ) → ((h : HeadIs major n) → 32 * major + h.low ≡ b → ⊥) → bytes_eq (head major n ++ rest) (b ∷ bs) ≡ false
differs major n rest b bs h =
    let g = head_is major n in
    ap (λ xs. bytes_eq (xs ++ rest) (b ∷ bs)) g.same ∙ ap (λ c. c && bytes_eq (g.rest ++ rest) bs) (unequal (32 * major + g.low) b (h g))

no_more : (major n : ℕ) → ((h : HeadIs major n) → 32 * major + h.low ≡ 100 → ⊥) → bytes_eq (head major n) (100 ∷ codes "List") ≡ false
no_more major n h = ap (λ xs. bytes_eq xs (100 ∷ codes "List")) (sym (append-nil (head major n))) ∙ differs major n [] 100 (codes "List") h

and_false : (c : Bool) → (c && false) ≡ false
and_false true = refl
and_false false = refl

abbrev list : List ℕ
list = codes "List"

text_same : (x : List ℕ) → bytes_eq (text x) (100 ∷ list) ≡ bytes_eq x list
text_same [] = refl
text_same (a ∷ []) = sym (and_false (eq a 76))
text_same (a ∷ b ∷ []) = sym (ap (λ c. eq a 76 && c) (and_false (eq b 105)) ∙ and_false (eq a 76))
text_same (a ∷ b ∷ c ∷ []) = sym (ap (λ k. eq a 76 && (eq b 105 && k)) (and_false (eq c 115)) ∙ ap (λ k. eq a 76 && k) (and_false (eq b 105)) ∙ and_false (eq a 76))
text_same (a ∷ b ∷ c ∷ d ∷ []) = refl
text_same (a ∷ b ∷ c ∷ d ∷ e ∷ xs) =
    differs 3 (suc (suc (suc (suc (suc (length xs)))))) (a ∷ b ∷ c ∷ d ∷ e ∷ xs) 100 list (λ h k. too_long _ h (length xs) refl k)
    ∙ sym (ap (λ k. eq a 76 && (eq b 105 && (eq c 115 && k))) (and_false (eq d 116)) ∙ ap (λ k. eq a 76 && (eq b 105 && k)) (and_false (eq c 115)) ∙ ap (λ k. eq a 76 && k) (and_false (eq b 105)) ∙ and_false (eq a 76))
  where
    too_long : (n : ℕ) (h : HeadIs 3 n) (k : ℕ) → n ≡ suc (suc (suc (suc (suc k)))) → 32 * 3 + h.low ≡ 100 → ⊥
    too_long n h k e f = by (nat_lt n 24) refl
      where
        by : (c : Bool) → nat_lt n 24 ≡ c → ⊥
        by true p = let g = h.exact (ltb-true n 24 p) in omega arith
        by false p = let g = h.long (let q = ltb-false n 24 p in omega arith) in omega arith

-- an item is written as the text `List` where it is this text
pub list_same : (i : Item) → bytes_eq (item_bytes i) (text list) ≡ is_text list i
list_same (single (characters x)) = text_same x
list_same (single (unsigned n)) = no_more 0 n (λ h k. let l = h.small in omega arith)
list_same (single (negative n)) = no_more 1 n (λ h k. let l = h.small in omega arith)
list_same (single (octets bs)) = differs 2 (length bs) (bs) 100 list (λ h k. let l = h.small in omega arith)
list_same (single (simple n)) = no_more 7 n (λ h k. let l = h.small in omega arith)
list_same (array_of is) = differs 4 (item_count is) (items_bytes is) 100 list (λ h k. let l = h.small in omega arith)
list_same (map_of ps) = differs 5 (pair_count ps) (pairs_bytes ps) 100 list (λ h k. let l = h.small in omega arith)
list_same (tagged t i) = differs 6 (t) (item_bytes i) 100 list (λ h k. let l = h.small in omega arith)
