-- Worked examples of bytes that nest too deep.
use Rattle.std.specs.Prelude.{◌≡◌, ◌≤◌, ℕ, zero, suc, true, false, List, [], ◌∷◌, map, take, drop, Err, refl}
use Rattle.std.proofs.Common.{inl, inr, lit<}
use Rattle.dh_syntax.specs.declared.faults.DecodeFault.TheVariants as fault
use Rattle.dh_syntax.specs.Bytes.BinaryFaults.{NestsTooDeep, OpensTooMany, DecodesTo}
use Rattle.dh_syntax.specs.Limits.{most_open_items}
use Rattle.dh_syntax.specs.Bytes.BinaryHeads as head
use Rattle.dh_syntax.specs.Bytes.BinaryItems.{Item, item_marks, at_start, after_marks, open_at, opens_at_most}
use Rattle.dh_syntax.specs.Bytes.BinaryRead.{Reads}
use Rattle.dh_examples.specs.Bytes.ExampleBytes.{u, array}
use Rattle.dh_syntax.specs.Expressions.Nesting.{nesting}
use Rattle.dh_examples.specs.Vocabulary.{assert, underscore, var}
use Rattle.dh_syntax.specs.Expressions.Tree.{Term}

-- `assert : _`, so many times
abbrev deep_item : ℕ → Item
deep_item zero = u 0
deep_item (suc n) = array (u 19 ∷ deep_item n ∷ [])

abbrev deep : ℕ → Term
deep zero = var underscore 0
deep (suc n) = assert (deep n)

abbrev deep_bytes : ℕ → List ℕ
deep_bytes zero = 0 ∷ []
deep_bytes (suc n) = 0x82 ∷ 0x13 ∷ deep_bytes n

nests_deep : DecodesTo (deep_bytes 501) (Err fault.TooNested)
nests_deep = inr (record { e = deep 501; whole = record { item = deep_item 501; begins = refl; is_expression = refl; within = refl }; deep = lit< tt })

-- one level less is no fault
nests_deeper : (bytes : List ℕ) (p : NestsTooDeep bytes) → 501 ≤ nesting p.e
nests_deeper bytes p = p.deep

reads_no_deeper : (bytes : List ℕ) (e : Term) → Reads bytes e → nesting e ≤ 500
reads_no_deeper bytes e (i, h, x, n) = n

-- 1,100 arrays may stand open
opens_within : opens_at_most most_open_items (item_marks (deep_item 1100)) at_start ≡ true
opens_within = refl

opens_without : opens_at_most most_open_items (item_marks (deep_item 1101)) at_start ≡ false
opens_without = refl

opens_more : (bytes : List ℕ) (p : OpensTooMany bytes) → 1101 ≤ open_at p.mark (after_marks p.ms at_start)
opens_more bytes p = p.too_many

-- an array and a map count alike, with those around them
open_arrays : map (λ ns. open_at (head.array 2) ns ∷ open_at (head.map 2) ns ∷ open_at (head.tag 2) ns ∷ []) ((1 ∷ []) ∷ (1 ∷ 0 ∷ []) ∷ (3 ∷ 1 ∷ 0 ∷ []) ∷ [])
    ≡ (1 ∷ 1 ∷ 0 ∷ []) ∷ (2 ∷ 2 ∷ 0 ∷ []) ∷ (3 ∷ 3 ∷ 0 ∷ []) ∷ []
open_arrays = refl

-- the 1,101st array opens while the others stand open
opens_many : DecodesTo (deep_bytes 1101) (Err fault.TooNested)
opens_many = inl (record {
  ms = take 2200 (item_marks (deep_item 1101));
  after = deep_bytes 1;
  mark = head.array 2;
  rest = 0x13 ∷ 0 ∷ [];
  reached = record { begins = refl; sound = (drop 2200 (item_marks (deep_item 1101)), deep_item 1101, deep 1101, refl, refl); unfinished = refl; within = refl };
  next = refl;
  sound = (drop 2201 (item_marks (deep_item 1101)), deep_item 1101, deep 1101, refl, refl);
  too_many = lit< tt;
})
