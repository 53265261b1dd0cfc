-- A label of 2^64 bytes is not read back: its head says that it has none. So what is written must be shorter.
use Rattle.std.specs.Prelude.{◌≡◌, ℕ, ◌^◌, nat_lt, true, false, if◌then◌else◌, Bool, List, [], ◌∷◌, ◌++◌, length, None, Ok, Err, refl}
use Rattle.std.proofs.Common.{◌∙◌, ap, subst, arith}
use Rattle.std.proofs.lemmas.Bool.{ltb-true}
use Rattle.dh_syntax.specs.declared.faults.DecodeFault.TheVariants as fault
use Rattle.dh_syntax.specs.declared.expressions.Op.TheVariants as ops
use Rattle.dh_syntax.specs.Bytes.Binary.{enc}
use Rattle.dh_syntax.specs.Bytes.BinaryFaults.{DecodesTo, offset}
use Rattle.dh_syntax.specs.Bytes.BinaryHeads.{unsigned, characters, simple, atom, array, cut, marked, mark_at, mark_by}
use Rattle.dh_syntax.specs.Bytes.BinaryItems.{Item, single, array_of, no_items, more_items}
use Rattle.dh_syntax.specs.Bytes.BinaryRead.{Reads, Begins}
use Rattle.dh_syntax.specs.Bytes.Cbor.{head}
use Rattle.dh_syntax.specs.Expressions.Tree.{Node, end, kid, Name, Term}
use Rattle.dh_syntax.proofs.BinaryFaultLaws.{decodes-unique}
use Rattle.dh_binary.proofs.HeadBytes.{long}
use Rattle.dh_binary.proofs.ItemRead.{read_mark, begun_mark}

abbrev field : Name → Term
field x = Node (ops.Field x) (kid None (Node (ops.Bool true) end) end)

abbrev zeros : List ℕ
zeros = 0 ∷ 0 ∷ 0 ∷ 0 ∷ 0 ∷ 0 ∷ 0 ∷ 0 ∷ []

abbrev front : List ℕ → List ℕ
front rest = 131 ∷ 9 ∷ 245 ∷ 123 ∷ zeros ++ rest

written : (x : Name) → length x ≡ 2 ^ 64 → enc (field x) ≡ front (x ++ [])
written x h = ap (λ n. 131 ∷ 9 ∷ 245 ∷ (head 3 n ++ x) ++ []) h

never_less : (n : ℕ) → nat_lt n 0 ≡ false
never_less n = by (nat_lt n 0) refl
  where
    by : (c : Bool) → nat_lt n 0 ≡ c → c ≡ false
    by true e = let h = ltb-true n 0 e in absurd (omega arith)
    by false e = refl

empty_label : (rest : List ℕ) → mark_at (123 ∷ zeros ++ rest) ≡ Ok (read_mark (atom (characters [])) rest)
empty_label rest =
    ap mark_by (long 3 8 zeros rest 0 (omega arith) (omega arith) refl refl refl)
    ∙ ap (λ c. if c then Err cut else marked (atom (characters [])) rest) (never_less (length rest))

abbrev read : Item
read = array_of (more_items (single (unsigned 9)) (more_items (single (simple 21)) (more_items (single (characters [])) no_items)))

begins : (rest : List ℕ) → Begins (front rest) (array 3 ∷ atom (unsigned 9) ∷ atom (simple 21) ∷ atom (characters []) ∷ []) rest
begins rest =
    let last : List ℕ = 123 ∷ zeros ++ rest in
    begun_mark (front rest) (array 3) (9 ∷ 245 ∷ last) (atom (unsigned 9) ∷ atom (simple 21) ∷ atom (characters []) ∷ []) rest refl
    (begun_mark (9 ∷ 245 ∷ last) (atom (unsigned 9)) (245 ∷ last) (atom (simple 21) ∷ atom (characters []) ∷ []) rest refl
    (begun_mark (245 ∷ last) (atom (simple 21)) last (atom (characters []) ∷ []) rest refl (begun_mark last (atom (characters [])) rest [] rest (empty_label rest) refl)))

rest_left : (b : ℕ) (bs : List ℕ) → DecodesTo (front (b ∷ bs)) (Err (fault.Rest (offset (front (b ∷ bs)) (b ∷ bs))))
rest_left b bs = record {
  e = field [];
  after = b ∷ bs;
  whole = record { item = read; begins = begins (b ∷ bs); is_expression = refl; within = refl };
  left = λ h. cc;
  place = refl;
}

pub not_read : (x : Name) → length x ≡ 2 ^ 64 → Reads (enc (field x)) (field x) → ⊥
not_read [] h r = cc
not_read (b ∷ bs) h r =
    let g = decodes-unique (front (b ∷ bs ++ [])) (Ok (field (b ∷ bs))) (Err (fault.Rest (offset (front (b ∷ bs ++ [])) (b ∷ bs ++ [])))) (subst (λ c. Reads c (field (b ∷ bs))) (written (b ∷ bs) h) r) (rest_left b (bs ++ [])) in
    cc
