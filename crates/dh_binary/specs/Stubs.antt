-- The machine over expressions with their nesting, which puts a stub where one would nest too deep.
use Rattle.std.specs.Prelude.{ℕ, suc, max, true, false, nat_le, nat_lt, if◌then◌else◌, List, [], ◌∷◌, length, Some, None, Result, Ok, Err}
use Rattle.dh_syntax.specs.declared.expressions.Op.TheVariants as ops
use Rattle.dh_syntax.specs.declared.faults.DecodeFault.{DecodeFault}
use Rattle.dh_syntax.specs.declared.faults.DecodeFault.TheVariants as fault
use Rattle.dh_syntax.specs.Bytes.BinaryFaults.{offset}
use Rattle.dh_syntax.specs.Limits.{most_open_items}
use Rattle.dh_syntax.specs.Bytes.BinaryHeads.{HeadFault, Marked, mark_at}
use Rattle.dh_syntax.specs.Expressions.Nesting.{nesting}
use Rattle.dh_syntax.specs.Limits.{most_nesting}
use Rattle.dh_syntax.specs.Expressions.Tree.{Row, Leaf, Node, end, kid, Name, Var, Term}
use Rattle.dh_binary.specs.Machine.{Making, Value, holds, Want, Frame, State, reading, done, after, start}
use Rattle.dh_binary.specs.Verdict.{head_fault, refused, is_stopped, opens_with}

-- an expression and how deep it nests; a stub where that is more than 500
pub record Kept : Type 0 where
  pub expression : Term
  pub nests : ℕ

-- what stands in place of an expression that nests too deep: one that takes no memory
abbrev pub stub : Kept
stub = record { expression = Node (ops.Bool true) end; nests = suc most_nesting }

-- an expression with its nesting, or a stub where it nests too deep
abbrev pub kept : Term → ℕ → Kept
kept e n = if nat_le n most_nesting then record { expression = e; nests = n } else stub

-- an expression with its own nesting, or a stub where that is too deep
abbrev pub cut : Term → Kept
cut e = kept e (nesting e)

-- one more than the greatest nesting of these parts, 0 for none
abbrev pub deepest : List Kept → ℕ
deepest [] = 0
deepest (p ∷ ps) = max (suc p.nests) (deepest ps)

-- the row of these parts, none of which stands under a binder
abbrev pub row : List Kept → Row Var Name
row [] = end
row (p ∷ ps) = kid None p.expression (row ps)

-- the same with one more part that stands under a binder
abbrev pub deepest_with : List Kept → Kept → ℕ
deepest_with [] q = max (suc q.nests) 0
deepest_with (p ∷ ps) q = max (suc p.nests) (deepest_with ps q)

-- the row of these parts with one more at its end, which stands under a binder
abbrev pub row_with : List Kept → Name → Kept → Row Var Name
row_with [] x q = kid (Some x) q.expression end
row_with (p ∷ ps) x q = kid None p.expression (row_with ps x q)

-- expressions with their nesting, each a stub where it nests too deep
abbrev pub stubs : Making Kept
stubs = record {
  leaf = λ v. record { expression = Leaf v; nests = 0 };
  node = λ op ps. kept (Node op (row ps)) (deepest ps);
  under = λ op ps x q. kept (Node op (row_with ps x q)) (deepest_with ps q);
}

-- ---- the answer

-- the answer once a value is read: bytes that are left over, or too deep a nesting, are its fault
abbrev pub finish_kept : List ℕ → List ℕ → Value Kept → Result Term DecodeFault
finish_kept bytes [] (holds p) = if nat_le p.nests most_nesting then Ok p.expression else Err fault.TooNested
finish_kept bytes (b ∷ bs) (holds p) = Err (fault.Rest (offset bytes (b ∷ bs)))
finish_kept bytes a v = Err fault.Memory

-- the answer at a head that can be read, or the reading of the others
abbrev pub judge_kept : (ℕ → List ℕ → State Kept → Result Term DecodeFault) → List ℕ → ℕ → List ℕ → Want → List (Frame Kept) → Marked → Result Term DecodeFault
judge_kept go bytes from a w st m =
    let s = after stubs false m.mark (reading w st) in
    if is_stopped s then Err (refused from (offset bytes a) w (after stubs true m.mark (reading w st)))
    else if nat_lt most_open_items (opens_with m.mark st) then Err fault.TooNested
    else go (offset bytes a) m.after s

-- the answer from the next head on, or the fault of that head
abbrev pub answer_kept : (ℕ → List ℕ → State Kept → Result Term DecodeFault) → List ℕ → ℕ → List ℕ → Want → List (Frame Kept) → Result Marked HeadFault → Result Term DecodeFault
answer_kept go bytes from a w st (Err f) = Err (head_fault f (offset bytes a))
answer_kept go bytes from a w st (Ok m) = judge_kept go bytes from a w st m

-- The reading goes on with so many heads at most: all bytes, the offset of the head before, and the bytes that are left.
abbrev pub decide_kept : ℕ → List ℕ → ℕ → List ℕ → State Kept → Result Term DecodeFault
decide_kept k bytes from a (done v) = finish_kept bytes a v
decide_kept (suc k) bytes from a (reading w st) = answer_kept (λ f r s. decide_kept k bytes f r s) bytes from a w st (mark_at a)
decide_kept k bytes from a s = Err fault.Memory

-- the expression that bytes encode, or why there is none
abbrev pub decoded : List ℕ → Result Term DecodeFault
decoded bytes = decide_kept (suc (length bytes)) bytes 0 bytes start
