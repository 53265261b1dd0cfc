-- What the machine answers on bytes, head by head.
use Rattle.std.specs.Prelude.{ℕ, suc, nat_le, nat_lt, Bool, true, false, if◌then◌else◌, List, [], ◌∷◌, length, Result, Ok, Err}
use Rattle.dh_syntax.specs.declared.faults.DecodeFault.{DecodeFault}
use Rattle.dh_syntax.specs.declared.faults.DecodeFault.TheVariants as fault
use Rattle.dh_syntax.specs.Bytes.BinaryFaults.{offset}
use Rattle.dh_syntax.specs.Limits.{most_open_items}
use Rattle.dh_syntax.specs.Bytes.BinaryHeads.{HeadFault, cut, indefinite, float, foreign_tag, too_wide, Mark, array, map, Marked, mark_at}
use Rattle.dh_syntax.specs.Bytes.BinaryItems.{Open}
use Rattle.dh_syntax.specs.Expressions.Nesting.{nesting}
use Rattle.dh_syntax.specs.Limits.{most_nesting}
use Rattle.dh_syntax.specs.Expressions.Tree.{Term}
use Rattle.dh_binary.specs.Machine.{Value, holds, Want, big_natural, big_integer, Frame, State, reading, done, stopped, after, start}
use Rattle.dh_binary.specs.Inside.Terms.{terms}

-- ---- what stands open

-- how many items are left in each array or map that stands open
abbrev pub lefts : {T : Type 0} → List (Frame T) → Open
lefts [] = 0 ∷ []
lefts (f ∷ st) = f.left ∷ lefts st

-- one more item is left in the innermost open array
abbrev pub one_more : Open → Open
one_more [] = []
one_more (n ∷ ns) = suc n ∷ ns

-- how many items are left in each open array, with the one that is read now
abbrev pub opens : {T : Type 0} → State T → Open
opens (reading w st) = one_more (lefts st)
opens s = []

-- how many arrays and maps stand open where a head opens one more
abbrev pub opens_with : {T : Type 0} → Mark → List (Frame T) → ℕ
opens_with (array n) st = suc (length st)
opens_with (map n) st = suc (length st)
opens_with _ st = 0

-- ---- the answer

-- the fault of a head that cannot be read, at its offset
abbrev pub head_fault : HeadFault → ℕ → DecodeFault
head_fault cut at = fault.Cut at
head_fault indefinite at = fault.Indefinite at
head_fault float at = fault.Float at
head_fault foreign_tag at = fault.Tag at
head_fault too_wide at = fault.Wide at

-- whether the string of a bignum is wanted, which counts from its tag on
abbrev pub is_big : Want → Bool
is_big big_natural = true
is_big (big_integer t) = true
is_big w = false

-- whether a state is stopped
abbrev pub is_stopped : {T : Type 0} → State T → Bool
is_stopped stopped = true
is_stopped s = false

-- a head that is refused: a number that is too wide, or one that fits nowhere
abbrev pub refused : {T : Type 0} → ℕ → ℕ → Want → State T → DecodeFault
refused from at w s = if is_stopped s then fault.Shape at else fault.Wide (if is_big w then from else at)

-- the answer once a value is read: bytes that are left over, or too deep a nesting, are its fault
abbrev pub finish : List ℕ → List ℕ → Value Term → Result Term DecodeFault
finish bytes [] (holds e) = if nat_le (nesting e) most_nesting then Ok e else Err fault.TooNested
finish bytes (b ∷ bs) (holds e) = Err (fault.Rest (offset bytes (b ∷ bs)))
finish bytes a v = Err fault.Memory

-- the answer at a head that can be read, or the reading of the others
abbrev pub judge : (ℕ → List ℕ → State Term → Result Term DecodeFault) → List ℕ → ℕ → List ℕ → Want → List (Frame Term) → Marked → Result Term DecodeFault
judge go bytes from a w st m =
    let s = after terms false m.mark (reading w st) in
    if is_stopped s then Err (refused from (offset bytes a) w (after terms true m.mark (reading w st)))
    else if nat_lt most_open_items (opens_with m.mark st) then Err fault.TooNested
    else go (offset bytes a) m.after s

-- the answer from the next head on, or the fault of that head
abbrev pub answer_at : (ℕ → List ℕ → State Term → Result Term DecodeFault) → List ℕ → ℕ → List ℕ → Want → List (Frame Term) → Result Marked HeadFault → Result Term DecodeFault
answer_at go bytes from a w st (Err f) = Err (head_fault f (offset bytes a))
answer_at go bytes from a w st (Ok m) = judge go bytes from a w st m

-- The reading goes on with so many heads at most: all bytes, the offset of the head before, and the bytes that are left.
abbrev pub decide : ℕ → List ℕ → ℕ → List ℕ → State Term → Result Term DecodeFault
decide k bytes from a (done v) = finish bytes a v
decide (suc k) bytes from a (reading w st) = answer_at (λ f r s. decide k bytes f r s) bytes from a w st (mark_at a)
decide k bytes from a s = Err fault.Memory

-- the expression that bytes encode, or why there is none
abbrev pub verdict : List ℕ → Result Term DecodeFault
verdict bytes = decide (suc (length bytes)) bytes 0 bytes start
