-- What shifting keeps, and how shifts go together.
use Rattle.std.specs.Prelude.{◌≡◌, ℕ, suc, true, false, cond}
use Rattle.dh_syntax.specs.Expressions.Nesting.{nesting}
use Rattle.dh_syntax.specs.Expressions.Numbers.{le, bytes_eq}
use Rattle.dh_syntax.specs.Names.Subst.{reindexed, shift_up, shift_down, is_free}
use Rattle.dh_syntax.specs.Expressions.Tree.{Name, Term}

-- the index of `y@k` after shifting up at x from m
abbrev pub index_up : Name → ℕ → Name → ℕ → ℕ
index_up x m y k = (reindexed (λ i. suc i) x m (record { name = y; index = k })).index

-- Shifting up changes no nesting.
abbrev pub ShiftUpNesting : Type 0
ShiftUpNesting = (x : Name) (m : ℕ) (e : Term) → nesting (shift_up x m e) ≡ nesting e

-- Shifting down changes no nesting.
abbrev pub ShiftDownNesting : Type 0
ShiftDownNesting = (x : Name) (m : ℕ) (e : Term) → nesting (shift_down x m e) ≡ nesting e

-- Shifting down undoes shifting up.
abbrev pub DownUndoesUp : Type 0
DownUndoesUp = (x : Name) (m : ℕ) (e : Term) → shift_down x m (shift_up x m e) ≡ e

-- Shifting up undoes shifting down, where the variable that would be lost is not free.
abbrev pub UpUndoesDown : Type 0
UpUndoesDown = (x : Name) (m : ℕ) (e : Term) → is_free x m e ≡ false → shift_up x m (shift_down x m e) ≡ e

-- After shifting up at x from m, the variable `x@m` is not free.
abbrev pub NotFreeAfterUp : Type 0
NotFreeAfterUp = (x : Name) (m : ℕ) (e : Term) → is_free x m (shift_up x m e) ≡ false

-- A shifted variable is free in the shifted expression exactly where the variable is free in the expression.
abbrev pub FreeAfterUp : Type 0
FreeAfterUp = (x : Name) (m : ℕ) (y : Name) (k : ℕ) (e : Term) → is_free y (index_up x m y k) (shift_up x m e) ≡ is_free y k e

-- Two shifts up can be exchanged. Where they are at one name, the shift from the greater number is from one more after the other.
abbrev pub ShiftsExchange : Type 0
ShiftsExchange =
    (x y : Name) (m k : ℕ) (e : Term) → (bytes_eq x y ≡ true → le k m ≡ true)
    → shift_up x (cond (bytes_eq x y) (suc m) m) (shift_up y k e) ≡ shift_up y k (shift_up x m e)
