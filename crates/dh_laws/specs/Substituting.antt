-- What substitution keeps, and how it goes together with shifts and other substitutions.
use Rattle.std.specs.Prelude.{◌≡◌, ◌≤◌, ◌+◌, ℕ, false, ◌&&◌}
use Rattle.dh_syntax.specs.Expressions.Nesting.{nesting}
use Rattle.dh_syntax.specs.Expressions.Numbers.{eq, bytes_eq}
use Rattle.dh_syntax.specs.Names.Subst.{under, shift_up, shift_down, subst, is_free}
use Rattle.dh_syntax.specs.Expressions.Tree.{Leaf, Name, Var, Term}
use Rattle.dh_laws.specs.Shifting.{index_up}

-- `b` with `a` for the variable of a binder of y, which is taken away: what `(λ(y : T) → b) a` becomes (the standard's "β-normalization", "Functions")
abbrev pub put : Name → Term → Term → Term
put y a b = shift_down y 0 (subst y 0 (shift_up y 0 a) b)

-- Substitution for a variable that is not free changes nothing.
abbrev pub SubstNotFree : Type 0
SubstNotFree = (x : Name) (n : ℕ) (a e : Term) → is_free x n e ≡ false → subst x n a e ≡ e

-- A variable for which was substituted is not free, unless it is free in what was put for it.
abbrev pub NotFreeAfterSubst : Type 0
NotFreeAfterSubst = (x : Name) (n : ℕ) (a e : Term) → is_free x n a ≡ false → is_free x n (subst x n a e) ≡ false

-- What is put for a variable adds at most its own nesting.
abbrev pub SubstNesting : Type 0
SubstNesting = (x : Name) (n : ℕ) (a e : Term) → nesting (subst x n a e) ≤ nesting e + nesting a

-- Putting a variable for a variable changes no nesting.
abbrev pub SubstVariableNesting : Type 0
SubstVariableNesting = (x : Name) (n : ℕ) (v : Var) (e : Term) → nesting (subst x n (Leaf v) e) ≡ nesting e

-- Substitutions for two variables can be exchanged, where the second variable is not free in what is put for the first.
abbrev pub SubstOfSubst : Type 0
SubstOfSubst =
    (x : Name) (n : ℕ) (a : Term) (y : Name) (k : ℕ) (b e : Term) → (bytes_eq x y && eq n k) ≡ false → is_free y k a ≡ false
    → subst x n a (subst y k b e) ≡ subst y k (subst x n a b) (subst x n a e)

-- Shifting up what was substituted into is substitution into what was shifted up.
abbrev pub ShiftUpOfSubst : Type 0
ShiftUpOfSubst =
    (y : Name) (k : ℕ) (x : Name) (n : ℕ) (a e : Term) → shift_up y k (subst x n a e) ≡ subst x (index_up y k x n) (shift_up y k a) (shift_up y k e)

-- Shifting up and putting an argument for the variable of a binder can be exchanged.
abbrev pub ShiftUpOfPut : Type 0
ShiftUpOfPut =
    (x : Name) (m : ℕ) (y : Name) (a b : Term) → shift_up x m (put y a b) ≡ put y (shift_up x m a) (shift_up x (under x y m) b)

-- Substitution and putting an argument for the variable of a binder can be exchanged.
abbrev pub SubstOfPut : Type 0
SubstOfPut =
    (x : Name) (n : ℕ) (d : Term) (y : Name) (a b : Term) → subst x n d (put y a b) ≡ put y (subst x n d a) (subst x (under x y n) (shift_up y 0 d) b)
