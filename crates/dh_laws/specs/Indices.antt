-- How far indices reach, and what keeps them so.
use Rattle.std.specs.Prelude.{◌+◌, ◌≤◌, ℕ, suc, List, [], ◌∷◌, Option}
use Rattle.dh_syntax.specs.Names.Alpha.{alpha}
use Rattle.dh_syntax.specs.Names.Indices.{IndicesBelow, with_binder, FreeIndicesBelow}
use Rattle.dh_syntax.specs.Expressions.Nesting.{nesting}
use Rattle.dh_syntax.specs.Names.Subst.{put_under, shift_up, subst}
use Rattle.dh_syntax.specs.Expressions.Tree.{Name, Term}
use Rattle.dh_laws.specs.Substituting.{put}

-- Indices that are below a limit are below it and the number of binders together, and the other way round these are below the limit and the nesting together.
abbrev pub IndicesAtFirst : Type 0
IndicesAtFirst = (l : ℕ) (ys : List Name) (e : Term) → IndicesBelow l e → FreeIndicesBelow l ys e

-- Where free indices are below a limit, all indices are below that limit and the nesting.
abbrev pub IndicesAtLast : Type 0
IndicesAtLast = (l : ℕ) (e : Term) → FreeIndicesBelow l [] e → IndicesBelow (nesting e + l) e

-- Indices that are below a limit are below a greater one.
abbrev pub IndicesBelowMore : Type 0
IndicesBelowMore = (l k : ℕ) (ys : List Name) (e : Term) → l ≤ k → FreeIndicesBelow l ys e → FreeIndicesBelow k ys e

-- Putting an expression below one more binder keeps the limit.
abbrev pub IndicesPutUnder : Type 0
IndicesPutUnder = (l : ℕ) (ys : List Name) (b : Option Name) (a : Term) → FreeIndicesBelow l ys a → FreeIndicesBelow l (with_binder b ys) (put_under b a)

-- Any other shift up raises the limit by at most one.
abbrev pub IndicesOfShiftUp : Type 0
IndicesOfShiftUp = (l : ℕ) (ys : List Name) (x : Name) (m : ℕ) (e : Term) → FreeIndicesBelow l ys e → FreeIndicesBelow (suc l) ys (shift_up x m e)

-- Substitution keeps the limit.
abbrev pub IndicesOfSubst : Type 0
IndicesOfSubst = (l : ℕ) (ys : List Name) (x : Name) (n : ℕ) (a e : Term) → FreeIndicesBelow l ys a → FreeIndicesBelow l ys e → FreeIndicesBelow l ys (subst x n a e)

-- Putting an argument for the variable of a binder keeps the limit.
abbrev pub IndicesOfPut : Type 0
IndicesOfPut = (l : ℕ) (ys : List Name) (y : Name) (a b : Term) → FreeIndicesBelow l ys a → FreeIndicesBelow l (y ∷ ys) b → FreeIndicesBelow l ys (put y a b)

-- The α-normal form keeps the limit.
abbrev pub IndicesOfAlpha : Type 0
IndicesOfAlpha = (l : ℕ) (ys : List Name) (e : Term) → FreeIndicesBelow l ys e → FreeIndicesBelow l ys (alpha e)
