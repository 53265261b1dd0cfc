-- How far the indices of an expression reach, for the condition that each fits its 32 bits.
use Rattle.std.specs.Prelude.{ℕ, ◌+◌, ◌<◌, List, [], ◌∷◌, Option, Some, None}
use Rattle.dh_syntax.specs.Names.Subst.{under}
use Rattle.dh_syntax.specs.Expressions.Tree.{Row, Leaf, Node, end, kid, Name, Var, Term}

-- each index in an expression, or in the parts of a node, is below a limit
abbrev mutual
  -- each index is below a limit
  pub IndicesBelow : ℕ → Term → Type 0
  IndicesBelow l (Leaf v) = v.index < l
  IndicesBelow l (Node op r) = RowIndicesBelow l r

  pub RowIndicesBelow : ℕ → Row Var Name → Type 0
  RowIndicesBelow l end = Unit {0}
  RowIndicesBelow l (kid b e r) = IndicesBelow l e × RowIndicesBelow l r

-- how many of these binders have a name
abbrev pub count : Name → List Name → ℕ
count x [] = 0
count x (y ∷ ys) = under x y (count x ys)

-- these binders and one more, if there is one
abbrev pub with_binder : Option Name → List Name → List Name
with_binder None ys = ys
with_binder (Some y) ys = y ∷ ys

-- the same limit for indices, raised by the binders of the name that stand above
abbrev mutual
  -- Each index is below a limit and the number of binders of its name together. Going below binders, substitution and
  -- α-normal forms keep this, so an index grows by no more than the binders above it.
  pub FreeIndicesBelow : ℕ → List Name → Term → Type 0
  FreeIndicesBelow l ys (Leaf v) = v.index < count v.name ys + l
  FreeIndicesBelow l ys (Node op r) = RowFreeIndicesBelow l ys r

  pub RowFreeIndicesBelow : ℕ → List Name → Row Var Name → Type 0
  RowFreeIndicesBelow l ys end = Unit {0}
  RowFreeIndicesBelow l ys (kid b e r) = FreeIndicesBelow l (with_binder b ys) e × RowFreeIndicesBelow l ys r
