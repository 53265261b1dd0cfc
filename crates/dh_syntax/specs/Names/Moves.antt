-- Changing the leaves and the binders of an expression, each by what stands above it.
--
-- Shifting, going nameless, forgetting names and reading names back are moves.
use Rattle.std.specs.Prelude.{Option, Some, None}
use Rattle.dh_syntax.specs.Expressions.Tree.{Tree, Row, Leaf, Node, end, kid}

-- What stands above is an `S`. Leaves `A` and binders `B` become leaves `C` and binders `D`.
pub record Move (S A B C D : Type 0) : Type 0 where
  -- what a leaf becomes
  pub leaf : S → A → C
  -- what a binder becomes
  pub binder : B → D
  -- what stands above the part that a binder is over
  pub enter : S → B → S

-- what a binder becomes, if there is one
abbrev pub moved_binder : {S A B C D : Type 0} → Move S A B C D → Option B → Option D
moved_binder m None = None
moved_binder m (Some x) = Some (m.binder x)

-- what stands above a part, which may be under a binder
abbrev pub entered : {S A B C D : Type 0} → Move S A B C D → S → Option B → S
entered m s None = s
entered m s (Some x) = m.enter s x

-- an expression, and the parts of a node, with the leaves and binders changed
abbrev mutual
  pub moved : {S A B C D : Type 0} → Move S A B C D → S → Tree A B → Tree C D
  moved m s (Leaf a) = Leaf (m.leaf s a)
  moved m s (Node op r) = Node op (moved_row m s r)

  pub moved_row : {S A B C D : Type 0} → Move S A B C D → S → Row A B → Row C D
  moved_row m s end = end
  moved_row m s (kid b e r) = kid (moved_binder m b) (moved m (entered m s b) e) (moved_row m s r)
