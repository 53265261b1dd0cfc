-- How deep an expression nests.
use Rattle.std.specs.Prelude.{ℕ, suc, max}
use Rattle.dh_syntax.specs.Expressions.Tree.{Tree, Row, Leaf, Node, end, kid}

-- how deep an expression nests, and how deep the parts of a node do
abbrev mutual
  -- 0 for an expression without parts, else one more than the greatest of its parts
  pub nesting : {A B : Type 0} → Tree A B → ℕ
  nesting (Leaf a) = 0
  nesting (Node op r) = parts_nesting r

  -- one more than the greatest of these parts, 0 where there is none
  pub parts_nesting : {A B : Type 0} → Row A B → ℕ
  parts_nesting end = 0
  parts_nesting (kid b e r) = max (suc (nesting e)) (parts_nesting r)
