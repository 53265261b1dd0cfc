-- Whether a nameless expression has a variable that no binder in it binds.
use Rattle.std.specs.Prelude.{Bool, true, false, ◌||◌}
use Rattle.dh_syntax.specs.Expressions.Tree.{Row, Leaf, Node, end, kid, Name}
use Rattle.dh_syntax.specs.Names.Nameless.{Ref, Bound, Free, Core}

-- whether a nameless expression, or a row of such expressions, has a variable that no binder in it binds
abbrev mutual
  pub has_free : Core → Bool
  has_free (Leaf (Bound i)) = false
  has_free (Leaf (Free x n)) = true
  has_free (Node op r) = has_free_row r

  pub has_free_row : Row Ref Name → Bool
  has_free_row end = false
  has_free_row (kid b e r) = has_free e || has_free_row r
