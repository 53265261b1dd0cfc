-- The numbers, digests and pieces of text of an expression, node by node.
use Rattle.std.specs.Prelude.{◌^◌, ◌==◌, nat_lt, pos, negsuc, Bool, true, ◌&&◌, length, Option, Some, None}
use Rattle.std.specs.List.{list_all}
use Rattle.std.specs.Str.{is_utf8}
use Rattle.dh_syntax.specs.declared.expressions.Op.{Op}
use Rattle.dh_syntax.specs.declared.expressions.Op.TheVariants as ops
use Rattle.dh_syntax.specs.declared.locations.Digest.{Digest}
use Rattle.dh_syntax.specs.Expressions.Tree.{Row, Leaf, Node, end, kid, Name, Var, Term}

-- whether a digest, if there is one, has 32 bytes
abbrev pub digest_has_values : Option Digest → Bool
digest_has_values None = true
digest_has_values (Some d) = length d.0 == 32

-- whether the number of a node, its digest or its pieces of text are in their ranges
abbrev pub op_has_values : Op → Bool
op_has_values (ops.Nat n) = nat_lt n (2 ^ 128)
op_has_values (ops.Int (pos n)) = nat_lt n (2 ^ 127)
op_has_values (ops.Int (negsuc n)) = nat_lt n (2 ^ 127)
op_has_values (ops.Text ps) = list_all is_utf8 ps
op_has_values (ops.Import i) = digest_has_values i.digest
op_has_values op = true

abbrev mutual
  -- whether each number is in its range, each digest has 32 bytes, and each piece of text is UTF-8
  pub has_values : Term → Bool
  has_values (Leaf x) = true
  has_values (Node op r) = op_has_values op && row_has_values r

  pub row_has_values : Row Var Name → Bool
  row_has_values end = true
  row_has_values (kid b e r) = has_values e && row_has_values r
