-- What has values has them node by node.
use Rattle.std.specs.Prelude.{◌≡◌, nat_lt, ◌==◌, pos, negsuc, Bool, true, false, ◌&&◌, length, Option, Some, None, refl}
use Rattle.std.specs.List.{list_all}
use Rattle.dh_syntax.specs.declared.expressions.Op.{Op}
use Rattle.dh_syntax.specs.declared.expressions.Op.TheVariants as ops
use Rattle.dh_syntax.specs.declared.locations.Digest.{Digest}
use Rattle.dh_syntax.specs.Expressions.Tree.{Row, Leaf, Node, end, kid, Name, Var, Term}
use Rattle.dh_syntax.specs.Expressions.Values.{every, every_part, digest_if, op_in_range, op_has_text}
use Rattle.dh_binary.specs.Inside.Ranges.{digest_has_values, op_has_values, has_values, row_has_values}

left_of : (a b : Bool) → (a && b) ≡ true → a ≡ true
left_of true b h = refl
left_of false b h = h

right_of : (a b : Bool) → (a && b) ≡ true → b ≡ true
right_of true b h = h
right_of false b h = absurd cc

both : (a b : Bool) → a ≡ true → b ≡ true → (a && b) ≡ true
both true b h k = k
both false b h k = absurd cc

digest_known : (d : Option Digest) → digest_if d ≡ true → digest_has_values d ≡ true
digest_known None h = refl
digest_known (Some d) h = left_of (length d.0 == 32) (list_all (λ b. nat_lt b 256) d.0) h

op_known : (op : Op) → op_in_range op ≡ true → op_has_text op ≡ true → op_has_values op ≡ true
op_known (ops.Nat n) h k = h
op_known (ops.Int (pos n)) h k = h
op_known (ops.Int (negsuc n)) h k = h
op_known (ops.Text ps) h k = k
op_known (ops.Import i) h k = digest_known i.digest h
op_known op h k = refl

mutual
  pub values_known : (e : Term) → every op_in_range e ≡ true → every op_has_text e ≡ true → has_values e ≡ true
  values_known (Leaf v) h k = refl
  values_known (Node op r) h k =
      both (op_has_values op) (row_has_values r)
      (op_known op (left_of (op_in_range op) (every_part op_in_range r) h) (left_of (op_has_text op) (every_part op_has_text r) k))
      (row_known r (right_of (op_in_range op) (every_part op_in_range r) h) (right_of (op_has_text op) (every_part op_has_text r) k))

  row_known : (r : Row Var Name) → every_part op_in_range r ≡ true → every_part op_has_text r ≡ true → row_has_values r ≡ true
  row_known end h k = refl
  row_known (kid b e r) h k =
      both (has_values e) (row_has_values r)
      (values_known e (left_of (every op_in_range e) (every_part op_in_range r) h) (left_of (every op_has_text e) (every_part op_has_text r) k))
      (row_known r (right_of (every op_in_range e) (every_part op_in_range r) h) (right_of (every op_has_text e) (every_part op_has_text r) k))
