-- Tests of every node of an expression, over the kids of a node.
use Rattle.std.specs.Prelude.{◌≡◌, ◌<◌, ◌≤◌, ℕ, ◌+◌, Bool, ◌&&◌, List, length, drop, IsTrue, refl}
use Rattle.std.proofs.Common.{sym, subst, get_or}
use Rattle.dh_syntax.specs.declared.expressions.Expr.{Expr}
use Rattle.dh_syntax.specs.declared.expressions.Expr.TheVariants as expr
use Rattle.dh_syntax.specs.declared.expressions.Kid.{Kid}
use Rattle.dh_syntax.specs.declared.expressions.Op.{Op}
use Rattle.dh_syntax.specs.Expressions.Bridge.{term, row_of}
use Rattle.dh_syntax.specs.Expressions.Tree.{Name}
use Rattle.dh_syntax.specs.Expressions.Values.{every, every_part}
use Rattle.dh_syntax.proofs.Bridge.{at_term-Var, at_term-Node}
use Rattle.dh_syntax.proofs.Rows.{at_row_of-drop_item, at_row_of-drop_all}

both : (a b : Bool) → IsTrue a → IsTrue b → IsTrue (a && b)
both a b p q = rw (p, q) refl

pub every-Var : (test : Op → Bool) (e : Expr) (x : Name) (n : ℕ) → e ≡ expr.Var x n → IsTrue (every test (term e))
every-Var test e x n h = at_term-Var (every test) e x n h

pub every-Node : (test : Op → Bool) (e : Expr) (op : Op) (ks : List Kid) → e ≡ expr.Node op ks → IsTrue (test op) → IsTrue (every_part test (row_of ks)) →
    IsTrue (every test (term e))
every-Node test e op ks h here below = subst IsTrue (sym (at_term-Node (every test) e op ks h)) (both (test op) (every_part test (row_of ks)) here below)

-- A loop that tests each kid.
pub every_keeps : (test : Op → Bool) (ks : List Kid) (i : ℕ) (k : Kid) (P : Type 0) → i < length ks → k ≡ get_or ks i k → IsTrue (every test (term k.body)) →
    (IsTrue (every_part test (row_of (drop i ks))) → P) → IsTrue (every_part test (row_of (drop (i + 1) ks))) → P
every_keeps test ks i k P h e good so_far rest =
    so_far (subst IsTrue (sym (at_row_of-drop_item (every_part test) ks i k h e)) (both (every test (term k.body)) (every_part test (row_of (drop (i + 1) ks))) good rest))

pub every_ends : (test : Op → Bool) (ks : List Kid) (i : ℕ) (P : Type 0) → length ks ≤ i → (IsTrue (every_part test (row_of (drop i ks))) → P) → P
every_ends test ks i P h so_far = so_far (at_row_of-drop_all (every_part test) ks i h)
