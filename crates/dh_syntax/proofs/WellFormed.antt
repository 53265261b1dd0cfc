-- When the expressions of the program are well formed.
use Rattle.std.specs.Prelude.{◌≡◌, ◌<◌, ◌≤◌, ◌↔◌, ℕ, ◌+◌, List, length, drop, IsTrue}
use Rattle.std.proofs.Common.{sym, subst, get_or}
use Rattle.dh_syntax.specs.declared.expressions.Expr.TheVariants as expr
use Rattle.dh_syntax.specs.declared.expressions.Kid.{Kid}
use Rattle.dh_syntax.specs.declared.expressions.Op.{Op}
use Rattle.dh_syntax.specs.Expressions.Tree.{Name}
use Rattle.dh_syntax.specs.Expressions.Arity.{fits, IsWellFormed, AreWellFormed}
use Rattle.dh_syntax.specs.Expressions.Bridge.{term, row_of}
use Rattle.dh_syntax.proofs.Bridge.{term-Var, term-Node}
use Rattle.dh_syntax.proofs.Rows.{row_of-drop_item, row_of-drop_all}

pub IsWellFormed-Var : (x : Name) (n : ℕ) → IsWellFormed (term (expr.Var x n))
IsWellFormed-Var x n = subst (λ t. IsWellFormed t) (sym (term-Var x n)) tt

pub IsWellFormed-Node : (op : Op) (ks : List Kid) → IsWellFormed (term (expr.Node op ks)) ↔ (IsTrue (fits op (row_of ks)) × AreWellFormed (row_of ks))
IsWellFormed-Node op ks = subst (λ t. IsWellFormed t ↔ (IsTrue (fits op (row_of ks)) × AreWellFormed (row_of ks))) (sym (term-Node op ks)) (λ h. h, λ h. h)

-- A test of each kid in turn.
pub well_formed_keeps : (ks : List Kid) (i : ℕ) (k : Kid) (P : Type 0) → i < length ks → k ≡ get_or ks i k → IsWellFormed (term k.body) →
    (AreWellFormed (row_of (drop i ks)) ↔ P) → AreWellFormed (row_of (drop (i + 1) ks)) ↔ P
well_formed_keeps ks i k P h e good so_far =
    let at = subst (λ r. AreWellFormed r ↔ P) (row_of-drop_item ks i k h e) so_far in
    (λ rest. at.0 (good, rest), λ p. (at.1 p).1)

pub well_formed_stops : (ks : List Kid) (i : ℕ) (k : Kid) (P : Type 0) → i < length ks → k ≡ get_or ks i k → (IsWellFormed (term k.body) → ⊥) →
    (AreWellFormed (row_of (drop i ks)) ↔ P) → P → ⊥
well_formed_stops ks i k P h e bad so_far p = bad ((subst (λ r. AreWellFormed r ↔ P) (row_of-drop_item ks i k h e) so_far).1 p).0

pub well_formed_ends : (ks : List Kid) (i : ℕ) (P : Type 0) → length ks ≤ i → (AreWellFormed (row_of (drop i ks)) ↔ P) → P
well_formed_ends ks i P h so_far = (subst (λ r. AreWellFormed r ↔ P) (row_of-drop_all ks i h) so_far).0 tt
