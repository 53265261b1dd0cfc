-- Whether a term is an expression with the values of its imports in their places.
use Rattle.std.specs.Prelude.{◌≡◌, ℕ, Bool, true, false, ◌&&◌, if◌then◌else◌, List, [], ◌∷◌, slice_get, Option, Some, None, is_none}
use Rattle.dh_syntax.specs.declared.expressions.Expr.{Expr}
use Rattle.dh_syntax.specs.declared.expressions.Kid.{Kid}
use Rattle.dh_syntax.specs.Expressions.Numbers.{bytes_eq}
use Rattle.dh_syntax.specs.declared.expressions.Op.{Op}
use Rattle.dh_syntax.specs.Expressions.SameTree.{option_eq, op_eq, term_eq, row_eq}
use Rattle.dh_syntax.specs.Expressions.Tree.{Row as Parts, Leaf, Node, Name, Var, Term}
use Rattle.dh_imports.specs.Outcomes.{may_go_on}
use Rattle.dh_imports.specs.Walk.{Walked, Ready, Fails, Turns, Needs, or_else}
use Rattle.dh_syntax.specs.Normalising.Trees.{replace_row}

-- whether a term is there, and is this one
abbrev pub is_term : Term → Option Term → Bool
is_term v None = false
is_term v (Some w) = term_eq v w

-- whether there are parts and they equal these
abbrev pub are_parts : Parts Var Name → Option (Parts Var Name) → Bool
are_parts r None = false
are_parts r (Some s) = row_eq r s

-- the parts of a term that is a node with this operator
abbrev pub parts_under : Op → Option Term → Option (Parts Var Name)
parts_under op (Some (Node p r)) = if op_eq op p then Some r else None
parts_under op (Some (Leaf v)) = None
parts_under op None = None

-- whether a term is the value of a walk that is ready; nothing of one that fails where a run may go on
abbrev pub IsCompared : Walked Term → Option Term → Option Bool → Type 0
IsCompared (Ready v) w (Some b) = b ≡ is_term v w
IsCompared (Ready v) w None = ⊥
IsCompared (Fails f) w (Some b) = may_go_on f.why ≡ true → ⊥
IsCompared (Fails f) w None = Unit {0}
IsCompared (Turns j) w o = Unit {0}
IsCompared (Needs k) w o = Unit {0}

-- the same for the parts of a node
abbrev pub AreCompared : Parts Var Name → Walked (List Term) → Option (Parts Var Name) → Option Bool → Type 0
AreCompared r (Ready vs) s (Some b) = b ≡ are_parts (replace_row r vs) s
AreCompared r (Ready vs) s None = ⊥
AreCompared r (Fails f) s (Some b) = may_go_on f.why ≡ true → ⊥
AreCompared r (Fails f) s None = Unit {0}
AreCompared r (Turns j) s o = Unit {0}
AreCompared r (Needs k) s o = Unit {0}

-- the same for `l ? r`, by the walks of its sides
abbrev pub IsSideCompared : List (Walked Term) → Option Term → Option Bool → Type 0
IsSideCompared (v ∷ w ∷ []) t o = IsCompared (or_else v w) t o
IsSideCompared ws t o = ⊥

-- a comparison goes on with one more part: whether its binder is the same, and its own comparison
abbrev pub going_on : Option Bool → Bool → Option Bool → Option Bool
going_on (Some same) binder (Some part) = Some (same && (binder && part))
going_on (Some same) binder None = None
going_on None binder part = None

-- ---- by kids

-- the expression of a part, without its binder
abbrev pub body_of : Kid → Expr
body_of k = k.body

-- the part of this number, where there are parts
abbrev pub kid_at : Option (List Kid) → ℕ → Option Kid
kid_at None i = None
kid_at (Some ks) i = slice_get ks i

-- a kid is there, and has this binder
abbrev pub has_binder : Option Name → Option Kid → Bool
has_binder b None = false
has_binder b (Some k) = option_eq bytes_eq b k.binder

-- there are kids, and no more than so many
abbrev pub has_no_more : ℕ → Option (List Kid) → Bool
has_no_more n None = false
has_no_more n (Some ks) = is_none (slice_get ks n)
