-- What an expression is with the values of its imports in their places.
use Rattle.std.specs.Prelude.{◌≡◌, true, List, [], ◌∷◌, ◌++◌, Option, Some, None}
use Rattle.dh_syntax.specs.declared.expressions.Expr.{Expr}
use Rattle.dh_syntax.specs.declared.expressions.Kid.{Kid}
use Rattle.dh_imports.specs.declared.outcomes.Outcome as program
use Rattle.dh_imports.specs.declared.outcomes.Outcome.TheVariants as variants
use Rattle.dh_syntax.specs.Expressions.Bridge.{term, row_of}
use Rattle.dh_syntax.specs.Expressions.Tree.{Row as Parts, Name, Var, Term}
use Rattle.dh_imports.specs.Outcomes.{may_go_on}
use Rattle.dh_imports.specs.Walk.{Walked, Ready, Fails, Turns, Needs, or_else}
use Rattle.dh_syntax.specs.Normalising.Trees.{replace_row}

-- the value of a walk that is ready, and none of one that fails where a run may go on
abbrev pub IsBuilt : Walked Term → Option Expr → Type 0
IsBuilt (Ready v) (Some e) = term e ≡ v
IsBuilt (Ready v) None = ⊥
IsBuilt (Fails b) (Some e) = may_go_on b.why ≡ true → ⊥
IsBuilt (Fails b) None = Unit {0}
IsBuilt (Turns j) o = Unit {0}
IsBuilt (Needs k) o = Unit {0}

-- the same for the parts of a node
abbrev pub AreBuilt : Parts Var Name → Walked (List Term) → Option (List Kid) → Type 0
AreBuilt r (Ready vs) (Some ks) = row_of ks ≡ replace_row r vs
AreBuilt r (Ready vs) None = ⊥
AreBuilt r (Fails b) (Some ks) = may_go_on b.why ≡ true → ⊥
AreBuilt r (Fails b) None = Unit {0}
AreBuilt r (Turns j) o = Unit {0}
AreBuilt r (Needs k) o = Unit {0}

-- the same for `l ? r`, by the walks of its sides
abbrev pub IsSideBuilt : List (Walked Term) → Option Expr → Type 0
IsSideBuilt (v ∷ w ∷ []) o = IsBuilt (or_else v w) o
IsSideBuilt ws o = ⊥

-- the kids, and one more with this body where there is one
abbrev pub with_kid : List Kid → Option Name → Option Expr → List Kid
with_kid ks b None = ks
with_kid ks b (Some e) = ks ++ record { binder = b; body = e } ∷ []

-- the value of a good outcome
abbrev pub value_of_outcome : Option program.Outcome → Option Expr
value_of_outcome None = None
value_of_outcome (Some (variants.Good v o)) = Some v
value_of_outcome (Some (variants.Bad b)) = None
