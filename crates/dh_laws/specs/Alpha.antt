-- The α-normal form by its equations, what it keeps, and sameness.
use Rattle.std.specs.Prelude.{◌≡◌, ℕ, false}
use Rattle.std.specs.Bool.{Decides}
use Rattle.dh_syntax.specs.declared.expressions.Op.{Op}
use Rattle.dh_syntax.specs.Names.Alpha.{alpha_row, alpha, IsSame, same}
use Rattle.dh_syntax.specs.Expressions.Nesting.{nesting}
use Rattle.dh_syntax.specs.Names.Subst.{shift_up, shift_down, subst, is_free}
use Rattle.dh_syntax.specs.Expressions.Tree.{Row, Leaf, Node, Name, Var, Term}

-- The α-normal form of a variable, and that of a node by those of its parts.
abbrev pub AlphaVariable : Type 0
AlphaVariable = (v : Var) → alpha (Leaf v) ≡ Leaf v

-- The α-normal form of a node is the node over the α-normal forms of its parts.
abbrev pub AlphaNode : Type 0
AlphaNode = (op : Op) (r : Row Var Name) → alpha (Node op r) ≡ Node op (alpha_row alpha r)

-- The α-normal form nests as the expression does.
abbrev pub AlphaNesting : Type 0
AlphaNesting = (e : Term) → nesting (alpha e) ≡ nesting e

-- An α-normal form is its own α-normal form.
abbrev pub AlphaOnce : Type 0
AlphaOnce = (e : Term) → alpha (alpha e) ≡ alpha e

-- The α-normal form of what was shifted up is the α-normal form, shifted up.
abbrev pub AlphaOfShiftUp : Type 0
AlphaOfShiftUp = (x : Name) (m : ℕ) (e : Term) → alpha (shift_up x m e) ≡ shift_up x m (alpha e)

-- The same for shifting down, where the variable that would be lost is not free.
abbrev pub AlphaOfShiftDown : Type 0
AlphaOfShiftDown = (x : Name) (m : ℕ) (e : Term) → is_free x m e ≡ false → alpha (shift_down x m e) ≡ shift_down x m (alpha e)

-- The α-normal form of what was substituted into is substitution into the α-normal form. So substitution of same for same gives same.
abbrev pub AlphaOfSubst : Type 0
AlphaOfSubst = (x : Name) (n : ℕ) (a e : Term) → alpha (subst x n a e) ≡ subst x n (alpha a) (alpha e)

-- The α-normal form has the free variables of the expression.
abbrev pub FreeAfterAlpha : Type 0
FreeAfterAlpha = (x : Name) (n : ℕ) (e : Term) → is_free x n (alpha e) ≡ is_free x n e

-- Sameness is an equivalence.
abbrev pub SameReflexive : Type 0
SameReflexive = (e : Term) → IsSame e e

-- Sameness holds both ways.
abbrev pub SameSymmetric : Type 0
SameSymmetric = (e f : Term) → IsSame e f → IsSame f e

-- Two that are the same as a third are the same.
abbrev pub SameTransitive : Type 0
SameTransitive = (e f g : Term) → IsSame e f → IsSame f g → IsSame e g

-- The test of sameness is true exactly where two expressions are the same.
abbrev pub SameDecides : Type 0
SameDecides = (e f : Term) → Decides (same e f) (IsSame e f)
