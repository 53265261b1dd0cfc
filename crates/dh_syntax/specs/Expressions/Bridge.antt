-- The plain tree that an expression of the program is.
use Rattle.std.specs.Prelude.{List, [], ◌∷◌, Option}
use Rattle.dh_syntax.specs.declared.expressions.Expr.{Expr}
use Rattle.dh_syntax.specs.declared.expressions.Expr.TheOpen.{Expr-F, Kid-F}
use Rattle.dh_syntax.specs.declared.expressions.Expr.TheOpen as level
use Rattle.dh_syntax.specs.declared.expressions.Expr.TheFolds.{fold-Expr}
use Rattle.dh_syntax.specs.declared.expressions.Kid.{Kid}
use Rattle.dh_syntax.specs.Expressions.Tree as tree
use Rattle.dh_syntax.specs.Expressions.Tree.{Row, Leaf, end, kid, Name, Term}

-- a part of a node, as a plain tree under its binder
abbrev pub Part : Type 0
Part = Option Name × Term

-- these parts as the row of a node
abbrev pub row : List Part → Row tree.Var Name
row [] = end
row (p ∷ ps) = kid p.0 p.1 (row ps)

-- one level of an expression, whose parts are plain trees already
abbrev pub expr_step : Expr-F Term Part → Term
expr_step (level.Var x n) = Leaf (record { name = x; index = n })
expr_step (level.Node op kids) = tree.Node op (row kids)

-- one part with its binder, whose body is a plain tree already
abbrev pub kid_step : Kid-F Term Part → Part
kid_step k = (k.binder, k.body)

-- the plain tree of an expression
unfoldable pub term : Expr → Term
term = fold-Expr Term Part expr_step kid_step

-- each part of a node as a plain tree under its binder
abbrev pub parts : List Kid → List Part
parts [] = []
parts (k ∷ ks) = (k.binder, term k.body) ∷ parts ks

-- the parts of a node
unfoldable pub row_of : List Kid → Row tree.Var Name
row_of ks = row (parts ks)
