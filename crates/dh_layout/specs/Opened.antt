-- How many expressions the printed text of an expression opens, by the expression alone.
use Rattle.std.specs.Prelude.{ℕ, suc, Bool, max, if◌then◌else◌, nat_lt, List, [], ◌∷◌, Option, Some, None, codes}
use Rattle.dh_syntax.specs.declared.expressions.Op.{Op}
use Rattle.dh_syntax.specs.declared.expressions.Op.TheVariants as ops
use Rattle.dh_syntax.specs.Expressions.Levels.{level_of, left_level}
use Rattle.dh_syntax.specs.Expressions.Numbers.{bytes_eq}
use Rattle.dh_syntax.specs.Text.Printed.{layout}
use Rattle.dh_syntax.specs.Expressions.Tree.{Row, Leaf, Node, end, kid, Name, Var, Term}

-- a part: its binder, how it is printed, and how many expressions it opens
pub record Sized : Type 0 where
  pub binder : Option Name
  pub level : ℕ
  pub bare : Bool
  pub open' : ℕ

-- where any expression may stand
abbrev pub loose : Sized → ℕ
loose p = suc p.open'

-- where this level is needed: in brackets, or as it is
abbrev pub tight : ℕ → Sized → ℕ
tight m p = if nat_lt p.level m then suc p.open' else p.open'

-- before an annotation
abbrev pub before_colon : Sized → ℕ
before_colon p = if p.bare then suc p.open' else tight 1 p

-- how many expressions are opened at most in parts that need no brackets
abbrev pub all_loose : List Sized → ℕ
all_loose [] = 0
all_loose (p ∷ ps) = max (loose p) (all_loose ps)

-- the first part of `A → B` stands without brackets where it can
abbrev pub function_opened : Option Name → Sized → Sized → ℕ
function_opened None a b = max (loose a) (loose b)
function_opened (Some x) a b = if bytes_eq x (codes "_") then max (tight 1 a) (loose b) else max (loose a) (loose b)

-- how many expressions a node opens at most, by its operator and its parts
abbrev pub node_opened : Op → List Sized → ℕ
node_opened ops.Pi (a ∷ b ∷ []) = function_opened b.binder a b
node_opened ops.App (f ∷ a ∷ []) = max (tight 14 f) (tight 15 a)
node_opened (ops.Bin o) (l ∷ r ∷ []) = max (tight (left_level o) l) (tight (suc (level_of o)) r)
node_opened ops.Some (t ∷ []) = tight 15 t
node_opened (ops.Merge false) (t ∷ u ∷ []) = max (tight 15 t) (tight 15 u)
node_opened (ops.Merge true) (t ∷ u ∷ r ∷ []) = max (max (tight 15 t) (tight 15 u)) (loose r)
node_opened (ops.Field x) (t ∷ []) = tight 16 t
node_opened (ops.Project xs) (t ∷ []) = tight 16 t
node_opened ops.ProjectType (t ∷ r ∷ []) = max (tight 16 t) (loose r)
node_opened ops.Annot (t ∷ r ∷ []) = max (before_colon t) (loose r)
node_opened (ops.ToMap false) (t ∷ []) = tight 15 t
node_opened (ops.ToMap true) (t ∷ r ∷ []) = max (tight 15 t) (loose r)
node_opened (ops.With path) (e ∷ v ∷ []) = max (tight 15 e) (tight 1 v)
node_opened op ps = all_loose ps

-- how many more expressions stand open at the deepest token of printed text, of an expression or its parts
abbrev mutual
  -- how many more expressions are open at the deepest token of its printed text than before it
  pub opened : Term → ℕ
  opened (Leaf v) = 0
  opened (Node op r) = node_opened op (sizes r)

  pub sizes : Row Var Name → List Sized
  sizes end = []
  sizes (kid x e r) = record { binder = x; level = (layout e).level; bare = (layout e).bare; open' = opened e } ∷ sizes r
