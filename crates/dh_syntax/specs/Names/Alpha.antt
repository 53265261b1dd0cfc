-- The α-normal form (the standard's "α-normalization").
use Rattle.std.specs.Prelude.{◌≡◌, ℕ, zero, suc, cond, Bool, [], ◌∷◌, Option, Some, None}
use Rattle.dh_syntax.specs.Expressions.Nesting.{nesting}
use Rattle.dh_syntax.specs.Expressions.Numbers.{bytes_eq}
use Rattle.dh_syntax.specs.Expressions.SameTree.{term_eq}
use Rattle.dh_syntax.specs.Names.Subst.{shift_up, shift_down, subst}
use Rattle.dh_syntax.specs.Expressions.Tree.{Row, Leaf, Node, end, kid, Name, Var, Term}

-- the name `_`
abbrev pub blank : Name
blank = 95 ∷ []

-- a binder, renamed to `_`
abbrev pub blank_binder : Option Name → Option Name
blank_binder None = None
blank_binder (Some x) = Some blank

-- a part whose binder is renamed to `_`
abbrev pub renamed : Option Name → Term → Term
renamed None b = b
renamed (Some x) b = cond (bytes_eq x blank) b (shift_down x 0 (subst x 0 (Leaf (record { name = blank; index = 0 })) (shift_up blank 0 b)))

-- each part with its binder renamed, and `below` of what it is then
abbrev pub alpha_row : (Term → Term) → Row Var Name → Row Var Name
alpha_row below end = end
alpha_row below (kid b e r) = kid (blank_binder b) (below (renamed b e)) (alpha_row below r)

-- the α-normal form of an expression that nests at most so deep
abbrev pub alpha_to : ℕ → Term → Term
alpha_to zero e = e
alpha_to (suc n) (Leaf v) = Leaf v
alpha_to (suc n) (Node op r) = Node op (alpha_row (alpha_to n) r)

-- The α-normal form. Its two equations are `alpha-Leaf` and `alpha-Node` of `proofs/AlphaEquations.antt`:
-- `alpha (Leaf v) ≡ Leaf v` and `alpha (Node op r) ≡ Node op (alpha_row alpha r)`.
unfoldable pub alpha : Term → Term
alpha e = alpha_to (nesting e) e

-- whether two expressions differ only in the names of their binders
abbrev pub IsSame : Term → Term → Type 0
IsSame e f = alpha e ≡ alpha f

-- whether two expressions have the same α-normal form, as a test
abbrev pub same : Term → Term → Bool
same e f = term_eq (alpha e) (alpha f)
