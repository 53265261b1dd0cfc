-- The equations of the plain tree of an expression, and that it is one to one.
use Rattle.std.specs.Prelude.{◌≡◌, ℕ, List, [], ◌∷◌, refl, map}
use Rattle.std.proofs.Common.{sym, ◌∙◌, ap, subst}
use Rattle.dh_syntax.specs.declared.expressions.Expr.{Expr}
use Rattle.dh_syntax.specs.declared.expressions.Expr.TheVariants as expr
use Rattle.dh_syntax.specs.declared.expressions.Expr.TheOpen.{Expr-F}
use Rattle.dh_syntax.specs.declared.expressions.Expr.TheOpen as level
use Rattle.dh_syntax.specs.declared.expressions.Expr.TheFolds.{fold-Expr, fold-Kid, fold-roll-Expr, fold_out-Kid, ind-Expr, map-Expr, claims}
use Rattle.dh_syntax.specs.declared.expressions.Expr.TheBlock.{the_family, member-Expr, member-Kid}
use Rattle.dh_syntax.specs.declared.expressions.Expr.TheViews.{roll-Expr}
use denote.Hole.Holds.{Such}
use Rattle.dh_syntax.specs.declared.expressions.Kid.{Kid}
use Rattle.dh_syntax.specs.declared.expressions.Op.{Op}
use Rattle.dh_syntax.specs.Expressions.Tree as tree
use Rattle.dh_syntax.specs.Expressions.Tree.{Row, Leaf, end, kid, Name, Term}
use Rattle.dh_syntax.specs.Expressions.Bridge.{Part, row, expr_step, kid_step, term, row_of}

-- The parts of a node.
pub row_of-nil : row_of [] ≡ end
unfolding row_of
row_of-nil = refl

pub row_of-cons : (k : Kid) (ks : List Kid) → row_of (k ∷ ks) ≡ kid k.binder (term k.body) (row_of ks)
unfolding row_of
row_of-cons k ks = refl

row_of_parts : (kids : List Kid) → row (map (fold-Kid Term Part expr_step kid_step) kids) ≡ row_of kids
unfolding term row_of
row_of_parts [] = refl
row_of_parts (k ∷ ks) = let e = fold_out-Kid Term Part expr_step kid_step k in let ih = row_of_parts ks in cc

-- The plain tree of a variable and of a node.
pub term-Var : (x : Name) (n : ℕ) → term (expr.Var x n) ≡ Leaf (record { name = x; index = n })
unfolding term
term-Var x n = ap (fold-Expr Term Part expr_step kid_step) (sym (expr.rolls-Var x n)) ∙ fold-roll-Expr Term Part expr_step kid_step (level.Var x n)

pub term-Node : (op : Op) (kids : List Kid) → term (expr.Node op kids) ≡ tree.Node op (row_of kids)
unfolding term
term-Node op kids =
    ap (fold-Expr Term Part expr_step kid_step) (sym (expr.rolls-Node op kids)) ∙ fold-roll-Expr Term Part expr_step kid_step (level.Node op kids) ∙ ap (tree.Node op) (row_of_parts kids)

-- The same at an expression that a match has taken apart, under a function of the plain tree.
pub at_term-Var : {Y : Type 0} (F : Term → Y) (e : Expr) (x : Name) (n : ℕ) → e ≡ expr.Var x n → F (term e) ≡ F (Leaf (record { name = x; index = n }))
at_term-Var F e x n h = ap (λ d. F (term d)) h ∙ ap F (term-Var x n)

pub at_term-Node : {Y : Type 0} (F : Term → Y) (e : Expr) (op : Op) (ks : List Kid) → e ≡ expr.Node op ks → F (term e) ≡ F (tree.Node op (row_of ks))
at_term-Node F e op ks h = ap (λ d. F (term d)) h ∙ ap F (term-Node op ks)

-- The way back, from plain trees to expressions.
abbrev mutual
  pub expr_of : Term → Expr
  expr_of (Leaf v) = expr.Var v.name v.index
  expr_of (tree.Node op r) = expr.Node op (kids_of r)

  pub kids_of : Row tree.Var Name → List Kid
  kids_of end = []
  kids_of (kid b e r) = record { binder = b; body = expr_of e } ∷ kids_of r

abbrev IsBack : Expr → Type 0
IsBack e = expr_of (term e) ≡ e

abbrev IsBackKid : Kid → Type 0
IsBackKid k = IsBack k.body

abbrev BackExpr : Type 0
BackExpr = Such the_family (claims IsBack IsBackKid) member-Expr

abbrev BackKid : Type 0
BackKid = Such the_family (claims IsBack IsBackKid) member-Kid

kids_back : (ks : List BackKid) → kids_of (row_of (map (λ k. k.0) ks)) ≡ map (λ k. k.0) ks
unfolding row_of
kids_back [] = refl
kids_back (k ∷ ks) =
    let back : expr_of (term k.0.body) ≡ k.0.body = k.1 in
    let with_body : Expr → Kid = λ b. record { binder = k.0.binder; body = b } in
    ap (λ b. with_body b ∷ kids_of (row_of (map (λ k. k.0) ks))) back ∙ ap (λ r. k.0 ∷ r) (kids_back ks)

back_step : (y : Expr-F BackExpr BackKid) → IsBack (roll-Expr (map-Expr BackExpr BackKid Expr Kid (λ e. e.0) (λ k. k.0) y))
back_step (level.Var x n) = subst IsBack (sym (expr.rolls-Var x n)) (ap expr_of (term-Var x n))
back_step (level.Node op ks) = subst IsBack (sym (expr.rolls-Node op _)) (ap expr_of (term-Node op _) ∙ ap (expr.Node op) (kids_back ks))

-- Going to the plain tree and back gives the expression again, so equal trees are equal expressions.
pub expr_of-term : (e : Expr) → expr_of (term e) ≡ e
expr_of-term e =
    ind-Expr IsBack IsBackKid (λ x y h. subst (λ z. IsBack (roll-Expr z)) h (back_step y)) (λ x y h. subst (λ z. IsBack z.body) h y.body.1) e

pub term-one_to_one : (e f : Expr) → term e ≡ term f → e ≡ f
term-one_to_one e f h = sym (expr_of-term e) ∙ ap expr_of h ∙ expr_of-term f

-- The plain tree of the expression of a tree is that tree, so every tree is the tree of an expression.
mutual
  pub term-expr_of : (t : Term) → term (expr_of t) ≡ t
  term-expr_of (Leaf v) = term-Var v.name v.index
  term-expr_of (tree.Node op r) = term-Node op (kids_of r) ∙ ap (tree.Node op) (row_of-kids_of r)

  pub row_of-kids_of : (r : Row tree.Var Name) → row_of (kids_of r) ≡ r
  row_of-kids_of end = row_of-nil
  row_of-kids_of (kid b e r) =
      row_of-cons (record { binder = b; body = expr_of e }) (kids_of r) ∙ ap (λ t. kid b t (row_of (kids_of r))) (term-expr_of e) ∙ ap (kid b e) (row_of-kids_of r)

-- Equal parts are equal kids.
pub kids_of-row_of : (ks : List Kid) → kids_of (row_of ks) ≡ ks
unfolding row_of
kids_of-row_of [] = refl
kids_of-row_of (k ∷ ks) = ap (λ e. record { binder = k.binder; body = e } ∷ kids_of (row_of ks)) (expr_of-term k.body) ∙ ap (λ r. k ∷ r) (kids_of-row_of ks)

pub row_of-one_to_one : (ks js : List Kid) → row_of ks ≡ row_of js → ks ≡ js
row_of-one_to_one ks js h = sym (kids_of-row_of ks) ∙ ap kids_of h ∙ kids_of-row_of js
