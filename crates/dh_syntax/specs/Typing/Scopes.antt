-- Contexts, and what typing needs of the kind of expression (the standard's "Type inference", "Variables").
use Rattle.std.specs.Prelude.{Bool, List, ◌∷◌, Option, map}
use Rattle.dh_syntax.specs.declared.operators.Builtin.{Builtin}
use Rattle.dh_syntax.specs.Expressions.Tree.{Tree, Name}

-- the binders above, the nearest one first, each with the normal type of its variable as it is seen from below them all
abbrev pub Context : Type 0 → Type 0 → Type 0
Context A B = List (B × Tree A B)

-- what the rules of typing ask of names and binders, and all that they do with them
pub record Scopes (A B : Type 0) : Type 0 where
  -- the type of a built-in; none for `Sort`
  pub type_of : Builtin → Option (Tree A B)
  -- the type of a variable; none where it is not bound
  pub type_in : Context A B → A → Option (Tree A B)
  -- a binder with this name
  pub binder : Name → B
  -- an expression that stands outside a binder, seen from below it
  pub up : B → Tree A B → Tree A B
  -- an expression that stands below a binder, seen from outside; none where it mentions the variable of the binder
  pub down : B → Tree A B → Option (Tree A B)
  -- `put x a b` is the body b, which stands under the binder x, with a for the variable of that binder
  pub put : B → Tree A B → Tree A B → Tree A B
  -- whether two normal forms are equal but for the names of bound variables
  pub same : Tree A B → Tree A B → Bool

-- the context below one more binder, whose variable has this type
abbrev pub enter : {A B : Type 0} → Scopes A B → B → Tree A B → Context A B → Context A B
enter S x t context = map (λ (y, u). (y, S.up x u)) ((x, t) ∷ context)
