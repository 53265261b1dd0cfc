-- Expressions as plain trees, generic in their leaves and in their binders.
--
-- A named expression has variables as its leaves and names as its binders. The nameless forms, which the laws on
-- names compare with it, are the same trees over other leaves and binders.
use Rattle.std.specs.Prelude.{ℕ, List, Option}
use Rattle.dh_syntax.specs.declared.expressions.Op.{Op}

mutual
  -- an expression
  pub data Tree (A B : Type 0) : Type 0 where
    Leaf : A → Tree A B
    Node : Op → Row A B → Tree A B

  -- the parts of a node from left to right, each under at most one binder
  pub data Row (A B : Type 0) : Type 0 where
    end : Row A B
    kid : Option B → Tree A B → Row A B → Row A B

-- a label, as its UTF-8 bytes
abbrev pub Name : Type 0
Name = List ℕ

-- the variable `name@index` (the standard's "Variables")
pub record Var : Type 0 where
  pub name : Name
  pub index : ℕ

-- an expression as it is written
abbrev pub Term : Type 0
Term = Tree Var Name
