-- What is known of the expressions in a table, so that calls may work on them.
use Rattle.std.specs.Prelude.{◌+◌, ◌≤◌, ◌^◌, ℕ}
use Rattle.dh_imports.specs.declared.outcomes.Outcome as program
use Rattle.dh_imports.specs.declared.outcomes.Outcome.TheVariants as variants
use Rattle.dh_syntax.specs.Expressions.Arity.{IsWellFormed}
use Rattle.dh_syntax.specs.Expressions.Bridge.{term}
use Rattle.dh_syntax.specs.Expressions.Nesting.{nesting}
use Rattle.dh_syntax.specs.Expressions.Tree.{Term}
use Rattle.dh_imports.specs.Records.{IsClosed}
use Rattle.dh_syntax.specs.Limits.{most_nesting}
use Rattle.dh_syntax.specs.Names.Indices.{IndicesBelow}
use Rattle.dh_record.specs.declared.items.Body.{Body}
use Rattle.dh_record.specs.declared.items.Body.TheVariants as body

-- a value: each node has its parts, it nests no deeper than a normal form may, and no variable is free
pub record IsValue (e : Term) : Type 0 where
  pub well_formed : IsWellFormed e
  pub shallow : nesting e ≤ most_nesting
  pub closed : IsClosed e

-- the value of an outcome is one
abbrev pub HasValue : program.Outcome → Type 0
HasValue (variants.Good v o) = IsValue (term v)
HasValue (variants.Bad b) = Unit {0}

-- code with a value for each import
pub record IsCode (e : Term) : Type 0 where
  pub well_formed : IsWellFormed e
  pub shallow : nesting e ≤ most_nesting + most_nesting
  pub indices : IndicesBelow (2 ^ 31) e

-- what a last step takes may be worked on
abbrev pub IsFit : Body → Type 0
IsFit (body.Code e) = IsCode (term e)
IsFit (body.Text bytes) = Unit {0}
IsFit (body.Location l) = Unit {0}
IsFit (body.Compare e o) = IsValue (term e)
IsFit (body.Entry e) = IsValue (term e)
IsFit (body.Fault b) = Unit {0}

-- the root with its values has the form of the root, nests little deeper, and has no greater indices than the root and values
pub record FitsRoot (root e : Term) : Type 0 where
  pub well_formed : IsWellFormed root → IsWellFormed e
  pub shallow : nesting e ≤ nesting root + most_nesting
  pub indices : (l : ℕ) → most_nesting ≤ l → IndicesBelow l root → IndicesBelow l e
