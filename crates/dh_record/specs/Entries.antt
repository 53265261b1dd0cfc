-- Cache entries.
use Rattle.std.specs.Prelude.{ℕ, List}
use Rattle.dh_syntax.specs.declared.expressions.Expr.{Expr}
use Rattle.dh_syntax.specs.declared.locations.Digest.{Digest}
use Rattle.dh_syntax.specs.Expressions.Bridge.{term}
use Rattle.dh_imports.specs.Records as found
use Rattle.dh_imports.specs.Records.{IsGood}

-- these bytes have this digest, and are this expression, without imports and free variables
abbrev pub IsGoodEntry : Digest → List ℕ → Expr → Type 0
IsGoodEntry d bytes e = IsGood d (found.Good bytes (term e))

-- what contracts see of a good entry
pub record EntryParts : Type 0 where
  pub digest : Digest
  pub bytes : List ℕ
  pub expr : Expr
