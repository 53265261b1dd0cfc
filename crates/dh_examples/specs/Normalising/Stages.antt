-- The contraction table at a stage.
use Rattle.std.specs.Prelude.{ℕ}
use Rattle.dh_syntax.specs.Expressions.Tree.{Term}
use Rattle.dh_syntax.specs.Normalising.Contract.{contract_at}
use Rattle.dh_syntax.specs.Normalising.Contraction.{Contraction}
use Rattle.dh_syntax.specs.Normalising.Named.{binders}

-- what the contraction table says of an expression at this stage
abbrev pub at : ℕ → Term → Contraction Term
at stage e = contract_at binders stage e
