-- How many answers bytes of the binary form have.
use Rattle.std.specs.Prelude.{◌≡◌, ℕ, List, Result}
use Rattle.dh_syntax.specs.declared.faults.DecodeFault.{DecodeFault}
use Rattle.dh_syntax.specs.Bytes.BinaryFaults.{DecodesTo}
use Rattle.dh_syntax.specs.Bytes.BinaryRead.{Reads}
use Rattle.dh_syntax.specs.Expressions.Tree.{Term}

-- bytes are read as at most one expression
abbrev pub OneExpression : Type 0
OneExpression = (bytes : List ℕ) (e f : Term) → Reads bytes e → Reads bytes f → e ≡ f

-- bytes have at most one answer: an expression, or a fault at one place
abbrev pub OneDecoding : Type 0
OneDecoding = (bytes : List ℕ) (r s : Result Term DecodeFault) → DecodesTo bytes r → DecodesTo bytes s → r ≡ s
