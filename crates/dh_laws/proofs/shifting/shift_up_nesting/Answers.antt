use Rattle.dh_syntax.proofs.Moves.{nesting-moved}
use Rattle.dh_laws.proofs.shifting.shift_up_nesting.Goals as goal

pub returns : goal.returns
returns c = λ x m e. nesting-moved _ m e
