use Rattle.dh_literals.proofs.NumbersReadBack.{integer_spelled, integer_read}
use Rattle.dh_literals.proofs.laws.integer_read_back.Goals as goal

pub returns-clause-literal : goal.returns-clause-literal
returns-clause-literal c = integer_spelled

pub returns-clause-value : goal.returns-clause-value
returns-clause-value c = integer_read
