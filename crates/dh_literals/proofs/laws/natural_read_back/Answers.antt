use Rattle.dh_literals.proofs.NumbersReadBack.{natural_spelled, natural_read}
use Rattle.dh_literals.proofs.laws.natural_read_back.Goals as goal

pub returns-clause-literal : goal.returns-clause-literal
returns-clause-literal c = natural_spelled

pub returns-clause-value : goal.returns-clause-value
returns-clause-value c = natural_read
