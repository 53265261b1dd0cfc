use Rattle.dh_laws.proofs.Normalising.RunLimits.{one_answer}
use Rattle.dh_laws.proofs.runs.one_answer.Goals as goal

pub returns : goal.returns
returns c = one_answer
