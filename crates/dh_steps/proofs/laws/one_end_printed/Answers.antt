use Rattle.dh_steps.proofs.Replies as proof
use Rattle.dh_steps.proofs.laws.one_end_printed.Goals as goal

pub returns : goal.returns
returns c = proof.one_end_printed
