use Rattle.dh_steps.proofs.Replies as proof
use Rattle.dh_steps.proofs.laws.one_reply.Goals as goal

pub returns : goal.returns
returns c = proof.one_reply
