use Rattle.dh_top.proofs.Generated.{generated_digests}
use Rattle.dh_top.proofs.laws.generated_digests.Goals as goal

pub returns : goal.returns
returns c = generated_digests
