use Rattle.dh_top.proofs.WarmBatches.{warm_batches}
use Rattle.dh_top.proofs.laws.warm_batches.Goals as goal

pub returns : goal.returns
returns c = warm_batches
