use Rattle.dh_binary.proofs.ReadsBack as proof
use Rattle.dh_binary.proofs.coding.reads_sized.Goals as goal

pub returns : goal.returns
returns c = proof.reads_sized
