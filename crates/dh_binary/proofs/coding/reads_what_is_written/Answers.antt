use Rattle.dh_binary.proofs.ReadsBack as proof
use Rattle.dh_binary.proofs.coding.reads_what_is_written.Goals as goal

pub returns : goal.returns
returns c = proof.reads_what_is_written
