use Rattle.dh_binary.proofs.ReadsBack as proof
use Rattle.dh_binary.proofs.coding.decodes_what_is_written.Goals as goal

pub returns : goal.returns
returns c = proof.decodes_bytes
