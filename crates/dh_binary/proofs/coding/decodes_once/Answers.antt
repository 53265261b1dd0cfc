use Rattle.dh_binary.proofs.Cutting as proof
use Rattle.dh_binary.proofs.coding.decodes_once.Goals as goal

pub returns : goal.returns
returns c = proof.decodes_once
