use Rattle.dh_grammar.proofs.Results.Places as proof
use Rattle.dh_grammar.proofs.places.reads_stretches.Goals as goal

pub returns : goal.returns
returns c = proof.reads_stretches
