use Rattle.dh_grammar.proofs.Results.Deep as proof
use Rattle.dh_grammar.proofs.depths.deep_exactly.Goals as goal

pub returns : goal.returns
returns c = proof.deep_exactly
