use Rattle.dh_grammar.proofs.Results.Deep as proof
use Rattle.dh_grammar.proofs.depths.stubs_spread.Goals as goal

pub returns : goal.returns
returns c = proof.stubs_spread
