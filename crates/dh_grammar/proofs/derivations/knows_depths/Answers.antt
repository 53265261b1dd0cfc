use Rattle.dh_grammar.proofs.Grammar.MachineLaws as proof
use Rattle.dh_grammar.proofs.derivations.knows_depths.Goals as goal

pub returns : goal.returns
returns c = proof.knows_depths
