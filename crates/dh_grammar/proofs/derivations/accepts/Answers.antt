use Rattle.dh_grammar.proofs.Grammar.MachineLaws as proof
use Rattle.dh_grammar.proofs.derivations.accepts.Goals as goal

pub returns : goal.returns
returns c = proof.accepts
