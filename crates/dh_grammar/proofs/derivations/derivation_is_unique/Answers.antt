use Rattle.dh_grammar.proofs.Grammar.MachineLaws as proof
use Rattle.dh_grammar.proofs.derivations.derivation_is_unique.Goals as goal

pub returns : goal.returns
returns c = proof.derivation_is_unique
