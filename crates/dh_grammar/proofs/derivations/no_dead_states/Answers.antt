use Rattle.dh_grammar.proofs.Grammar.MachineLaws as proof
use Rattle.dh_grammar.proofs.derivations.no_dead_states.Goals as goal

pub returns : goal.returns
returns c = proof.no_dead_states
