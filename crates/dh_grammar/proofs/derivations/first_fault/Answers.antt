use Rattle.dh_grammar.proofs.Grammar.Outcomes as proof
use Rattle.dh_grammar.proofs.derivations.first_fault.Goals as goal

pub returns : goal.returns
returns c = proof.answers
