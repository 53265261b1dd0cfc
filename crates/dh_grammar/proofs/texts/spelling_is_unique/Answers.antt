use Rattle.dh_grammar.proofs.Results.Unique as proof
use Rattle.dh_grammar.proofs.texts.spelling_is_unique.Goals as goal

pub returns : goal.returns
returns c = proof.spelling_is_unique
