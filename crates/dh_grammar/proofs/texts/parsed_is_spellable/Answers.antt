use Rattle.dh_grammar.proofs.Results.Unique as proof
use Rattle.dh_grammar.proofs.texts.parsed_is_spellable.Goals as goal

pub returns : goal.returns
returns c = proof.parsed_is_spellable
