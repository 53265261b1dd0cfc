use Rattle.dh_grammar.proofs.Results.Answering as proof
use Rattle.dh_grammar.proofs.texts.spells_in_range.Goals as goal

pub returns : goal.returns
returns c = proof.spells_in_range
