use Rattle.dh_grammar.proofs.Results.Answering as proof
use Rattle.dh_grammar.proofs.texts.parses_once.Goals as goal

pub returns : goal.returns
returns c = proof.parses_once
