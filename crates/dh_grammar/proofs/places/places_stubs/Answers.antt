use Rattle.dh_grammar.proofs.Results.Places as proof
use Rattle.dh_grammar.proofs.places.places_stubs.Goals as goal

pub returns-clause-offsets : goal.returns-clause-offsets
returns-clause-offsets c = proof.places_offsets

pub returns-clause-stretches : goal.returns-clause-stretches
returns-clause-stretches c = proof.places_stretches
