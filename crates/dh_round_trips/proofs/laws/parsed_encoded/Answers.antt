use Rattle.dh_round_trips.proofs.RoundTrips as proof
use Rattle.dh_round_trips.proofs.laws.parsed_encoded.Goals as goal

pub returns : goal.returns
returns c = proof.parsed_encoded
