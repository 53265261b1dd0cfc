use Rattle.dh_round_trips.proofs.RoundTrips as proof
use Rattle.dh_round_trips.proofs.laws.printed_again.Goals as goal

pub returns : goal.returns
returns c = proof.printed_again
