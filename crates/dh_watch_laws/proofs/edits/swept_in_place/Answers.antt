use Rattle.dh_watch_laws.proofs.InPlace.{swept_in_place}
use Rattle.dh_watch_laws.proofs.edits.swept_in_place.Goals as goal

pub returns : goal.returns
returns c = swept_in_place
