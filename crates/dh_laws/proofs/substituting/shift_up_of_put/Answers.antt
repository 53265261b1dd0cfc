use Rattle.dh_laws.proofs.Contracting.Contractions.{shift_up-put}
use Rattle.dh_laws.proofs.substituting.shift_up_of_put.Goals as goal

pub returns : goal.returns
returns c = shift_up-put
