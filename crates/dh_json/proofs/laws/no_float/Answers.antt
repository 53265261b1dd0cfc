use Rattle.dh_json.proofs.Plain.{no_float as law}
use Rattle.dh_json.proofs.laws.no_float.Goals as goal

pub returns : goal.returns
returns c = law
