use Rattle.dh_json.proofs.Movable.{json_same as law}
use Rattle.dh_json.proofs.laws.same_have_same.Goals as goal

pub returns : goal.returns
returns c = law
