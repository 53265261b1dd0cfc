use Rattle.dh_json.proofs.Places.{fault_first}
use Rattle.dh_json.proofs.laws.fault_is_first.Goals as goal

pub returns : goal.returns
returns c = fault_first
