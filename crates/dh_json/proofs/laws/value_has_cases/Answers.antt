use Rattle.dh_json.proofs.Places.{value_cases}
use Rattle.dh_json.proofs.laws.value_has_cases.Goals as goal

pub returns : goal.returns
returns c = value_cases
