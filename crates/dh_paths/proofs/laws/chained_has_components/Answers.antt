use Rattle.dh_paths.proofs.Components.{chain-has_components}
use Rattle.dh_paths.proofs.laws.chained_has_components.Goals as goal

pub returns : goal.returns
returns c = chain-has_components
