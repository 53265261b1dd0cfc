use Rattle.dh_syntax.proofs.LocationLaws.{chain-canonical}
use Rattle.dh_paths.proofs.laws.chained_is_canonical.Goals as goal

pub returns : goal.returns
returns c = chain-canonical
