use Rattle.dh_syntax.proofs.LocationLaws.{canon-twice}
use Rattle.dh_paths.proofs.laws.canonical_twice.Goals as goal

pub returns : goal.returns
returns c = canon-twice
