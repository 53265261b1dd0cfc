use Rattle.dh_laws.proofs.Names.Occurrences.{is_free-alpha}
use Rattle.dh_laws.proofs.alpha.free_after_alpha.Goals as goal

pub returns : goal.returns
returns c = is_free-alpha
