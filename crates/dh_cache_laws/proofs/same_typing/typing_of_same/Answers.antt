use Rattle.dh_cache_laws.proofs.SameLicences.{same_licences}
use Rattle.dh_cache_laws.proofs.SameTypings.{bare_judged, same_judged}
use Rattle.dh_cache_laws.proofs.same_typing.typing_of_same.Goals as goal

pub returns-clause-bare : goal.returns-clause-bare
returns-clause-bare c = bare_judged

pub returns-clause-same : goal.returns-clause-same
returns-clause-same c = same_judged

pub returns-clause-limits : goal.returns-clause-limits
returns-clause-limits c = same_licences
