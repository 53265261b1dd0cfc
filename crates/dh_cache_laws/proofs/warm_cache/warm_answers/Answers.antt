use Rattle.dh_cache_laws.proofs.WarmAnswers.{warm_answers}
use Rattle.dh_cache_laws.proofs.warm_cache.warm_answers.Goals as goal

pub returns : goal.returns
returns c = warm_answers
