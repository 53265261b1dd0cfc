use Rattle.dh_watch_laws.proofs.Holding.{text_kept, look_kept, outcome_kept}
use Rattle.dh_watch_laws.proofs.outcomes.kept_sound.Goals as goal

pub returns-clause-text : goal.returns-clause-text
returns-clause-text c = text_kept

pub returns-clause-look : goal.returns-clause-look
returns-clause-look c = look_kept

pub returns-clause-outcome : goal.returns-clause-outcome
returns-clause-outcome c = outcome_kept
