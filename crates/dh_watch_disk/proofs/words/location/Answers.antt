use Rattle.dh_watch_disk.proofs.Located.{spells_nowhere}
use Rattle.dh_watch_disk.proofs.words.location.Goals as goal

pub returns-in-None-clause-wrong : goal.returns-in-None-clause-wrong
returns-in-None-clause-wrong c = spells_nowhere _ _ _ c.as_bytes.ensures.value c.in-None.is c.in-Ok.ensures.located _
