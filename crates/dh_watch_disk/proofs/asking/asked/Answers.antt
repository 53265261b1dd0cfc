use Rattle.dh_watch_disk.proofs.Asked.{answered, refused}
use Rattle.dh_watch_disk.proofs.asking.asked.Goals as goal

pub returns-in-Ok-clause-told : goal.returns-in-Ok-clause-told
returns-in-Ok-clause-told g c = answered _ _ _ c.ask.ensures.same c.ask.ensures.counted c.in-Ok.line c.in-Ok.ensures.answered c.in-Ok.ensures.asks

pub returns-in-Err-clause-told : goal.returns-in-Err-clause-told
returns-in-Err-clause-told g c = refused _ _ _ c.ask.ensures.same c.ask.ensures.counted c.in-Err.fault c.in-Err.ensures.refused c.in-Err.ensures.asks_one c.in-Err.ensures.failed
