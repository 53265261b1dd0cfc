use Rattle.dhall_watch.proofs.Fresh.{lacks_at_once}
use Rattle.dhall_watch.proofs.system.watch_system.Goals as goal

pub returns-in_default : goal.returns-in_default
returns-in_default g c = lacks_at_once _ _ _ _ c.lack_memory.ensures

pub returns-in-Ok-two_desks : goal.returns-in-Ok-two_desks
returns-in-Ok-two_desks g c = (_, c.watch_desks.ensures)

pub returns-in-Err : goal.returns-in-Err
returns-in-Err g c = lacks_at_once _ _ _ _ c.lack_memory-in-Err.ensures
