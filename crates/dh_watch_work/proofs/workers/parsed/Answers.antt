use Rattle.dh_watch_work.proofs.workers.parsed.Goals as goal

pub returns-in_ok-keys-in-Ok : goal.returns-in_ok-keys-in-Ok
returns-in_ok-keys-in-Ok c = (c.in-Ok.ensures.spelled, c.in_ok-keys-in-Ok.ensures)

pub returns-in_default : goal.returns-in_default
returns-in_default c = c.in-Err.ensures.refused c.in_default.not-Memory
