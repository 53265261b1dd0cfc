use Rattle.dh_session.proofs.Counting.{same_overs}
use Rattle.dh_session.proofs.workers.take_turn.Goals as goal

pub returns-in-Idle-clause-overs : goal.returns-in-Idle-clause-overs
returns-in-Idle-clause-overs g c = same_overs _ _ c.in-Idle.ensures.turn
