use Rattle.dh_watching.proofs.Stepping.{answer_cut, answered, refusal_cut, refused_ask}
use Rattle.dh_watching.proofs.following.ask.Goals as goal

pub returns-in-Ok-write_answer-clause-order : goal.returns-in-Ok-write_answer-clause-order
returns-in-Ok-write_answer-clause-order g c =
    answered _ _ _ c.args.place.now c.requires.named c.ask.ensures.same c.ask.ensures.counted _ c.in-Ok.line c.in-Ok.ensures.answered c.in-Ok.ensures.asks c.in-Ok-write_answer.ensures.ok

pub returns-in-Ok-clause-order : goal.returns-in-Ok-clause-order
returns-in-Ok-clause-order g c =
    answer_cut _ _ _ c.args.place.now c.requires.named c.ask.ensures.same c.ask.ensures.counted _ c.in-Ok.line c.in-Ok.ensures.answered c.in-Ok.ensures.asks c.in-Err-write_answer.ensures.err

pub returns-in-Ok-write_refusal-clause-order : goal.returns-in-Ok-write_refusal-clause-order
returns-in-Ok-write_refusal-clause-order g c =
    rw c.refusal_status.ensures
    (refused_ask _ _ _ c.args.place.now c.requires.named c.ask.ensures.same c.ask.ensures.counted _ c.in-Err.fault c.in-Err.ensures.refused c.in-Err.ensures.asks_one c.in-Err.ensures.failed
    c.in-Ok-write_refusal.ensures.ok)

pub returns-clause-order : goal.returns-clause-order
returns-clause-order g c =
    refusal_cut _ _ _ c.args.place.now c.requires.named c.ask.ensures.same c.ask.ensures.counted _ c.in-Err.fault c.in-Err.ensures.refused c.in-Err.ensures.asks_one c.in-Err.ensures.failed
    c.in-Err-write_refusal.ensures.err
