use Rattle.std.proofs.Common.{◌++◌, map, ap, ◌∙◌, arith}
use Rattle.dh_session.proofs.Joins.{ends, none_fell, stays, stays_behind}
use Rattle.dh_session.proofs.runs.run.Goals as goal

pub returns-then-done-clause-ends : goal.returns-then-done-clause-ends
returns-then-done-clause-ends g c =
    ends (λ d. g.D.Desk.asked d) (λ d. g.D.Desk.faults d) (λ d. g.D.Desk.filed d) (λ p. p.desk) (λ p. p.seat) (λ s. s.shares) (λ p. p.done) _ _ _ _ _ _ _
    c.seat_desks.ensures.desks c.stand_again.ensures.desks (c.stand_again.ensures.seats ∙ ap (λ ss. map (λ p. p.seat) c.work_places.new.places.items ++ ss) c.seat_desks.ensures.none) c.work_places.ensures.count (omega (arith, c.seat_desks.ensures.count, c.work_places.ensures.count, c.in_ok-shared.ensures.count, c.requires.some))
    c.seat_desks.ensures.new (c.all_done-done.ensures.done c.if-done.true) c.work_places.ensures.each c.close-table.ensures.closes

pub returns-then-done-clause-filed : goal.returns-then-done-clause-filed
returns-then-done-clause-filed g c = stays (λ d. g.D.Desk.filed d) (λ p. p.desk) _ _ _ _ _ c.seat_desks.ensures.desks c.stand_again.ensures.desks c.work_places.ensures.count (λ i d lt. (c.work_places.ensures.each i d lt).files)

pub returns-else-done-clause-filed : goal.returns-else-done-clause-filed
returns-else-done-clause-filed g c = stays (λ d. g.D.Desk.filed d) (λ p. p.desk) _ _ _ _ _ c.seat_desks.ensures.desks c.stand_again.ensures.desks c.work_places.ensures.count (λ i d lt. (c.work_places.ensures.each i d lt).files)

pub returns-then-done-clause-counted : goal.returns-then-done-clause-counted
returns-then-done-clause-counted g c = none_fell (λ d. g.D.Desk.faults d) (λ p. p.desk) _ _ _ _ _ c.seat_desks.ensures.desks c.stand_again.ensures.desks c.work_places.ensures.count (λ i d lt. (c.work_places.ensures.each i d lt).fails.0)

pub returns-then-done-clause-idle : goal.returns-then-done-clause-idle
returns-then-done-clause-idle g c =
    stays_behind _ c.seat_desks.new.places.items c.work_places.new.places.items _ _ _ c.args.workers c.seat_desks.ensures.desks c.stand_again.ensures.desks (omega (arith, c.seat_desks.ensures.count, c.in_ok-shared.ensures.count))
    (omega (arith, c.seat_desks.ensures.count, c.work_places.ensures.count, c.in_ok-shared.ensures.count))

pub returns-else-done-clause-idle : goal.returns-else-done-clause-idle
returns-else-done-clause-idle g c =
    stays_behind _ c.seat_desks.new.places.items c.work_places.new.places.items _ _ _ c.args.workers c.seat_desks.ensures.desks c.stand_again.ensures.desks (omega (arith, c.seat_desks.ensures.count, c.in_ok-shared.ensures.count))
    (omega (arith, c.seat_desks.ensures.count, c.work_places.ensures.count, c.in_ok-shared.ensures.count))
