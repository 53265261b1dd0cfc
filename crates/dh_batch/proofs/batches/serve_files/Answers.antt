use Rattle.std.proofs.Common.{arith, ap, refl, ◌∙◌, ◌++◌, map}
use Rattle.dh_batch.proofs.Served.{are_served, have_served, none_served, on_err, queue_counts, stays_behind}
use Rattle.dh_batch.proofs.batches.serve_files.Goals as goal

pub gather-requires-clause-counts : goal.gather-requires-clause-counts
gather-requires-clause-counts g c =
    queue_counts (g.S.Session.replies c.args.session.now) (λ s. s.desk) (λ s. s.replies) (λ q. q.items) (λ s. s.served) c.args.workers c.take_stands.new.stands.items c.serve_stands.new.stands.items c.take_stands.new.desks.items
    c.args.desks.now.items c.stand_again.new.desks.items c.args.files.now c.take_stands.ensures.desks c.stand_again.ensures.desks (omega (arith, c.take_stands.ensures.count)) (omega (arith, c.take_stands.ensures.count, c.serve_stands.ensures.count))
    c.serve_stands.ensures.each c.stand_again.new.queues.items (c.stand_again.ensures.queues ∙ ap (λ qs. map (λ s. s.replies) c.serve_stands.new.stands.items ++ qs) c.in_ok-queues.ensures.items) (c.all_served-served.ensures.all c.if-served.true)

pub returns-then-served-clause-served : goal.returns-then-served-clause-served
returns-then-served-clause-served g c =
    are_served (g.S.Session.replies c.args.session.now) (λ s. s.desk) (λ s. s.replies) (λ q. q.items) (λ s. s.served) c.args.workers c.take_stands.new.stands.items c.serve_stands.new.stands.items c.take_stands.new.desks.items
    c.args.desks.now.items c.stand_again.new.desks.items c.args.files.now c.take_stands.ensures.desks c.stand_again.ensures.desks (omega (arith, c.take_stands.ensures.count)) (omega (arith, c.take_stands.ensures.count, c.serve_stands.ensures.count))
    c.serve_stands.ensures.each c.stand_again.new.queues.items (c.stand_again.ensures.queues ∙ ap (λ qs. map (λ s. s.replies) c.serve_stands.new.stands.items ++ qs) c.in_ok-queues.ensures.items) (c.all_served-served.ensures.all c.if-served.true) c.gather.result.items c.gather.ensures.count c.gather.ensures.dealt

pub returns-clause-part : goal.returns-clause-part
returns-clause-part g c =
    have_served (g.S.Session.replies c.args.session.now) (λ s. s.desk) (λ s. s.replies) (λ q. q.items) (λ s. s.served) c.args.workers c.take_stands.new.stands.items c.serve_stands.new.stands.items c.take_stands.new.desks.items
    c.args.desks.now.items c.stand_again.new.desks.items c.args.files.now c.take_stands.ensures.desks c.stand_again.ensures.desks (omega (arith, c.take_stands.ensures.count)) (omega (arith, c.take_stands.ensures.count, c.serve_stands.ensures.count))
    c.serve_stands.ensures.each

pub returns-then-served-clause-idle : goal.returns-then-served-clause-idle
returns-then-served-clause-idle g c =
    stays_behind _ c.take_stands.new.stands.items c.serve_stands.new.stands.items _ _ _ c.args.workers c.take_stands.ensures.desks c.stand_again.ensures.desks (omega (arith, c.take_stands.ensures.count)) (omega (arith, c.take_stands.ensures.count, c.serve_stands.ensures.count))

pub returns-clause-idle : goal.returns-clause-idle
returns-clause-idle g c =
    stays_behind _ c.take_stands.new.stands.items c.serve_stands.new.stands.items _ _ _ c.args.workers c.take_stands.ensures.desks c.stand_again.ensures.desks (omega (arith, c.take_stands.ensures.count)) (omega (arith, c.take_stands.ensures.count, c.serve_stands.ensures.count))

pub returns-in_err-stands-clause-part : goal.returns-in_err-stands-clause-part
returns-in_err-stands-clause-part g c = on_err c.from_residual.result _ (none_served (g.S.Session.replies c.args.session.now) c.args.workers c.args.desks.now.items c.args.desks.now.items refl)

pub returns-in_err-queues-clause-part : goal.returns-in_err-queues-clause-part
returns-in_err-queues-clause-part g c = on_err c.from_residual-in_err-queues.result _ (none_served (g.S.Session.replies c.args.session.now) c.args.workers c.args.desks.now.items c.args.desks.now.items refl)

pub returns-in_err-room-clause-part : goal.returns-in_err-room-clause-part
returns-in_err-room-clause-part g c = on_err c.from_residual-in_err-room.result _ (none_served (g.S.Session.replies c.args.session.now) c.args.workers c.args.desks.now.items c.args.desks.now.items refl)
