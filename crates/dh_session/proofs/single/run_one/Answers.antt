use Rattle.std.proofs.Common.{◌≡◌, ap, ◌∙◌, subst, arith}
use Rattle.dh_shared.specs.Held.{none_held}
use Rattle.dh_session.specs.Inside.{Goes}
use Rattle.dh_session.proofs.Joins.{ends_one, set_only}
use Rattle.dh_session.proofs.single.run_one.Goals as goal

pub returns-then-done-clause-ends : goal.returns-then-done-clause-ends
returns-then-done-clause-ends g c =
    ends_one (λ d. g.D.Desk.asked d) (λ d. g.D.Desk.faults d) (λ d. g.D.Desk.filed d) (λ s. s.shares) c.args.desk.now c.ends_well-done.new.desk c.index_mut.result.now c.ends_well-done.new.seat _ _ c.close-table.ensures.closes
    (set_only (λ s. s.shares ≡ none_held 1) _ c.in_ok-shared.ensures.new c.ends_well-done.new.seat (omega (arith, c.in_ok-shared.ensures.count)))
    (ap (λ s. s.shares) c.index_mut.ensures.value ∙ c.in_ok-shared.ensures.new 0 c.index_mut.result.now (omega (arith, c.in_ok-shared.ensures.count)))
    (subst
    (λ b. Goes b (g.D.Desk.asked c.args.desk.now) (g.D.Desk.asked c.ends_well-done.new.desk) (g.D.Desk.faults c.args.desk.now) (g.D.Desk.faults c.ends_well-done.new.desk) (g.D.Desk.filed c.args.desk.now) (g.D.Desk.filed c.ends_well-done.new.desk)
    (c.index_mut.result.now).shares (c.ends_well-done.new.seat).shares)
    c.if-done.true c.ends_well-done.ensures)
