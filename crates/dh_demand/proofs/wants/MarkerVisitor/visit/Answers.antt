use Rattle.std.proofs.Common.{sym, ◌∙◌}
use Rattle.std.specs.Prelude.{true, false}
use Rattle.dh_demand.proofs.Wanting.{passes, marks_of}
use Rattle.dh_demand.proofs.wants.MarkerVisitor.visit.Goals as goal

pub returns-clause-next : goal.returns-clause-next
returns-clause-next g c k h = passes _ _ k c.visit-next.result _ c.passing-2.ensures (c.visit-next.ensures.next k h)

pub returns-then-not-is_noted-clause-next : goal.returns-then-not-is_noted-clause-next
returns-then-not-is_noted-clause-next g c k h = passes _ _ k c.visit-next.result _ c.passing.ensures (c.visit-next.ensures.next k h)

pub returns-clause-slots : goal.returns-clause-slots
returns-clause-slots g c k h = c.write.ensures ∙ marks_of _ _ k c.args.self.now.all true c.args.edge c.visit-next.result _ h (c.visit-next.ensures.next k h) (sym c.is_noted.ensures ∙ c.if-not-is_noted.false)

pub returns-then-not-is_noted-clause-slots : goal.returns-then-not-is_noted-clause-slots
returns-then-not-is_noted-clause-slots g c k h = marks_of _ _ k c.args.self.now.all false c.args.edge c.visit-next.result _ h (c.visit-next.ensures.next k h) (sym c.is_noted.ensures ∙ c.if-not-is_noted.true)
