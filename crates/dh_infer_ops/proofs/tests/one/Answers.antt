use Rattle.dh_types.proofs.ClosedCodes.{builtin-closed, closed-later}
use Rattle.dh_infer_ops.proofs.tests.one.Goals as goal

pub operator_step-requires-clause-found : goal.operator_step-requires-clause-found
operator_step-requires-clause-found c = c.known-found.ensures.there _ c.in_ok-normal.ensures.made.there

pub operator_step-requires-clause-closed : goal.operator_step-requires-clause-closed
operator_step-requires-clause-closed c = (closed-later c.constant.new.codes c.constant-2.new.codes c.in_ok-t.t c.in_ok-normal.ensures.grows c.in_ok-t.ensures.made.there (builtin-closed _ _ _ c.in_ok-t.ensures.made), tt)

pub operator_step-requires-clause-found_closed : goal.operator_step-requires-clause-found_closed
operator_step-requires-clause-found_closed c = c.known-found.ensures.closed _ (builtin-closed _ _ _ c.in_ok-normal.ensures.made)
