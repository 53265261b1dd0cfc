use Rattle.dh_encode.proofs.Spines.{node_term, bound_other, bound_variable}
use Rattle.dh_encode.proofs.parts.as_let.Goals as goal

pub returns-in-Let-clause-some : goal.returns-in-Let-clause-some
returns-in-Let-clause-some c = node_term c.args.e.now _ c.in-Node.op c.in-Node.kids c.as_slice.result.now c.in-Node.is c.in-Let.is c.as_slice.ensures

pub returns-in_default : goal.returns-in_default
returns-in_default c = record { some = tt; none = bound_other c.args.e.now c.in-Node.op c.in-Node.kids c.in-Node.is c.in_default.not-Let }

pub returns-in-Var-clause-none : goal.returns-in-Var-clause-none
returns-in-Var-clause-none c = bound_variable c.args.e.now c.in-Var.field-0 c.in-Var.field-1 c.in-Var.is
