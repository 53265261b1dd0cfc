use Rattle.dh_store.specs.Cells.{code_core}
use Rattle.dh_types.proofs.kinds.forall.Goals as goal

pub returns-in-Some-clause-older : goal.returns-in-Some-clause-older
returns-in-Some-clause-older c = c.forall_in.ensures.there c.args.id c.in-Some.ensures.older

pub returns-in-Some-clause-closed : goal.returns-in-Some-clause-closed
returns-in-Some-clause-closed c = λ h. c.forall_in.ensures.closed (code_core c.args.codes.now) (c.in-Some.ensures.closed h)
