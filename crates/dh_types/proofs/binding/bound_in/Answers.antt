use Rattle.dh_store.specs.Cells.{code_core}
use Rattle.dh_types.specs.Binding.{bound_in}
use Rattle.dh_types.specs.Closed.{IsClosedBelow}
use Rattle.dh_types.proofs.BoundTypes.{bound-closed, changed-binding}
use Rattle.dh_types.proofs.Grown.{made-as, stands-as}
use Rattle.dh_types.proofs.binding.bound_in.Goals as goal

pub returns-clause-made : goal.returns-clause-made
returns-clause-made c = stands-as c.changed.new.codes c.changed.result _ _ (changed-binding c.args.variable 0 (code_core c.args.codes.now c.args.id)) c.changed.ensures.made

pub returns-clause-closed : goal.returns-clause-closed
returns-clause-closed c = λ h.
    made-as IsClosedBelow c.changed.new.codes c.changed.result (bound_in c.args.variable (code_core c.args.codes.now c.args.id)) (bound-closed c.args.variable _ h) (returns-clause-made c)
