use Rattle.std.proofs.Common.{ap}
use Rattle.dh_script.specs.Orders.{order_of}
use Rattle.dh_watching.proofs.Stepping.{after_drop, after_set}
use Rattle.dh_watching.proofs.following.follow.Goals as goal

pub returns-in-Ok-clause-order : goal.returns-in-Ok-clause-order
returns-in-Ok-clause-order g c = after_set _ _ c.in-Set.loc c.in-Ok.bytes c.in-Set.bytes _ _ _ _ c.in-Ok.ensures (ap order_of c.in-Set.is) c.change.ensures.change

pub returns-in-Drop-clause-order : goal.returns-in-Drop-clause-order
returns-in-Drop-clause-order g c = after_drop _ _ c.in-Drop.loc _ _ _ _ (ap order_of c.in-Drop.is) c.change-in-Drop.ensures.change
