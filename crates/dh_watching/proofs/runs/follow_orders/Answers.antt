use Rattle.std.proofs.Common.{inl}
use Rattle.dh_watching.proofs.Ending.{ends_of}
use Rattle.dh_watching.proofs.runs.follow_orders.Goals as goal

pub returns-in-Ok-clause-follows : goal.returns-in-Ok-clause-follows
returns-in-Ok-clause-follows g c = inl (ends_of _ _ _ _ _ _ c.go_through-gone.result c.go_through-gone.ensures.gone c.end.ensures)
