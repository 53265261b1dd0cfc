use Rattle.dh_syntax.specs.Expressions.Bridge.{term}
use Rattle.dh_work.proofs.FreeRows.{closed_tells}
use Rattle.dh_work.proofs.closed.is_closed.Goals as goal

pub returns : goal.returns
returns c = closed_tells (term c.args.e.now) c.in_ok-core.core _ c.in_ok-core.ensures.form c.has_free.ensures
