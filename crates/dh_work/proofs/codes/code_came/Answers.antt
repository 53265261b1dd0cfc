use Rattle.dh_syntax.specs.Expressions.Bridge.{term}
use Rattle.dh_work.proofs.Comings.{has_type}
use Rattle.dh_work.proofs.codes.code_came.Goals as goal

pub typed-requires-clause-typed : goal.typed-requires-clause-typed
typed-requires-clause-typed c = has_type (term c.args.code.now) (term c.in-Ok.field-0) _ _ c.in-Ok.ensures.ok
