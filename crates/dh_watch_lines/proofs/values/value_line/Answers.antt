use Rattle.dh_record.proofs.Closed.{value_indices}
use Rattle.dh_syntax.specs.Expressions.Bridge.{term}
use Rattle.dh_watch_lines.proofs.ValueLines.{for_value}
use Rattle.dh_watch_lines.proofs.values.value_line.Goals as goal

pub infer-requires-clause-indices : goal.infer-requires-clause-indices
infer-requires-clause-indices c = value_indices (term c.args.e.now) c.requires

pub form_line-requires-clause-indices : goal.form_line-requires-clause-indices
form_line-requires-clause-indices c = value_indices (term c.args.e.now) c.requires

pub form_line-requires-clause-typed : goal.form_line-requires-clause-typed
form_line-requires-clause-typed c = (term c.in-Ok._typed, (c.in-Ok.ensures.ok.cost, c.in-Ok.ensures.ok.typed))

pub returns-in-Err : goal.returns-in-Err
returns-in-Err c = for_value c.untyped.result c.in-Err.fault (term c.args.e.now) c.in-Err.ensures.err c.untyped.ensures
