use Rattle.dh_syntax.specs.Expressions.Bridge.{term}
use Rattle.dh_watch_lines.proofs.ValueLines.{digest_line_told, form_indices, form_limit_told}
use Rattle.dh_watch_lines.proofs.values.form_line.Goals as goal

pub digest-requires-clause-indices : goal.digest-requires-clause-indices
digest-requires-clause-indices c = form_indices (term c.in-Ok.form) c.in-Ok.ensures.shallow c.in-Ok.ensures.indices

pub returns-in_ok-digest-in-Ok : goal.returns-in_ok-digest-in-Ok
returns-in_ok-digest-in-Ok c =
    digest_line_told c.digest_told.result (term c.args.e.now) (term c.in-Ok.form) c.in_ok-digest-in-Ok.field-0 c.requires.typed c.in-Ok.ensures.ok c.in-Ok.ensures.shallow
    c.in_ok-digest-in-Ok.ensures c.digest_told.ensures

pub returns-in-Err : goal.returns-in-Err
returns-in-Err c = form_limit_told c.limited.result (term c.args.e.now) c.in-Err.fault c.requires.typed c.in-Err.ensures.err c.limited.ensures
