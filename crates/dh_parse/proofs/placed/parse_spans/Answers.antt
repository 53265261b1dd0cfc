use Rattle.dh_parse.proofs.Placings.{stretches}
use Rattle.dh_parse.proofs.placed.parse_spans.Goals as goal

pub returns-in-Ok-stretches-clause-spelled : goal.returns-in-Ok-stretches-clause-spelled
returns-in-Ok-stretches-clause-spelled c = stretches _ _ _ c.in-Ok.ensures.spelled c.in-Ok-stretches.ensures
