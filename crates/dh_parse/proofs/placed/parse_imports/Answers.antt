use Rattle.dh_parse.proofs.Placings.{offsets}
use Rattle.dh_parse.proofs.placed.parse_imports.Goals as goal

pub returns-in-Ok-import_offsets-clause-spelled : goal.returns-in-Ok-import_offsets-clause-spelled
returns-in-Ok-import_offsets-clause-spelled c = offsets _ _ _ c.in-Ok.ensures.spelled c.in-Ok-import_offsets.ensures
