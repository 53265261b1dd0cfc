use Rattle.dh_tokens.proofs.FrontMarks.{rows-where}
use Rattle.dh_tokens.proofs.marks.rows.Goals as goal

pub returns-in-47 : goal.returns-in-47
returns-in-47 c = rows-where 47 c.args.first c.in-47.is

pub returns-in-226 : goal.returns-in-226
returns-in-226 c = rows-where 0xE2 c.args.first c.in-226.is
