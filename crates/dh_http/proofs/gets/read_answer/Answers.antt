use Rattle.std.proofs.Common.{rules}
use Rattle.dh_http.proofs.ReplyLaws.{absent, broken}
use Rattle.dh_http.proofs.gets.read_answer.Goals as goal

pub returns-in-404-clause-read : goal.returns-in-404-clause-read
returns-in-404-clause-read g c = absent _ _ _ _ c.requires.fits (search rules)

pub returns-in_default-clause-read : goal.returns-in_default-clause-read
returns-in_default-clause-read g c = broken _ _ _ _ c.requires.fits (search rules) (search rules)
