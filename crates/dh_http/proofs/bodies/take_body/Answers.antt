use Rattle.dh_http.proofs.PlainLaws.{unclear}
use Rattle.dh_http.proofs.bodies.take_body.Goals as goal

pub returns-in-Unclear-clause-taken : goal.returns-in-Unclear-clause-taken
returns-in-Unclear-clause-taken g c = rw c.in-Unclear.is (unclear _ c.args.body.now.items c.requires.fits)
