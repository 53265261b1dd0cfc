use Rattle.std.proofs.Common.{sym}
use Rattle.dh_infer.proofs.Turning.{get-none, get-some}
use Rattle.dh_infer.proofs.sharing.first_at.Goals as goal

pub returns-in-Some : goal.returns-in-Some
returns-in-Some c = sym (get-some c.args.firsts.now c.args.code c.in-Some.first.now c.in-Some.ensures.lookup.3.0 c.in-Some.ensures.lookup.1)

pub returns-in-None : goal.returns-in-None
returns-in-None c = sym (get-none c.args.firsts.now c.args.code c.in-None.ensures.lookup.0)
