use Rattle.dh_watching.proofs.Stepping.{changed, refused_change}
use Rattle.dh_watching.proofs.following.change.Goals as goal

pub returns-in-Ok-clause-change : goal.returns-in-Ok-clause-change
returns-in-Ok-clause-change g c = changed _ _ _ _ c.in-Ok.ensures.changed c.change.ensures.asked c.change.ensures.counted

pub returns-in-Err-clause-change : goal.returns-in-Err-clause-change
returns-in-Err-clause-change g c =
    refused_change _ _ c.args.loc.now c.args.bytes c.in-Err.fault c.in-Err.ensures.same c.in-Err.ensures.kept c.change.ensures.asked c.change.ensures.counted c.in-Err.ensures.failed
