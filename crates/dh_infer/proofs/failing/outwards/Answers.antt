use Rattle.std.specs.Prelude.{refl}
use Rattle.dh_infer.proofs.failing.outwards.Goals as goal

pub returns-clause-ok : goal.returns-clause-ok
returns-clause-ok c = (record { path = c.push.new.self; rule = c.args.failure.rule }, refl, record { path = c.in_ok-push.ensures.items; rule = refl })
