use Rattle.std.specs.Prelude.{refl}
use Rattle.dh_infer.proofs.beginnings.refuse.Goals as goal

pub returns : goal.returns
returns c = (record { path = c.new.result; rule = c.args.rule }, refl, c.new.ensures.items, refl)
