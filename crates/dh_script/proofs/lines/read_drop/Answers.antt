use Rattle.std.proofs.Common.{subst}
use Rattle.dh_script.specs.Reads.{IsLocated}
use Rattle.dh_script.proofs.Lining.{drop-is, drop-without_place}
use Rattle.dh_script.proofs.lines.read_drop.Goals as goal

pub returns-in-Some-clause-order : goal.returns-in-Some-clause-order
returns-in-Some-clause-order c = drop-is c.args.text.now c.in-Some.loc (subst (IsLocated c.args.text.now) c.in-Some.is c.in_ok-loc.ensures.located)

pub returns-in-None-clause-order : goal.returns-in-None-clause-order
returns-in-None-clause-order c = drop-without_place c.args.text.now (subst (IsLocated c.args.text.now) c.in-None.is c.in_ok-loc.ensures.located)
