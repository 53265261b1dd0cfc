use Rattle.std.proofs.Common.{◌≡◌, ap, arith}
use Rattle.std.specs.Fmt.{digits}
use Rattle.dh_explain.specs.Explained.{explained}
use Rattle.dh_explain.specs.RuleTexts.{explanation}
use Rattle.dh_explain.proofs.explanations.of_equivalences.Goals as goal

pub returns-in-47 : goal.returns-in-47
unfolding explanation explained digits
returns-in-47 c = ap explanation c.in-47.is

pub returns-in-48 : goal.returns-in-48
unfolding explanation explained digits
returns-in-48 c = ap explanation c.in-48.is

pub returns-in-49 : goal.returns-in-49
unfolding explanation explained digits
returns-in-49 c = ap explanation c.in-49.is

pub returns-in-50 : goal.returns-in-50
unfolding explanation explained digits
returns-in-50 c = ap explanation c.in-50.is

pub returns-in_default : goal.returns-in_default
unfolding explanation explained digits
returns-in_default c = let h = c.requires in let n = c.in_default in let is : c.args.rule ≡ 51 = grind (arith, h, n) in ap explanation is
