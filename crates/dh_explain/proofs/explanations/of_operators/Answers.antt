use Rattle.std.proofs.Common.{◌≡◌, ap, arith}
use Rattle.std.specs.Fmt.{digits}
use Rattle.dh_explain.specs.Explained.{explained}
use Rattle.dh_explain.specs.RuleTexts.{explanation}
use Rattle.dh_explain.proofs.explanations.of_operators.Goals as goal

pub returns-in-10 : goal.returns-in-10
unfolding explanation explained digits
returns-in-10 c = ap explanation c.in-10.is

pub returns-in-11 : goal.returns-in-11
unfolding explanation explained digits
returns-in-11 c = ap explanation c.in-11.is

pub returns-in-12 : goal.returns-in-12
unfolding explanation explained digits
returns-in-12 c = ap explanation c.in-12.is

pub returns-in-13 : goal.returns-in-13
unfolding explanation explained digits
returns-in-13 c = ap explanation c.in-13.is

pub returns-in_default : goal.returns-in_default
unfolding explanation explained digits
returns-in_default c = let h = c.requires in let n = c.in_default in let is : c.args.rule ≡ 14 = grind (arith, h, n) in ap explanation is
