use Rattle.std.proofs.Common.{◌≡◌, ap, arith}
use Rattle.std.specs.Fmt.{digits}
use Rattle.dh_explain.specs.Explained.{explained}
use Rattle.dh_explain.specs.RuleTexts.{explanation}
use Rattle.dh_explain.proofs.explanations.of_lists.Goals as goal

pub returns-in-15 : goal.returns-in-15
unfolding explanation explained digits
returns-in-15 c = ap explanation c.in-15.is

pub returns-in-16 : goal.returns-in-16
unfolding explanation explained digits
returns-in-16 c = ap explanation c.in-16.is

pub returns-in-17 : goal.returns-in-17
unfolding explanation explained digits
returns-in-17 c = ap explanation c.in-17.is

pub returns-in_default : goal.returns-in_default
unfolding explanation explained digits
returns-in_default c = let h = c.requires in let n = c.in_default in let is : c.args.rule ≡ 18 = grind (arith, h, n) in ap explanation is
