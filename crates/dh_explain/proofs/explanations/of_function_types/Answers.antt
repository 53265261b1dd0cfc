use Rattle.std.proofs.Common.{◌≡◌, ap, arith}
use Rattle.std.specs.Fmt.{digits}
use Rattle.dh_explain.specs.Explained.{explained}
use Rattle.dh_explain.specs.RuleTexts.{explanation}
use Rattle.dh_explain.proofs.explanations.of_function_types.Goals as goal

pub returns-in-5 : goal.returns-in-5
unfolding explanation explained digits
returns-in-5 c = ap explanation c.in-5.is

pub returns-in-6 : goal.returns-in-6
unfolding explanation explained digits
returns-in-6 c = ap explanation c.in-6.is

pub returns-in-7 : goal.returns-in-7
unfolding explanation explained digits
returns-in-7 c = ap explanation c.in-7.is

pub returns-in-8 : goal.returns-in-8
unfolding explanation explained digits
returns-in-8 c = ap explanation c.in-8.is

pub returns-in_default : goal.returns-in_default
unfolding explanation explained digits
returns-in_default c = let h = c.requires in let n = c.in_default in let is : c.args.rule ≡ 9 = grind (arith, h, n) in ap explanation is
