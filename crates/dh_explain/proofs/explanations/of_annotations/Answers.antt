use Rattle.std.proofs.Common.{◌≡◌, ap, arith}
use Rattle.std.specs.Fmt.{digits}
use Rattle.dh_explain.specs.Explained.{explained}
use Rattle.dh_explain.specs.RuleTexts.{explanation}
use Rattle.dh_explain.proofs.explanations.of_annotations.Goals as goal

pub returns-in-52 : goal.returns-in-52
unfolding explanation explained digits
returns-in-52 c = ap explanation c.in-52.is

pub returns-in-53 : goal.returns-in-53
unfolding explanation explained digits
returns-in-53 c = ap explanation c.in-53.is

pub returns-in-54 : goal.returns-in-54
unfolding explanation explained digits
returns-in-54 c = ap explanation c.in-54.is

pub returns-in-55 : goal.returns-in-55
unfolding explanation explained digits
returns-in-55 c = ap explanation c.in-55.is

pub returns-in_default : goal.returns-in_default
unfolding explanation explained digits
returns-in_default c = let h = c.requires in let n = c.in_default in let is : c.args.rule ≡ 56 = grind (arith, h, n) in ap explanation is
