use Rattle.std.proofs.Common.{◌≡◌, ap, arith}
use Rattle.std.specs.Fmt.{digits}
use Rattle.dh_explain.specs.Explained.{explained}
use Rattle.dh_explain.specs.RuleTexts.{explanation}
use Rattle.dh_explain.proofs.explanations.of_projections.Goals as goal

pub returns-in-23 : goal.returns-in-23
unfolding explanation explained digits
returns-in-23 c = ap explanation c.in-23.is

pub returns-in-24 : goal.returns-in-24
unfolding explanation explained digits
returns-in-24 c = ap explanation c.in-24.is

pub returns-in-25 : goal.returns-in-25
unfolding explanation explained digits
returns-in-25 c = ap explanation c.in-25.is

pub returns-in-26 : goal.returns-in-26
unfolding explanation explained digits
returns-in-26 c = ap explanation c.in-26.is

pub returns-in_default : goal.returns-in_default
unfolding explanation explained digits
returns-in_default c = let h = c.requires in let n = c.in_default in let is : c.args.rule ≡ 27 = grind (arith, h, n) in ap explanation is
