use Rattle.std.proofs.Common.{◌≡◌, ap, arith}
use Rattle.std.specs.Fmt.{digits}
use Rattle.dh_explain.specs.Explained.{explained}
use Rattle.dh_explain.specs.RuleTexts.{explanation}
use Rattle.dh_explain.proofs.explanations.of_fields.Goals as goal

pub returns-in-19 : goal.returns-in-19
unfolding explanation explained digits
returns-in-19 c = ap explanation c.in-19.is

pub returns-in-20 : goal.returns-in-20
unfolding explanation explained digits
returns-in-20 c = ap explanation c.in-20.is

pub returns-in-21 : goal.returns-in-21
unfolding explanation explained digits
returns-in-21 c = ap explanation c.in-21.is

pub returns-in_default : goal.returns-in_default
unfolding explanation explained digits
returns-in_default c = let h = c.requires in let n = c.in_default in let is : c.args.rule ≡ 22 = grind (arith, h, n) in ap explanation is
