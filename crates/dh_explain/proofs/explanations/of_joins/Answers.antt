use Rattle.std.proofs.Common.{◌≡◌, ap, arith}
use Rattle.std.specs.Fmt.{digits}
use Rattle.dh_explain.specs.Explained.{explained}
use Rattle.dh_explain.specs.RuleTexts.{explanation}
use Rattle.dh_explain.proofs.explanations.of_joins.Goals as goal

pub returns-in-28 : goal.returns-in-28
unfolding explanation explained digits
returns-in-28 c = ap explanation c.in-28.is

pub returns-in-29 : goal.returns-in-29
unfolding explanation explained digits
returns-in-29 c = ap explanation c.in-29.is

pub returns-in-30 : goal.returns-in-30
unfolding explanation explained digits
returns-in-30 c = ap explanation c.in-30.is

pub returns-in-31 : goal.returns-in-31
unfolding explanation explained digits
returns-in-31 c = ap explanation c.in-31.is

pub returns-in-32 : goal.returns-in-32
unfolding explanation explained digits
returns-in-32 c = ap explanation c.in-32.is

pub returns-in_default : goal.returns-in_default
unfolding explanation explained digits
returns-in_default c = let h = c.requires in let n = c.in_default in let is : c.args.rule ≡ 33 = grind (arith, h, n) in ap explanation is
