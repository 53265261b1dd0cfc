use Rattle.std.proofs.Common.{◌≡◌, ap, arith}
use Rattle.std.specs.Fmt.{digits}
use Rattle.dh_explain.specs.Explained.{explained}
use Rattle.dh_explain.specs.RuleTexts.{explanation}
use Rattle.dh_explain.proofs.explanations.of_handlers.Goals as goal

pub returns-in-34 : goal.returns-in-34
unfolding explanation explained digits
returns-in-34 c = ap explanation c.in-34.is

pub returns-in-35 : goal.returns-in-35
unfolding explanation explained digits
returns-in-35 c = ap explanation c.in-35.is

pub returns-in-36 : goal.returns-in-36
unfolding explanation explained digits
returns-in-36 c = ap explanation c.in-36.is

pub returns-in-37 : goal.returns-in-37
unfolding explanation explained digits
returns-in-37 c = ap explanation c.in-37.is

pub returns-in_default : goal.returns-in_default
unfolding explanation explained digits
returns-in_default c = let h = c.requires in let n = c.in_default in let is : c.args.rule ≡ 38 = grind (arith, h, n) in ap explanation is
