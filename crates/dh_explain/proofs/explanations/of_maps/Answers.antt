use Rattle.std.proofs.Common.{◌≡◌, ap, arith}
use Rattle.std.specs.Fmt.{digits}
use Rattle.dh_explain.specs.Explained.{explained}
use Rattle.dh_explain.specs.RuleTexts.{explanation}
use Rattle.dh_explain.proofs.explanations.of_maps.Goals as goal

pub returns-in-42 : goal.returns-in-42
unfolding explanation explained digits
returns-in-42 c = ap explanation c.in-42.is

pub returns-in-43 : goal.returns-in-43
unfolding explanation explained digits
returns-in-43 c = ap explanation c.in-43.is

pub returns-in-44 : goal.returns-in-44
unfolding explanation explained digits
returns-in-44 c = ap explanation c.in-44.is

pub returns-in-45 : goal.returns-in-45
unfolding explanation explained digits
returns-in-45 c = ap explanation c.in-45.is

pub returns-in_default : goal.returns-in_default
unfolding explanation explained digits
returns-in_default c = let h = c.requires in let n = c.in_default in let is : c.args.rule ≡ 46 = grind (arith, h, n) in ap explanation is
