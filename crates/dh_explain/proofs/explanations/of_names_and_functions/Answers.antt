use Rattle.std.proofs.Common.{◌≡◌, ap, arith}
use Rattle.std.specs.Fmt.{digits}
use Rattle.dh_explain.specs.Explained.{explained}
use Rattle.dh_explain.specs.RuleTexts.{explanation}
use Rattle.dh_explain.proofs.explanations.of_names_and_functions.Goals as goal

pub returns-in-1 : goal.returns-in-1
unfolding explanation explained digits
returns-in-1 c = ap explanation c.in-1.is

pub returns-in-2 : goal.returns-in-2
unfolding explanation explained digits
returns-in-2 c = ap explanation c.in-2.is

pub returns-in-3 : goal.returns-in-3
unfolding explanation explained digits
returns-in-3 c = ap explanation c.in-3.is

pub returns-in_default : goal.returns-in_default
unfolding explanation explained digits
returns-in_default c = let h = c.requires in let n = c.in_default in let is : c.args.rule ≡ 4 = grind (arith, h, n) in ap explanation is
