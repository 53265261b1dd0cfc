use Rattle.std.proofs.Common.{◌≡◌, ap, arith}
use Rattle.std.specs.Fmt.{digits}
use Rattle.dh_explain.specs.Explained.{explained}
use Rattle.dh_explain.specs.RuleTexts.{explanation}
use Rattle.dh_explain.proofs.explanations.of_merges.Goals as goal

pub returns-in-39 : goal.returns-in-39
unfolding explanation explained digits
returns-in-39 c = ap explanation c.in-39.is

pub returns-in-40 : goal.returns-in-40
unfolding explanation explained digits
returns-in-40 c = ap explanation c.in-40.is

pub returns-in_default : goal.returns-in_default
unfolding explanation explained digits
returns-in_default c = let h = c.requires in let n = c.in_default in let is : c.args.rule ≡ 41 = grind (arith, h, n) in ap explanation is
