use Rattle.std.proofs.Common.{refl}
use Rattle.std.specs.Fmt.{digits}
use Rattle.dh_explain.specs.Explained.{explained}
use Rattle.dh_explain.specs.RuleTexts.{rule_list}
use Rattle.dh_explain.proofs.lists.rule_list.Goals as goal

pub returns : goal.returns
unfolding rule_list explained digits
returns c = refl
