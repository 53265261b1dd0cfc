use Rattle.dh_syntax.specs.Expressions.Bridge.{term}
use Rattle.dh_work.proofs.Comings.{good_plain, text_is_value}
use Rattle.dh_work.proofs.texts.text_value.Goals as goal

pub returns-clause-outcome : goal.returns-clause-outcome
returns-clause-outcome c = good_plain c.in_ok-value.value c.in_ok-origin.origin _ _ c.in_ok-value.ensures c.in_ok-origin.ensures

pub returns-clause-value : goal.returns-clause-value
returns-clause-value c = text_is_value (term c.in_ok-value.value) c.args.text.now c.in_ok-value.ensures
