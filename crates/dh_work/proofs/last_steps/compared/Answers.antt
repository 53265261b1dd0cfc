use Rattle.std.proofs.Common.{◌≡◌, ◌∙◌}
use Rattle.std.proofs.lemmas.Result.{IfOk-weaker}
use Rattle.dh_syntax.specs.Expressions.Bridge.{term}
use Rattle.dh_imports.specs.LastStep.{compared}
use Rattle.dh_imports.specs.Outcomes.{plain}
use Rattle.dh_work.proofs.Comings.{compared_none}
use Rattle.dh_work.proofs.last_steps.compared.Goals as goal

pub returns-in-None : goal.returns-in-None
returns-in-None c = record {
  outcome =
      IfOk-weaker c.same_value.result _ (λ o. plain o ≡ compared c.args.key.now c.args.key.now.digest (term c.args.value.now) c.args.origin.now)
      (λ o h. h ∙ compared_none c.args.key.now (term c.args.value.now) c.args.origin.now c.in-None.is) c.same_value.ensures.outcome;
  value = c.same_value.ensures.value;
}
