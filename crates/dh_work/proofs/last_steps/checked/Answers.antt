use Rattle.std.proofs.Common.{◌≡◌, sym, ◌∙◌}
use Rattle.std.proofs.lemmas.Result.{IfOk-weaker}
use Rattle.dh_syntax.specs.Expressions.Bridge.{term}
use Rattle.dh_imports.specs.LastStep.{compared}
use Rattle.dh_imports.specs.Outcomes.{plain}
use Rattle.dh_record.specs.Values.{HasValue}
use Rattle.dh_work.proofs.Comings.{compared_same, compared_differs, digest_room, of_own}
use Rattle.dh_work.proofs.last_steps.checked.Goals as goal

pub digest-requires-clause-indices : goal.digest-requires-clause-indices
digest-requires-clause-indices c = digest_room (term c.args.value.now) c.requires.value

pub returns-then-is_same_digest : goal.returns-then-is_same_digest
returns-then-is_same_digest c = record {
  outcome =
      IfOk-weaker c.same_value.result _ (λ o. plain o ≡ compared c.args.key.now c.args.key.now.digest (term c.args.value.now) c.args.origin.now)
      (λ o h. h ∙ compared_same c.args.key.now (term c.args.value.now) c.args.origin.now c.args.wanted c.in_ok-got.got c.requires.digest c.in_ok-got.ensures (sym c.is_same_digest.ensures ∙ c.if-is_same_digest.true))
      c.same_value.ensures.outcome;
  value = c.same_value.ensures.value;
}

pub returns-else-is_same_digest : goal.returns-else-is_same_digest
returns-else-is_same_digest c = record {
  outcome =
      of_own (λ o. plain o ≡ compared c.args.key.now c.args.key.now.digest (term c.args.value.now) c.args.origin.now) _ c.own_fault.result
      (compared_differs c.args.key.now (term c.args.value.now) c.args.origin.now c.args.wanted c.in_ok-got.got c.requires.digest c.in_ok-got.ensures (sym c.is_same_digest.ensures ∙ c.if-is_same_digest.false))
      c.own_fault.ensures;
  value = of_own HasValue _ c.own_fault.result tt c.own_fault.ensures;
}
