use Rattle.std.proofs.Common.{◌≡◌, sym, ◌∙◌, subst, arith}
use Rattle.std.specs.Prelude.{IsUtf8}
use Rattle.std.proofs.lemmas.Result.{IfOk-weaker}
use Rattle.std.proofs.lemmas.Str.{utf8_valid_len_le}
use Rattle.dh_imports.specs.LastStep.{text_outcome}
use Rattle.dh_imports.specs.Outcomes.{plain}
use Rattle.dh_record.specs.Values.{HasValue}
use Rattle.dh_work.proofs.Comings.{of_own, text_large, text_good, text_bad}
use Rattle.dh_work.proofs.texts.text_outcome.Goals as goal

pub returns-then-bytes-gt-MOST_BYTES : goal.returns-then-bytes-gt-MOST_BYTES
returns-then-bytes-gt-MOST_BYTES c = record {
  outcome =
      of_own (λ o. plain o ≡ text_outcome c.args.key.now c.args.bytes.now c.args.allow.now) _ c.own_fault.result
      (text_large c.args.key.now c.args.bytes.now c.args.allow.now (omega arith)) c.own_fault.ensures;
  value = of_own HasValue _ c.own_fault.result tt c.own_fault.ensures;
}

pub overflow_cast-at : goal.overflow_cast-at
overflow_cast-at c = let short = utf8_valid_len_le c.args.bytes.now in omega (arith, short, c.valid_up_to-at.ensures, c.in-Err.ensures.valid_len)

pub returns-in-Ok : goal.returns-in-Ok
returns-in-Ok c = record {
  outcome =
      IfOk-weaker c.text_value.result _ (λ o. plain o ≡ text_outcome c.args.key.now c.args.bytes.now c.args.allow.now)
      (λ o h. text_good c.args.key.now c.args.bytes.now c.in-Ok.text.now c.args.allow.now o (omega arith) c.in-Ok.ensures.cases.1 c.in-Ok.ensures.cases.0 h) c.text_value.ensures.outcome;
  value = c.text_value.ensures.value;
}

pub returns-in-Err : goal.returns-in-Err
returns-in-Err c = record {
  outcome =
      of_own (λ o. plain o ≡ text_outcome c.args.key.now c.args.bytes.now c.args.allow.now) _ c.own_fault-in-Err.result
      (text_bad c.args.key.now c.args.bytes.now c.args.allow.now _ (omega arith) c.in-Err.ensures.cases.0 (c.valid_up_to-at.ensures ∙ c.in-Err.ensures.valid_len)) c.own_fault-in-Err.ensures;
  value = of_own HasValue _ c.own_fault-in-Err.result tt c.own_fault-in-Err.ensures;
}
